-- How calls are written, and the questions that a line is asked.
-- Assumes nothing.
use Rattle.std.specs.Prelude.{◌≡◌, ℕ, ◌+◌, ◌*◌, ◌≤◌, true, cond, List, [], ◌∷◌, ◌++◌, length, drop, is_some, vec_items, Option, Result, MatchResult, ◌≢◌, slice_index, slice_index_or}
use Rattle.elements.specs.declared.element.Element as element
use Rattle.kinds.specs.declared.access.Access.{Access}
use Rattle.calls.specs.declared.letter.Letter.{Letter}
use Rattle.calls.specs.declared.letter.Letter.TheVariants.{Create, Start, Finish, Wait, Resume, Release, Read, Write, Update, Look, Ready}
use Rattle.text.specs.declared.unread.Stop.{Stop}
use Rattle.text.specs.declared.unread.Unread.{Unread}
use Rattle.text.specs.declared.unread.Unread.TheVariants.{TooLong, NoLineEnd, BadHeader, UnknownLetter, BadNumbers, WrongCount, OutOfRange}
use Rattle.calls.specs.declared.written.Written.{Written}
use Rattle.calls.specs.declared.written.Written.TheVariants as written
use Rattle.text.specs.Form.{spaced, AllSmall, Writes}
use Rattle.text.specs.Unread.{Stopped}

-- the letters n, s, f, w, c, r, g, p, u, l and q
abbrev pub byte_of : Letter → ℕ
byte_of Create = 110
byte_of Start = 115
byte_of Finish = 102
byte_of Wait = 119
byte_of Resume = 99
byte_of Release = 114
byte_of Read = 103
byte_of Write = 112
byte_of Update = 117
byte_of Look = 108
byte_of Ready = 113

-- the letter is that of the character, or no letter has it
abbrev pub LetterRead : ℕ → Result Letter Unread → Type 0
LetterRead c r = MatchResult r (λ l. byte_of l ≡ c) (λ why. (why ≡ UnknownLetter) × ((l : Letter) → byte_of l ≢ c))

abbrev pub letter_of : {E : Type 0} → Written E → Letter
letter_of (written.Create p waits accesses) = Create
letter_of (written.Start t) = Start
letter_of (written.Finish t) = Finish
letter_of (written.Wait t) = Wait
letter_of (written.Resume t) = Resume
letter_of (written.Release t lo hi) = Release
letter_of (written.Read t c) = Read
letter_of (written.Write t c v) = Write
letter_of (written.Update t c a) = Update
letter_of (written.Look c) = Look
letter_of written.Ready = Ready

abbrev pub access_numbers : List Access → List ℕ
access_numbers [] = []
access_numbers (a ∷ more) = a.lo ∷ (a.hi ∷ (a.code ∷ access_numbers more))

-- the numbers of a call in their order, over those of its value
abbrev pub numbers_of : {E : Type 0} → (E → List ℕ) → Written E → List ℕ
numbers_of value_numbers (written.Create p waits accesses) =
    p ∷ (cond waits 1 0 ∷ (length (vec_items accesses) ∷ access_numbers (vec_items accesses)))
numbers_of value_numbers (written.Start t) = t ∷ []
numbers_of value_numbers (written.Finish t) = t ∷ []
numbers_of value_numbers (written.Wait t) = t ∷ []
numbers_of value_numbers (written.Resume t) = t ∷ []
numbers_of value_numbers (written.Release t lo hi) = t ∷ (lo ∷ (hi ∷ []))
numbers_of value_numbers (written.Read t c) = t ∷ (c ∷ [])
numbers_of value_numbers (written.Write t c v) = t ∷ (c ∷ value_numbers v)
numbers_of value_numbers (written.Update t c a) = t ∷ (c ∷ value_numbers a)
numbers_of value_numbers (written.Look c) = c ∷ []
numbers_of value_numbers written.Ready = []

-- a line of a letter and numbers
abbrev pub line_with : Letter → List ℕ → List ℕ
line_with l ns = byte_of l ∷ (spaced ns ++ (10 ∷ []))

abbrev pub writing : {E : Type 0} → (E → List ℕ) → Written E → List ℕ
writing value_numbers w = line_with (letter_of w) (numbers_of value_numbers w)

-- how many numbers a call needs, where a value has so many
abbrev pub needed : ℕ → Letter → List ℕ → ℕ
needed width Create ns = 3 + 3 * slice_index ns 2
needed width Start ns = 1
needed width Finish ns = 1
needed width Wait ns = 1
needed width Resume ns = 1
needed width Release ns = 3
needed width Read ns = 2
needed width Write ns = 2 + width
needed width Update ns = 2 + width
needed width Look ns = 1
needed width Ready ns = 0

-- numbers that are a region and a code each, all in range
abbrev pub AccessesFit : List ℕ → Type 0
AccessesFit [] = Unit {0}
AccessesFit (lo ∷ []) = ⊥
AccessesFit (lo ∷ (hi ∷ [])) = ⊥
AccessesFit (lo ∷ (hi ∷ (code ∷ more))) = (lo ≤ 65535) × (hi ≤ 65535) × (code ≤ 255) × AccessesFit more

-- all numbers are in range, where values are made from numbers
abbrev pub Fits : {E : Type 0} → (List ℕ → Option E) → Letter → List ℕ → Type 0
Fits made Create ns = (slice_index ns 0 ≤ 65535) × (slice_index ns 1 ≤ 1) × (slice_index ns 2 ≤ 255) × AccessesFit (drop 3 ns)
Fits made Start ns = slice_index ns 0 ≤ 65535
Fits made Finish ns = slice_index ns 0 ≤ 65535
Fits made Wait ns = slice_index ns 0 ≤ 65535
Fits made Resume ns = slice_index ns 0 ≤ 65535
Fits made Release ns = (slice_index ns 0 ≤ 65535) × (slice_index ns 1 ≤ 65535) × (slice_index ns 2 ≤ 65535)
Fits made Read ns = (slice_index ns 0 ≤ 65535) × (slice_index ns 1 ≤ 65535)
Fits made Write ns = (slice_index ns 0 ≤ 65535) × (slice_index ns 1 ≤ 65535) × (is_some (made (drop 2 ns)) ≡ true)
Fits made Update ns = (slice_index ns 0 ≤ 65535) × (slice_index ns 1 ≤ 65535) × (is_some (made (drop 2 ns)) ≡ true)
Fits made Look ns = slice_index ns 0 ≤ 65535
Fits made Ready ns = Unit {0}

-- the numbers pass every question after that of the letter
pub record Right {E : Type 0} (width : ℕ) (made : List ℕ → Option E) (l : Letter) (ns : List ℕ) : Type 0 where
  pub small : AllSmall ns
  pub counted : length ns ≡ needed width l ns
  pub fits : Fits made l ns

-- the first question that a line answers with no
abbrev pub FirstNo : {E : Type 0} → ℕ → (List ℕ → Option E) → List ℕ → Unread → Type 0
FirstNo width made line TooLong = ⊥
FirstNo width made line NoLineEnd = (front : List ℕ) → line ≢ front ++ (10 ∷ [])
FirstNo width made line BadHeader = ⊥
FirstNo width made line UnknownLetter =
    (front : List ℕ) × (line ≡ front ++ (10 ∷ [])) × ((l : Letter) (tail : List ℕ) → front ≢ byte_of l ∷ tail)
FirstNo width made line BadNumbers =
    (l : Letter) × (tail : List ℕ) × (line ≡ byte_of l ∷ (tail ++ (10 ∷ []))) × ((ns : List ℕ) → Writes tail ns → ⊥)
FirstNo width made line WrongCount =
    (l : Letter) × (ns : List ℕ) × (line ≡ line_with l ns) × AllSmall ns × (length ns ≢ needed width l ns)
FirstNo width made line OutOfRange =
    (l : Letter) × (ns : List ℕ) × (line ≡ line_with l ns) × AllSmall ns × (length ns ≡ needed width l ns)
    × (Fits made l ns → ⊥)

-- the first three numbers are those of the access, and in range
pub record FirstAccess (ns : List ℕ) (a : Access) : Type 0 where
  pub lo_is : a.lo ≡ slice_index ns 0
  pub hi_is : a.hi ≡ slice_index ns 1
  pub code_is : a.code ≡ slice_index ns 2
  pub lo_fits : slice_index_or ns 0 0 ≤ 65535
  pub hi_fits : slice_index_or ns 1 0 ≤ 65535
  pub code_fits : slice_index_or ns 2 0 ≤ 255

-- the call has the letter and the numbers, and all are in range
pub record Made {E : Type 0} (value_numbers : E → List ℕ) (made : List ℕ → Option E) (l : Letter) (ns : List ℕ) (w : Written E) : Type 0 where
  pub letter : letter_of w ≡ l
  pub numbers : numbers_of value_numbers w ≡ ns
  pub fits : Fits made l ns

-- the question after the letter and the numbers that has the answer no: there are too few or too many, or one is out of range
abbrev pub NumbersNo : {E : Type 0} → element.Ghosts E → Letter → List ℕ → Unread → Type 0
NumbersNo e l ns TooLong = ⊥
NumbersNo e l ns NoLineEnd = ⊥
NumbersNo e l ns BadHeader = ⊥
NumbersNo e l ns UnknownLetter = ⊥
NumbersNo e l ns BadNumbers = ⊥
NumbersNo e l ns WrongCount = length ns ≢ needed e.WIDTH l ns
NumbersNo e l ns OutOfRange = (length ns ≡ needed e.WIDTH l ns) × (Fits e.made l ns → ⊥)

-- what reading the numbers after a letter answers
abbrev pub NumbersRead : {E : Type 0} → element.Ghosts E → Letter → List ℕ → Result (Written E) Stop → Type 0
NumbersRead e l ns r = MatchResult r (λ w. (length ns ≡ needed e.WIDTH l ns) × Made e.numbers e.made l ns w) (λ s. Stopped s (NumbersNo e l ns))

-- the line is the writing of the call, and passes every question
pub record CallRead {E : Type 0} (value_numbers : E → List ℕ) (width : ℕ) (made : List ℕ → Option E) (line : List ℕ) (w : Written E) : Type 0 where
  pub whole : line ≡ writing value_numbers w
  pub right : Right width made (letter_of w) (numbers_of value_numbers w)

-- the line has its end and its letter
abbrev pub Lettered : List ℕ → Type 0
Lettered line = (l : Letter) × (tail : List ℕ) × (line ≡ byte_of l ∷ (tail ++ (10 ∷ [])))

-- the line is refused for its first no, and is the writing of no call within the limits
pub record NoCall {E : Type 0} (value_numbers : E → List ℕ) (width : ℕ) (made : List ℕ → Option E) (line : List ℕ) (why : Unread) : Type 0 where
  pub first : FirstNo width made line why
  pub none : (w : Written E) → CallRead value_numbers width made line w → ⊥

-- what reading a line answers
abbrev pub LineRead : {E : Type 0} → element.Ghosts E → List ℕ → Result (Written E) Stop → Type 0
LineRead e line r = MatchResult r (CallRead e.numbers e.WIDTH e.made line) (λ s. Stopped s (NoCall e.numbers e.WIDTH e.made line))
