-- What a text prints that is given as a list of calls.
-- Assumes nothing.
use Rattle.std.specs.Prelude.{◌≡◌, ℕ, ◌<◌, ◌≤◌, List, [], ◌∷◌, ◌++◌, length, Some, None, codes, Option}
use Rattle.elements.specs.declared.element.Element as element
use Rattle.elements.specs.Element.{count_of, count_made, count_updated, span_made, span_rest, span_updated}
use Rattle.engine.specs.Run.{calls_of}
use Rattle.engine.specs.declared.call.Turn.{Turn}
use Rattle.calls.specs.declared.header.Header.{Header}
use Rattle.calls.specs.declared.header.Held.{Held}
use Rattle.calls.specs.declared.header.Held.TheVariants.{Count, Span}
use Rattle.text.specs.declared.unread.Unread.{Unread}
use Rattle.text.specs.declared.unread.Unread.TheVariants.{TooLong}
use Rattle.calls.specs.declared.written.Written.{Written}
use Rattle.text.specs.Form.{spaced}
use Rattle.calls.specs.Header.{HeaderRead, NoHeader}
use Rattle.text.specs.Lines.{line_of, after_line}
use Rattle.text.specs.Unread.{unread_number}
use Rattle.answers.specs.Writing.{lines_of}
use Rattle.lists.specs.declared.listing.BadLine.{BadLine}
use Rattle.lists.specs.Reading.{CallsRead, HasForm}
use Rattle.lists.specs.Running.{AllLent, RanPiled}

-- as many bytes as a list may have
abbrev pub most_bytes : ℕ
most_bytes = 32768

-- the words that tell a line that is not read
abbrev pub bad_line : ℕ → Unread → List ℕ
bad_line n why = codes "line" ++ (spaced (n ∷ []) ++ (codes " no" ++ (spaced (unread_number why ∷ []) ++ (10 ∷ []))))

-- how the output ends
abbrev pub ending : Option BadLine → List ℕ
ending None = []
ending (Some bad) = bad_line bad.line bad.why

-- the turns were taken on a new pile of n cells, with the calls that they had before, and the output is the lines of their answers
pub record Taken {V : Type 0} (numbers : V → List ℕ) (rest : V) (updated : V → V → V) (n : ℕ) (before turns : List (Turn V)) (out : List ℕ) : Type 0 where
  pub calls : calls_of turns ≡ calls_of before
  pub ran : RanPiled rest updated n turns
  pub lines : out ≡ lines_of numbers turns

-- the output is the lines of the answers of a run of exactly these calls, on a new pile of n cells
pub record Answers {V : Type 0} (numbers : V → List ℕ) (rest : V) (updated : V → V → V) (n : ℕ) (calls : List (Written V)) (out : List ℕ) : Type 0 where
  pub turns : List (Turn V)
  pub lent : AllLent calls (calls_of turns)
  pub ran : RanPiled rest updated n turns
  pub lines : out ≡ lines_of numbers turns

-- what is printed for the lines after the header: the answers of the calls that the lines before the first no write, then the
-- line that is not read where there is one, and nothing more
pub record Body {V : Type 0} (numbers : V → List ℕ) (width : ℕ) (made : List ℕ → Option V) (rest : V) (updated : V → V → V) (n : ℕ) (text out : List ℕ) : Type 0 where
  pub calls : List (Written V)
  pub bad : Option BadLine
  pub answers : List ℕ
  pub read : CallsRead numbers width made 2 text calls bad
  pub form : HasForm numbers width made text calls bad
  pub run : Answers numbers rest updated n calls answers
  pub whole : out ≡ answers ++ ending bad

-- the same three, where the element says how values are written, rest and are updated
module _ {V : Type 0} (e : element.Ghosts V) where
  abbrev pub TakenBy : ℕ → List (Turn V) → List (Turn V) → List ℕ → Type 0
  TakenBy n before turns out = Taken e.numbers e.rest e.updated n before turns out

  abbrev pub AnswersBy : ℕ → List (Written V) → List ℕ → Type 0
  AnswersBy n calls out = Answers e.numbers e.rest e.updated n calls out

  abbrev pub BodyBy : ℕ → List ℕ → List ℕ → Type 0
  BodyBy n text out = Body e.numbers e.WIDTH e.made e.rest e.updated n text out

abbrev pub BodyOf : Header → List ℕ → List ℕ → Type 0
BodyOf h text out = by h.held
  where
    by : Held → Type 0
    by Count = Body (λ v. v.value ∷ []) 1 count_made (count_of 0) count_updated h.cells text out
    by Span = Body (λ v. v.first ∷ v.last ∷ []) 2 span_made span_rest span_updated h.cells text out

pub data Printed (text out : List ℕ) : Type 0 where
  -- a text of too many bytes
  too_long : most_bytes < length text → out ≡ bad_line 0 TooLong → Printed text out
  -- a text whose first line is no header
  headless : length text ≤ most_bytes → (why : Unread) → NoHeader (line_of text) why → out ≡ bad_line 1 why → Printed text out
  -- a header, and what its lines print
  headed : length text ≤ most_bytes → (h : Header) → HeaderRead (line_of text) h → BodyOf h (after_line text) out → Printed text out
