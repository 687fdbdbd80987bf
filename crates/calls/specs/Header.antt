-- How the first line is written, and why another is refused.
-- Assumes nothing.
use Rattle.std.specs.Prelude.{◌≡◌, ℕ, ◌≤◌, List, [], ◌∷◌, ◌++◌, ◌≢◌}
use Rattle.calls.specs.declared.header.Header.{Header}
use Rattle.calls.specs.declared.header.Held.{Held}
use Rattle.calls.specs.declared.header.Held.TheVariants.{Count, Span}
use Rattle.text.specs.declared.unread.Unread.{Unread}
use Rattle.text.specs.declared.unread.Unread.TheVariants.{TooLong, NoLineEnd, BadHeader, UnknownLetter, BadNumbers, WrongCount, OutOfRange}
use Rattle.text.specs.Form.{spaced}

-- the words count and span
abbrev pub name_of : Held → List ℕ
name_of Count = 99 ∷ (111 ∷ (117 ∷ (110 ∷ (116 ∷ []))))
name_of Span = 115 ∷ (112 ∷ (97 ∷ (110 ∷ [])))

-- the bytes before the line's end are those of the header, with 1 to 256 cells
pub record HeaderForm (front : List ℕ) (h : Header) : Type 0 where
  pub whole : front ≡ name_of h.held ++ spaced (h.cells ∷ [])
  pub low : 1 ≤ h.cells
  pub high : h.cells ≤ 256

pub record HeaderRead (line : List ℕ) (h : Header) : Type 0 where
  pub front : List ℕ
  pub ends : line ≡ front ++ (10 ∷ [])
  pub form : HeaderForm front h

-- the first question that a first line answers with no
abbrev pub NoHeader : List ℕ → Unread → Type 0
NoHeader line TooLong = ⊥
NoHeader line NoLineEnd = (front : List ℕ) → line ≢ front ++ (10 ∷ [])
NoHeader line BadHeader = (front : List ℕ) × (line ≡ front ++ (10 ∷ [])) × ((h : Header) → HeaderForm front h → ⊥)
NoHeader line UnknownLetter = ⊥
NoHeader line BadNumbers = ⊥
NoHeader line WrongCount = ⊥
NoHeader line OutOfRange = ⊥
