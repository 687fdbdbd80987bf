-- The calls that the lines of a text write, up to the first line that is not read.
-- Assumes nothing.
use Rattle.std.specs.Prelude.{◌≡◌, ℕ, ◌+◌, List, [], ◌∷◌, ◌++◌, Some, None, Option, ◌≢◌}
use Rattle.elements.specs.declared.element.Element as element
use Rattle.calls.specs.declared.written.Written.{Written}
use Rattle.calls.specs.Calls.{letter_of, numbers_of, writing, Right, CallRead, NoCall}
use Rattle.text.specs.Lines.{line_of, after_line}
use Rattle.lists.specs.declared.listing.BadLine.{BadLine}

-- values are written by numbers, so many of them, and made from them
module _ {E : Type 0} (value_numbers : E → List ℕ) (width : ℕ) (made : List ℕ → Option E) where
  -- the lines that write the calls, one after the other
  abbrev pub writings : List (Written E) → List ℕ
  writings [] = []
  writings (w ∷ ws) = writing value_numbers w ++ writings ws

  -- the numbers of all calls are right
  abbrev pub AllRight : List (Written E) → Type 0
  AllRight [] = Unit {0}
  AllRight (w ∷ ws) = Right width made (letter_of w) (numbers_of value_numbers w) × AllRight ws

  -- with no line that is not read, the text is the writing of the calls; with one, it is the writing of no calls at all
  abbrev pub HasForm : List ℕ → List (Written E) → Option BadLine → Type 0
  HasForm text ws None = AllRight ws × (text ≡ writings ws)
  HasForm text ws (Some bad) = (vs : List (Written E)) → AllRight vs → text ≢ writings vs

  -- the lines of the text, numbered from n on, write the calls one after the other; then the text ends, or the next line is not
  -- read, for its first no
  abbrev pub CallsRead : ℕ → List ℕ → List (Written E) → Option BadLine → Type 0
  CallsRead n text [] None = text ≡ []
  CallsRead n text [] (Some bad) =
      (text ≢ []) × (bad.line ≡ n) × NoCall value_numbers width made (line_of text) bad.why
  CallsRead n text (w ∷ ws) end =
      (text ≢ []) × CallRead value_numbers width made (line_of text) w × CallsRead (n + 1) (after_line text) ws end

-- the same, where the element says how values are written and made
abbrev pub CallsReadBy : {E : Type 0} → element.Ghosts E → ℕ → List ℕ → List (Written E) → Option BadLine → Type 0
CallsReadBy e n text ws end = CallsRead e.numbers e.WIDTH e.made n text ws end
