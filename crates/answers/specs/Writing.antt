-- How an answer is written as a line of bytes.
-- Assumes nothing.
use Rattle.std.specs.Prelude.{◌≡◌, ℕ, ◌<◌, List, [], ◌∷◌, ◌++◌, length, take, Ok, Err, codes, Result}
use Rattle.stores.specs.Fault.{cause_number}
use Rattle.engine.specs.declared.call.Reply.{Reply}
use Rattle.engine.specs.declared.call.Reply.TheVariants.{Done, Task, Value, Ready}
use Rattle.engine.specs.declared.call.Turn.{Turn}
use Rattle.engine.specs.declared.refusal.Refusal.{Refusal}
use Rattle.engine.specs.declared.refusal.Refusal.TheVariants.{Rule, Store}
use Rattle.engine.specs.Numbers.{number_of}
use Rattle.text.specs.Form.{spaced}

-- the numbers after `no`: the refusal's, and where the store refused also cause, depth and cell of its fault
abbrev pub refused_by : Refusal → List ℕ
refused_by (Rule why) = number_of (Rule why) ∷ []
refused_by (Store fault) =
    number_of (Store fault) ∷ cause_number fault.cause ∷ fault.depth ∷ fault.cell ∷ []

abbrev pub refusal_text : Refusal → List ℕ
refusal_text why = codes "no" ++ spaced (refused_by why)

-- numbers are those that write a value
module _ {V : Type 0} (numbers : V → List ℕ) where
  abbrev pub reply_text : Reply V → List ℕ
  reply_text Done = codes "ok"
  reply_text (Task n) = codes "task" ++ spaced (n ∷ [])
  reply_text (Value v) = codes "value" ++ spaced (numbers v)
  reply_text (Ready count list) = codes "ready" ++ spaced (take count list)

  -- the line of an answer, with its end
  abbrev pub line_of : Result (Reply V) Refusal → List ℕ
  line_of (Ok reply) = reply_text reply ++ (10 ∷ [])
  line_of (Err why) = refusal_text why ++ (10 ∷ [])

  -- the lines of the answers of some turns, in their order
  abbrev pub lines_of : List (Turn V) → List ℕ
  lines_of [] = []
  lines_of (e ∷ es) = line_of e.answer ++ lines_of es

  -- the lines of the turns were written after the bytes before: of all of them, or for want of memory of the first of them
  abbrev pub Wrote : {U Y : Type 0} → List ℕ → List (Turn V) → Result U Y → List ℕ → Type 0
  Wrote before turns (Ok u) bytes = bytes ≡ before ++ lines_of turns
  Wrote before turns (Err y) bytes = (k : ℕ) × (k < length turns) × (bytes ≡ before ++ lines_of (take k turns))
