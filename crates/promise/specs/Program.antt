-- Histories, their program order, and carrying out steps on a plain list of cells.
-- V is the type of what a cell holds.
-- Assumes nothing.
use Rattle.std.specs.Prelude.{◌≡◌, ℕ, suc, Bool, cond, List, [], ◌∷◌, ◌++◌, ◌==◌, slice_index_or, slice_set}
use Rattle.kinds.specs.declared.deed.Deed.{Deed}
use Rattle.kinds.specs.declared.deed.Deed.TheVariants.{Reading, Writing, Updating}
use Rattle.order.specs.Questions.{Call, create, start, finish, wait, resume, release, step, look, ready}

-- what an accepted call answers: nothing, a new task's number, a cell's value, or the tasks that may start
pub data Reply (V : Type 0) : Type 0 where
  done : Reply V
  made : ℕ → Reply V
  value : V → Reply V
  listed : List ℕ → Reply V

-- a call and its answer. Taken: with the value that a write sets or an update adds (any, at other calls), and the reply.
-- Refused: with whether the store would have let the cell be written, and the number answered
pub data Entry (V : Type 0) : Type 0 where
  took : Call → V → Reply V → Entry V
  refused : Call → Bool → ℕ → Entry V

-- an accepted read, write or update; value is what a read answered, a write set or an update added
pub record Step (V : Type 0) : Type 0 where
  pub deed : Deed
  pub cell : ℕ
  pub value : V

-- the value in a reply, or else the one given
abbrev pub answered : {V : Type 0} → V → Reply V → V
answered given done = given
answered given (made n) = given
answered given (value v) = v
answered given (listed l) = given

-- the value of a step, from the value given and the reply
abbrev pub step_value : {V : Type 0} → Deed → V → Reply V → V
step_value Reading given reply = answered given reply
step_value Writing given reply = given
step_value Updating given reply = given

-- the step that a taken call made
abbrev pub step_of : {V : Type 0} → Deed → ℕ → V → Reply V → Step V
step_of d c given reply = record { deed = d; cell = c; value = step_value d given reply }

-- what task t does in the rest of a history, m tasks existing so far: its own steps, and at each of its creates all that the new
-- task, which gets the number m, does
abbrev pub body : {V : Type 0} → ℕ → ℕ → List (Entry V) → List (Step V)
body t m [] = []
body t m (refused k was_open n ∷ h) = body t m h
body t m (took (create p waits list) given reply ∷ h) = cond (p == t) (body m (suc m) h) [] ++ body t (suc m) h
body t m (took (step d u c) given reply ∷ h) = cond (u == t) (step_of d c given reply ∷ []) [] ++ body t m h
body t m (took (start u) given reply ∷ h) = body t m h
body t m (took (finish u) given reply ∷ h) = body t m h
body t m (took (wait u) given reply ∷ h) = body t m h
body t m (took (resume u) given reply ∷ h) = body t m h
body t m (took (release u lo hi) given reply ∷ h) = body t m h
body t m (took (look c) given reply ∷ h) = body t m h
body t m (took (ready places) given reply ∷ h) = body t m h

-- program order: what task 0 does
abbrev pub program_order : {V : Type 0} → List (Entry V) → List (Step V)
program_order h = body 0 1 h

module _ {V : Type 0} (rest : V) (updated : V → V → V) where
  -- what a step makes of the cells
  abbrev pub do_step : Deed → ℕ → V → List V → List V
  do_step Reading c v s = s
  do_step Writing c v s = slice_set s c v
  do_step Updating c v s = slice_set s c (updated (slice_index_or s c rest) v)

  -- a read finds the value that it answered
  abbrev pub Finds : Deed → ℕ → V → List V → Type 0
  Finds Reading c v s = slice_index_or s c rest ≡ v
  Finds Writing c v s = Unit {0}
  Finds Updating c v s = Unit {0}

  -- carried out one after the other on the cells s, every read finds what it answered, and the cells f are left
  abbrev pub Replays : List V → List (Step V) → List V → Type 0
  Replays s [] f = s ≡ f
  Replays s (x ∷ xs) f = Finds x.deed x.cell x.value s × Replays (do_step x.deed x.cell x.value s) xs f
