-- The promise of the order rules, for cells of any type with a rest value and an update that commutes.
-- Assumes nothing.
use Rattle.std.specs.Prelude.{◌≡◌, ℕ, ◌<◌, true, false, ◌&&◌, ◌⊎◌, List, length}
use Rattle.order.specs.Questions.{start, finish, resume, children_complete, accepted}
use Rattle.order.specs.Tasks.{World, is_finished, count, state_of, new, deeply_complete}
use Rattle.promise.specs.Program.{Entry, program_order, Replays}
use Rattle.promise.specs.Runs.{world, Runs}

-- updating by a and then by b equals updating by b and then by a
abbrev pub Commutes : {V : Type 0} → (V → V → V) → Type 0
Commutes {V} updated = (v a b : V) → updated (updated v a) b ≡ updated (updated v b) a

-- a start, a finish or a resume of some task would be accepted
abbrev pub GoesOn : World → Type 0
GoesOn w =
    (t : ℕ) × ((accepted w (start t) ≡ true) ⊎ ((accepted w (finish t) ≡ true) ⊎ (accepted w (resume t) ≡ true)))

module _ {V : Type 0} (rest : V) (updated : V → V → V) where
  -- what the calls answered and left is what their program order gives
  abbrev pub InProgramOrder : Type 0
  InProgramOrder =
      (s f : List V) (h : List (Entry V)) →
      Runs rest updated (new (length s)) s h f →
      Replays rest updated s (program_order h) f

  -- until task 0 is deeply complete the tasks can go on
  abbrev pub NeverStuck : Type 0
  NeverStuck =
      (s f : List V) (h : List (Entry V)) →
      Runs rest updated (new (length s)) s h f →
      deeply_complete (world (new (length s)) h) 0 ≡ false →
      GoesOn (world (new (length s)) h)

  -- in the tasks that a history makes, one is deeply complete exactly when it is finished and all its children are deeply complete
  abbrev pub CompleteByChildren : Type 0
  CompleteByChildren =
      (s f : List V) (h : List (Entry V)) →
      Runs rest updated (new (length s)) s h f →
      (t : ℕ) →
      t < count (world (new (length s)) h) →
      deeply_complete (world (new (length s)) h) t
      ≡ (is_finished (state_of (world (new (length s)) h) t) && children_complete (world (new (length s)) h) t)

  -- the promise
  abbrev pub Promise : Type 0
  Promise = InProgramOrder × NeverStuck
