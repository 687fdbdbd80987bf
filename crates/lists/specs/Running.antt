-- The run of a list of calls on the pile that lists run on.
-- Assumes nothing.
use Rattle.std.specs.Prelude.{◌≡◌, ℕ, List, [], ◌∷◌, replicate, None}
use Rattle.elements.specs.declared.element.Element as element
use Rattle.order.specs.Tasks.{World}
use Rattle.stores.specs.Fault.{Verdict}
use Rattle.writes.specs.Pile.{Gauge, pile_verdict, after_write}
use Rattle.engine.specs.declared.call.Call.{Call}
use Rattle.engine.specs.declared.call.Turn.{Turn}
use Rattle.engine.specs.Run.{RanNew, Promised}
use Rattle.calls.specs.declared.written.Written.{Written}
use Rattle.calls.specs.Lent.{Lent}

-- an allowance over a write-behind over a chain store, by what can be seen of it: the values, and the numbers that decide the verdicts
pub record Pile (V : Type 0) : Type 0 where
  pub values : List V
  pub gauge : Gauge V

abbrev pub values_of : {V : Type 0} → Pile V → List V
values_of s = s.values

abbrev pub verdict_of : {V : Type 0} → Pile V → ℕ → Verdict
verdict_of s i = pile_verdict s.gauge i

-- what an accepted write makes of the numbers
abbrev pub gauged : {V : Type 0} → Pile V → ℕ → V → Pile V → Type 0
gauged s i v t = t.gauge ≡ after_write s.gauge i v

-- a new pile of n cells: all at rest, 1,000 writes left, nothing held, and none of 64 records used
abbrev pub new_pile : {V : Type 0} → V → ℕ → Pile V
new_pile rest n =
    record {
      values = replicate n rest;
      gauge = record { cells = n; left = 1000; held = None; used = 0; records = 64 };
    }

-- the engine's calls are the written calls, one by one
abbrev pub AllLent : {V : Type 0} → List (Written V) → List (Call V) → Type 0
AllLent [] [] = Unit {0}
AllLent [] (k ∷ ks) = ⊥
AllLent (w ∷ ws) [] = ⊥
AllLent (w ∷ ws) (k ∷ ks) = Lent w k × AllLent ws ks

-- the turns are a run on a new pile of n cells, to some tasks and some pile, with all that a run promises
pub record RanPiled {V : Type 0} (rest : V) (updated : V → V → V) (n : ℕ) (turns : List (Turn V)) : Type 0 where
  pub tasks : World
  pub pile : Pile V
  pub ran : RanNew values_of verdict_of gauged rest updated (new_pile rest n) turns tasks pile
  pub promised : Promised values_of verdict_of gauged rest updated (new_pile rest n) turns tasks pile

-- the same, where the element says how a cell rests and is updated
abbrev pub RanPiledBy : {V : Type 0} → element.Ghosts V → ℕ → List (Turn V) → Type 0
RanPiledBy e n turns = RanPiled e.rest e.updated n turns
