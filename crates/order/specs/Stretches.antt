-- Holdings as a list of runs: what it holds of each cell, and when its runs are the longest stretches in their order.
use Rattle.std.specs.Prelude.{ℕ, Bool, true, cond, not, ◌&&◌, ◌||◌, List, [], ◌∷◌, Some, None, Option, ◌==◌, nat_le, nat_lt}
use Rattle.kinds.specs.declared.holding.Holding.{Holding}
use Rattle.order.specs.declared.run.Run.{Run}
use Rattle.kinds.specs.Kinds.{equal, within}

-- what the runs hold of the cell c
abbrev pub held_at : List Run → ℕ → Option Holding
held_at [] c = None
held_at (r ∷ more) c = cond (within r.lo r.hi c) (Some r.holding) (held_at more c)

-- the run r ends before the run s begins, or where it begins with another kind or strength
abbrev pub apart : Run → Run → Bool
apart r s = nat_lt r.hi s.lo || (r.hi == s.lo && not (equal r.holding s.holding))

-- the run r stands apart from the first of the runs
abbrev pub apart_first : Run → List Run → Bool
apart_first r [] = true
apart_first r (s ∷ more) = apart r s

-- each run has a cell, and the runs are longest stretches in ascending order
abbrev pub longest : List Run → Bool
longest [] = true
longest (r ∷ more) = nat_lt r.lo r.hi && (apart_first r more && longest more)

-- no run reaches beyond the cell n
abbrev pub end_by : ℕ → List Run → Bool
end_by n [] = true
end_by n (r ∷ more) = nat_le r.hi n && end_by n more
