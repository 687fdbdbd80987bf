-- Lists of runs: what is left of them without a region.
use Rattle.std.specs.Prelude.{ℕ, min, max, cond, List, [], ◌∷◌, ◌++◌, nat_lt}
use Rattle.order.specs.declared.run.Run.{Run}

-- the run, if it has a cell
abbrev pub if_any : Run → List Run
if_any r = cond (nat_lt r.lo r.hi) (r ∷ []) []

-- the run from lo up to, not including, hi
abbrev pub part : Run → ℕ → ℕ → Run
part r lo hi = record { lo = lo; hi = hi; holding = r.holding }

-- what is left of a run without the region: a part before it and a part after it
abbrev pub left : ℕ → ℕ → Run → List Run
left lo hi r = if_any (part r r.lo (min r.hi lo)) ++ if_any (part r (max r.lo hi) r.hi)

-- what is left of all
abbrev pub all_left : ℕ → ℕ → List Run → List Run
all_left lo hi [] = []
all_left lo hi (r ∷ more) = left lo hi r ++ all_left lo hi more
