-- Accesses read as runs, by a sweep over their bounds from cell to cell.
use Rattle.std.specs.Prelude.{ℕ, Bool, true, cond, ◌&&◌, List, [], ◌∷◌, Some, None, Option, ◌==◌, nat_lt}
use Rattle.kinds.specs.declared.access.Access.{Access}
use Rattle.kinds.specs.declared.holding.Holding.{Holding}
use Rattle.order.specs.declared.run.Run.{Run}
use Rattle.kinds.specs.Kinds.{equal, holding_of, within}
use Rattle.order.specs.Cutting.{part}

-- what one access asks of the cell c
abbrev pub asked_by : Access → ℕ → Option Holding
asked_by a c = cond (within a.lo a.hi c) (holding_of a.code) None

-- the bound comes before the best one so far
abbrev pub sooner : ℕ → Option ℕ → Bool
sooner b None = true
sooner b (Some x) = nat_lt b x

-- the better of a bound and the best one so far, among those above pos
abbrev pub better : ℕ → ℕ → Option ℕ → Option ℕ
better pos b best = cond (nat_lt pos b && sooner b best) (Some b) best

-- the least bound above pos, if there is one, beginning with the best so far
abbrev pub nearest : ℕ → List Access → Option ℕ → Option ℕ
nearest pos [] best = best
nearest pos (a ∷ more) best = nearest pos more (better pos a.hi (better pos a.lo best))

-- the run s begins where the run r ends and is held alike
abbrev pub goes_on : Run → Run → Bool
goes_on r s = r.hi == s.lo && equal r.holding s.holding

-- the runs with one more behind them, as a part of the last where it goes on with that
abbrev pub appended : List Run → Run → List Run
appended [] s = s ∷ []
appended (r ∷ []) s = cond (goes_on r s) (part r r.lo s.hi ∷ []) (r ∷ s ∷ [])
appended (r ∷ t ∷ more) s = r ∷ appended (t ∷ more) s
