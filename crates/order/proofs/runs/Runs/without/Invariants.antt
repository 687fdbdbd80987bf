use Rattle.std.proofs.Common.{◌≡◌, ◌++◌, drop}
use Rattle.order.specs.Cutting.{all_left}
use Rattle.order.specs.Holdings.{in_use}
use Rattle.order.proofs.runs.Runs.without.Given as goal

abbrev pub invariant-loop-run : goal.invariant-loop-run
invariant-loop-run l = in_use l.out ++ all_left l.lo l.hi (drop l.run-index l.run-items) ≡ all_left l.lo l.hi (in_use l.self)
