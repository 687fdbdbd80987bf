use Rattle.std.proofs.Common.{◌*◌, drop, vec_items}
use Rattle.calls.proofs.Accesses.{Taking}
use Rattle.calls.proofs.ranges.accesses.Given as goal

abbrev pub invariant-loop-lo : goal.invariant-loop-lo
invariant-loop-lo l = Taking l.numbers (vec_items l.accesses) (drop (3 * l.lo-index) l.numbers)
