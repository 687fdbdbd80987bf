use Rattle.std.proofs.Common.{◌≡◌, ◌<◌, map, length}
use Rattle.order.specs.Counting.{uncounted, Untold}
use Rattle.order.proofs.counters.tell_ancestors.Given as goal

abbrev pub invariant-loop-x : goal.invariant-loop-x
invariant-loop-x l = (l.x < length l.tasks) × Untold l.tasks l.x × (map uncounted l.tasks ≡ map uncounted l.initial.tasks)

abbrev pub decreases-loop-x : goal.decreases-loop-x
decreases-loop-x l = l.x
