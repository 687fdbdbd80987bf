use Rattle.std.proofs.Common.{length, vec_items}
use Rattle.lists.proofs.Onward.{SoFar}
use Rattle.lists.proofs.reading.read_calls.Given as goal

abbrev pub invariant-loop-left : goal.invariant-loop-left
invariant-loop-left g l =
    SoFar g.E.Element.numbers g.E.Element.WIDTH g.E.Element.made l.initial.left (vec_items l.calls) l.left

abbrev pub decreases-loop-left : goal.decreases-loop-left
decreases-loop-left g l = length l.left
