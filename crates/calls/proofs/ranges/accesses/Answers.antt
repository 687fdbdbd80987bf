use Rattle.std.proofs.Common.{arith}
use Rattle.calls.proofs.Accesses.{taking_more}
use Rattle.calls.proofs.ranges.accesses.Goals as goal

pub loop-lo-preserved : goal.loop-lo-preserved
loop-lo-preserved c =
    taking_more _ _ _ c.as_chunks.ensures.front (omega (arith, c.as_chunks.ensures.front_len)) _ c.loop-lo.invariant _ _ c.in_ok-push.ensures.items
    (omega (arith, c.in_ok-fit.ensures)) (omega (arith, c.in_ok-fit-2.ensures)) (omega (arith, c.in_ok-fit-3.ensures))
