use Rattle.std.proofs.Common.{arith}
use Rattle.lists.proofs.Onward.{after_shorter, some_tested, none_tested, so_far_more, so_far_all, stopped_at}
use Rattle.lists.proofs.reading.read_calls.Goals as goal

pub returns-in-Err-No : goal.returns-in-Err-No
returns-in-Err-No g c =
    rw c.in-Err-No.why-is
    (so_far_all _ _ _ _ _ _ _ c.loop-left.invariant
    (stopped_at _ _ _ _ _ _ _ _ (omega (arith, c.len-line.ensures)) (some_tested _ c.loop-left-test.ensures) c.take_line-rest.ensures.line
    (rw c.in-Err-No.field-0-is at c.in-Err-No.ensures.read)))

pub loop-left-smaller : goal.loop-left-smaller
loop-left-smaller g c = rw c.take_line-rest.ensures.rest (after_shorter _ (some_tested _ c.loop-left-test.ensures))

pub loop-left-preserved : goal.loop-left-preserved
loop-left-preserved g c =
    so_far_more _ _ _ _ _ _ _ _ _ _ (some_tested _ c.loop-left-test.ensures) c.take_line-rest.ensures.line c.take_line-rest.ensures.rest c.in-Ok.ensures.read
    c.in_ok-push-in-Ok.ensures.items c.loop-left.invariant

pub returns : goal.returns
returns g c = so_far_all _ _ _ _ _ _ _ c.loop-left.invariant (none_tested _ c.loop-left-test.ensures)
