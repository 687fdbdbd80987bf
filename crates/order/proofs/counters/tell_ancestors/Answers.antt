use Rattle.order.proofs.Tallies.{up_lower, up_within, up_counts, up_told}
use Rattle.order.proofs.counters.tell_ancestors.Goals as goal

pub bounds-tasks-x-in-loop-x : goal.bounds-tasks-x-in-loop-x
bounds-tasks-x-in-loop-x c =
    up_within c.loop-x.tasks c.args.tasks.now c.loop-x.x _ _ c.index-tasks-x.result c.loop-x.invariant c.requires.older
    c.loop-x-test.true c.if-is_complete.ensures

pub close_child-requires : goal.close_child-requires
close_child-requires c =
    up_counts c.loop-x.tasks c.args.tasks.now c.loop-x.x _ _ _ c.loop-x.invariant c.requires.older c.loop-x-test.true
    c.if-is_complete.ensures

pub loop-x-smaller : goal.loop-x-smaller
loop-x-smaller c =
    up_lower c.loop-x.tasks c.args.tasks.now c.loop-x.x _ _ c.index-tasks-x.result c.loop-x.invariant c.requires.older
    c.loop-x-test.true c.if-is_complete.ensures

pub loop-x-preserved : goal.loop-x-preserved
loop-x-preserved c =
    up_told c.loop-x.tasks c.args.tasks.now c.loop-x.x _ _ _ c.loop-x.invariant c.requires.older c.loop-x-test.true
    c.if-is_complete.ensures c.close_child.new.self c.close_child.ensures
