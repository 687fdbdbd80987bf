use Rattle.std.proofs.Common.{◌≤◌, length, arith, take_all}
use Rattle.writes.proofs.Goes.{went_more}
use Rattle.writes.proofs.each.write_each.Goals as goal

pub loop-turn-preserved : goal.loop-turn-preserved
loop-turn-preserved g c = went_more _ _ _ _ _ _ _ _ _ _ _ (omega arith) c.take_turn.ensures.cell c.take_turn.ensures.value c.take_turn.ensures.wrote c.loop-turn.invariant

pub returns : goal.returns
returns g c =
    let h : length c.loop-turn.turns ≤ c.loop-turn.turn-index = omega arith in
    record { went = rw take_all at c.loop-turn.invariant.0; asked = c.loop-turn.invariant.1 }
