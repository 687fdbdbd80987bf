use Rattle.std.proofs.Common.{◌≤◌, length, arith, take_all}
use Rattle.order.specs.View.{view}
use Rattle.runs.proofs.Histories.{ran_promised}
use Rattle.runs.proofs.Turns.{ran_more}
use Rattle.runs.proofs.run.run_turns.Goals as goal

pub loop-turn-preserved : goal.loop-turn-preserved
loop-turn-preserved g c =
    ran_more g.S.Store.cells g.S.Store.verdict g.S.Store.took g.S.E.Element.rest g.S.E.Element.updated
    (view c.args.engine.now.table) c.args.engine.now.store _ _ _
    (view c.loop-turn.engine.table) c.loop-turn.engine.store _ _
    (view c.take_turn.new.engine.table) c.take_turn.new.engine.store
    (omega arith) c.take_turn.ensures.call c.take_turn.ensures.one c.loop-turn.invariant

pub returns : goal.returns
returns g c =
    let h : length c.loop-turn.turns ≤ c.loop-turn.turn-index = omega arith in
    let ran = rw c.requires at (rw take_all at c.loop-turn.invariant.0) in
    record {
      ran = ran;
      calls = c.loop-turn.invariant.1;
      promised =
          ran_promised g.S.Store.cells g.S.Store.verdict g.S.Store.took g.S.E.Element.rest g.S.E.Element.updated g.met.S.E.Element.commutes
          c.args.engine.now.store c.loop-turn.turns (view c.loop-turn.engine.table) c.loop-turn.engine.store ran;
    }
