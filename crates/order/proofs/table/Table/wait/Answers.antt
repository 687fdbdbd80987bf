use Rattle.std.proofs.Common.{refl}
use Rattle.order.specs.declared.turns.Turn.TheVariants.{Wait}
use Rattle.order.proofs.Turning.{sound_turned, wait_did}
use Rattle.order.proofs.table.Table.wait.Goals as goal

pub invariant_of-self : goal.invariant_of-self
invariant_of-self c = record {
  room = c.args.self.now.room;
  sound = sound_turned c.args.self.now.cells c.args.self.now.tasks.items c.args.self.now.sound c.args.t c.in_ok-known.ensures.0
      c.index_mut.result.now c.index_mut.ensures.value Wait refl c.turn.result c.turn.new.self c.turn.ensures;
}

pub returns : goal.returns
returns c =
    wait_did c.args.self.now.cells c.args.self.now.tasks.items c.args.self.now.sound c.args.t c.in_ok-known.ensures.0
    c.index_mut.result.now c.index_mut.ensures.value c.turn.result c.turn.new.self c.turn.ensures
