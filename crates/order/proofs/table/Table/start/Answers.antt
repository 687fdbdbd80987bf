use Rattle.std.proofs.Common.{refl}
use Rattle.order.specs.declared.turns.Turn.TheVariants.{Start}
use Rattle.order.proofs.Turning.{sound_turned, start_did, start_within}
use Rattle.order.proofs.table.Table.start.Goals as goal

pub invariant_of-self : goal.invariant_of-self
invariant_of-self c = record {
  room = c.args.self.now.room;
  sound = sound_turned c.args.self.now.cells c.args.self.now.tasks.items c.args.self.now.sound c.args.t
      (start_within c.args.self.now.cells c.args.self.now.tasks.items c.args.self.now.sound c.args.t c.in_ok-may_start.ensures)
      c.index_mut.result.now c.index_mut.ensures.value Start refl c.turn.result c.turn.new.self c.turn.ensures;
}

pub returns : goal.returns
returns c =
    start_did c.args.self.now.cells c.args.self.now.tasks.items c.args.self.now.sound c.args.t
    (start_within c.args.self.now.cells c.args.self.now.tasks.items c.args.self.now.sound c.args.t c.in_ok-may_start.ensures)
    c.index_mut.result.now c.index_mut.ensures.value c.turn.result c.turn.new.self c.in_ok-may_start.ensures c.turn.ensures
