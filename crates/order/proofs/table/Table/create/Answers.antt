use Rattle.std.proofs.Common.{sym, refl, ap, ◌∙◌, subst, arith}
use Rattle.order.specs.declared.state.State.TheVariants.{Created}
use Rattle.order.specs.Questions.{create}
use Rattle.order.specs.Records.{Sound}
use Rattle.order.specs.View.{view, world_of}
use Rattle.order.proofs.Adding.{few_open, create_sound, create_world}
use Rattle.order.proofs.Answering.{all_accepted}
use Rattle.order.proofs.Viewed.{count_of}
use Rattle.order.proofs.table.Table.create.Goals as goal

pub open_child-requires : goal.open_child-requires
open_child-requires c = few_open c.args.self.now.cells c.args.self.now.tasks.items c.args.self.now.sound c.args.parent c.args.accesses.now c.in_ok-runs.ensures.0 c.index_mut.result.now c.index_mut.ensures.value

pub invariant_of-self : goal.invariant_of-self
invariant_of-self c = record {
  room = let r = c.args.self.now.room in let e = c.push_reserved.ensures.capacity in omega arith;
  sound = subst (Sound c.args.self.now.cells) (sym c.push_reserved.ensures.items)
      (
      create_sound c.args.self.now.cells c.args.self.now.tasks.items c.args.self.now.sound c.args.parent c.args.accesses.now c.in_ok-runs.ensures.0
      c.index_mut.result.now c.index_mut.ensures.value c.open_child.new.self c.open_child.ensures
      (record { parent = c.args.parent; waits = c.args.waits; state = Created; «open» = 0; runs = c.in_ok-runs.runs }) refl refl refl
      c.in_ok-runs.ensures.1.1
      );
}

pub returns : goal.returns
returns c =
    record {
      did = (
        all_accepted (view c.args.self.now) (create c.args.parent c.args.waits c.args.accesses.now) c.in_ok-runs.ensures.0,
        ap (world_of c.args.self.now.cells) c.push_reserved.ensures.items
            ∙ create_world c.args.self.now.cells c.args.self.now.tasks.items c.args.self.now.sound c.args.parent c.args.accesses.now c.in_ok-runs.ensures.0
            c.index_mut.result.now c.index_mut.ensures.value c.open_child.new.self c.open_child.ensures
            (record { parent = c.args.parent; waits = c.args.waits; state = Created; «open» = 0; runs = c.in_ok-runs.runs }) refl refl refl
            c.args.waits refl c.in_ok-runs.ensures.1.0,
      );
      number = let e = count_of c.args.self.now.cells c.args.self.now.tasks.items c.args.self.now.sound.0 in let n = c.args.self.now.tasks.ok.0 in let l = c.len-number.ensures in omega arith;
    }
