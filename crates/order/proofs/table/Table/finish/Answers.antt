use Rattle.std.proofs.Common.{◌<◌, List, map, length, Ok, sym, ap, ◌∙◌, subst}
use Rattle.std.proofs.lemmas.List.{with_items_is}
use Rattle.std.specs.Vec.{with_item}
use Rattle.order.specs.declared.task.Task.{Task}
use Rattle.order.specs.Counting.{uncounted, Older, Untold}
use Rattle.order.specs.Questions.{finish}
use Rattle.order.specs.Records.{Sound}
use Rattle.order.specs.View.{Did, view, world_of}
use Rattle.order.proofs.Tallies.{lengths_same}
use Rattle.order.proofs.Turning.{finish_untold, finish_sound, finish_told}
use Rattle.order.proofs.table.Table.finish.Goals as goal

pub tell_ancestors-requires : goal.tell_ancestors-requires
tell_ancestors-requires c =
    let u =
    finish_untold c.args.self.now.cells c.args.self.now.tasks.items c.args.self.now.sound c.args.t c.in_ok-known.ensures.0
    c.index_mut.result.now c.index_mut.ensures.value tt c.turn.new.self c.in_ok-turn.ensures in
    let e = sym c.deref_mut.ensures.value in
    record {
      within = subst (λ (l : List Task). c.args.t < length l) e u.0;
      older = subst Older e u.1;
      untold = subst (λ (l : List Task). Untold l c.args.t) e u.2;
    }

pub invariant_of-self-2 : goal.invariant_of-self-2
invariant_of-self-2 c = record {
  room = c.args.self.now.room;
  sound = subst (Sound c.args.self.now.cells)
      (
      sym
      (
      with_items_is (with_item c.args.self.now.tasks c.args.t c.turn.new.self) c.tell_ancestors.new.tasks
      (lengths_same c.tell_ancestors.new.tasks c.deref_mut.result.now c.tell_ancestors.ensures.kept ∙ c.deref_mut.ensures.len)
      )
      )
      (
      finish_sound c.args.self.now.cells c.args.self.now.tasks.items c.args.self.now.sound c.args.t c.in_ok-known.ensures.0
      c.index_mut.result.now c.index_mut.ensures.value tt c.turn.new.self c.in_ok-turn.ensures
      c.tell_ancestors.new.tasks (c.tell_ancestors.ensures.kept ∙ ap (map uncounted) c.deref_mut.ensures.value)
      c.tell_ancestors.ensures.counted
      );
}

pub returns : goal.returns
returns c =
    subst (λ (l : List Task). Did {U = Unit {0}} (view c.args.self.now) (finish c.args.t) (Ok tt) (world_of c.args.self.now.cells l))
    (
    sym
    (
    with_items_is (with_item c.args.self.now.tasks c.args.t c.turn.new.self) c.tell_ancestors.new.tasks
    (lengths_same c.tell_ancestors.new.tasks c.deref_mut.result.now c.tell_ancestors.ensures.kept ∙ c.deref_mut.ensures.len)
    )
    )
    (
    finish_told c.args.self.now.cells c.args.self.now.tasks.items c.args.self.now.sound c.args.t c.in_ok-known.ensures.0
    c.index_mut.result.now c.index_mut.ensures.value tt c.turn.new.self c.in_ok-turn.ensures
    c.tell_ancestors.new.tasks (c.tell_ancestors.ensures.kept ∙ ap (map uncounted) c.deref_mut.ensures.value)
    c.tell_ancestors.ensures.counted
    )
