use Rattle.std.proofs.Common.{sym, ◌∙◌}
use Rattle.std.proofs.lemmas.List.{get_or-set_other}
use Rattle.order.specs.View.{view}
use Rattle.order.proofs.Answering.{region_end}
use Rattle.order.proofs.Turning.{running_within, runs_reach, sound_released, release_did}
use Rattle.order.proofs.table.Table.release.Goals as goal

pub invariant_of-self : goal.invariant_of-self
invariant_of-self c =
    let h =
    running_within c.args.self.now.cells c.args.self.now.tasks.items c.args.self.now.sound c.args.t
    c.in_ok-running.ensures.number in
    let l = region_end (view c.args.self.now) c.args.lo c.args.hi (sym c.has_region.ensures ∙ c.if-not-has_region.false) in record {
      room = c.args.self.now.room;
      sound = sound_released c.args.self.now.cells c.args.self.now.tasks.items c.args.self.now.sound c.args.t h
          c.index_mut.result.now c.index_mut.ensures.value c.args.lo c.args.hi c.release.result c.release.new.self
          (
          c.release.ensures c.args.self.now.cells l
          (
          runs_reach c.args.self.now.cells c.args.self.now.tasks.items c.args.self.now.sound c.args.t h
          c.index_mut.result.now c.index_mut.ensures.value
          )
          );
    }

pub returns : goal.returns
returns c =
    let h =
    running_within c.args.self.now.cells c.args.self.now.tasks.items c.args.self.now.sound c.args.t
    c.in_ok-running.ensures.number in
    let lies = sym c.has_region.ensures ∙ c.if-not-has_region.false in
    record {
      did =
          release_did c.args.self.now.cells c.args.self.now.tasks.items c.args.self.now.sound c.args.t h
          c.index_mut.result.now c.index_mut.ensures.value c.args.lo c.args.hi c.in_ok-running.ensures.number lies
          c.release.result c.release.new.self
          (
          c.release.ensures c.args.self.now.cells (region_end (view c.args.self.now) c.args.lo c.args.hi lies)
          (
          runs_reach c.args.self.now.cells c.args.self.now.tasks.items c.args.self.now.sound c.args.t h
          c.index_mut.result.now c.index_mut.ensures.value
          )
          );
      others = λ x d n. get_or-set_other c.args.self.now.tasks.items c.args.t x c.release.new.self d n;
    }
