use Rattle.std.proofs.Common.{◌≡◌, suc, ◌%◌, ◌<◌, List, length, sym, ap, ◌∙◌, subst, add-one, arith}
use Rattle.order.specs.Tasks.{count}
use Rattle.order.specs.View.{view}
use Rattle.stores.specs.Store.{reached, reached_length}
use Rattle.std.proofs.lemmas.Nat.{mod_below}
use Rattle.lives.specs.Crowd.{Calm}
use Rattle.lives.proofs.Accepted.{born_calm, new_calm}
use Rattle.lives.proofs.Crowd.round.Goals as goal

pub loop-k-init : goal.loop-k-init
loop-k-init c =
    let same : c.new-engine.result.store.places.now ≡ c.args.places.now =
    ap (λ s. s.places.now) c.new-engine.ensures.store ∙ c.new.ensures.kept
    in
    let within : c.args.self.cell < length c.new.result.places.now = subst (λ (l : List _). c.args.self.cell < length l) (sym c.new.ensures.kept) c.requires in
    let reach : c.args.self.cell < length (reached c.new.result.places.now) = rw reached_length (omega arith) in (
      new_calm (view c.new-engine.result.table) (length (reached c.new.result.places.now)) c.args.self.cell c.new-engine.ensures.tasks reach,
      ap count c.new-engine.ensures.tasks,
      subst (λ (l : List _). c.args.self.cell < length l) (sym same) c.requires,
    )

pub loop-k-preserved : goal.loop-k-preserved
loop-k-preserved c =
    let tasks = c.create_task.ensures.tasks in
    let below : c.loop-k.k % c.args.self.cell < c.args.self.cell = mod_below c.loop-k.k c.args.self.cell (omega arith) in (
      subst (Calm c.args.self.cell 0) (sym tasks) (born_calm (view c.loop-k.engine.table) c.args.self.cell (c.loop-k.k % c.args.self.cell) (λ e. omega arith) c.loop-k.invariant.0),
      ap count tasks ∙ (ap suc c.loop-k.invariant.1 ∙ sym (add-one c.loop-k.k)),
      subst (λ s. c.args.self.cell < length s.places.now) (sym c.create_task.ensures.store) c.loop-k.invariant.2,
    )
