use Rattle.std.proofs.Common.{ℕ, ◌+◌, sym, ap, ◌∙◌, subst}
use Rattle.arrayvec.specs.ArrayVec.{ArrayVec}
use Rattle.order.specs.Questions.{accepted, start}
use Rattle.order.specs.View.{view}
use Rattle.order.proofs.Listing.{SoFar, so_far_skip, so_far_add, start_ok}
use Rattle.order.proofs.table.Table.ready.Goals as goal
use Rattle.order.proofs.table.Table.ready.Goals.{then-is_ok, else-is_ok}

pub loop-t-preserved : goal.loop-t-preserved
loop-t-preserved c =
    let f = λ (s : ℕ). accepted (view c.args.self.now) (start s) in
    let ok = start_ok (view c.args.self.now) c.loop-t.t c.may_start.result c.may_start.ensures in
    elim c.if-is_ok.branch [
      | then-is_ok w ↦
          subst (SoFar f (c.loop-t.t + 1)) (sym (ap (λ (l : ArrayVec ℕ). l.items) w.startable-is ∙ w.push.ensures.items))
          (so_far_add f c.loop-t.t c.loop-t.startable.items c.loop-t.invariant (sym ok ∙ (sym c.is_ok.ensures.value ∙ w.if-is_ok.true)))
      | else-is_ok w ↦
          subst (SoFar f (c.loop-t.t + 1)) (sym (ap (λ (l : ArrayVec ℕ). l.items) w.startable-is))
          (so_far_skip f c.loop-t.t c.loop-t.startable.items c.loop-t.invariant (sym ok ∙ (sym c.is_ok.ensures.value ∙ w.if-is_ok.false)))
    ]
