use Rattle.std.proofs.Common.{sym, ◌∙◌, inl, inr}
use Rattle.order.proofs.Pairwise.{none_meet, both_hold}
use Rattle.order.proofs.task.Task.meets.Goals as goal
use Rattle.order.proofs.task.Task.meets.Goals.{then-ended-via-then-ended, then-ended-via-else-ended+then-ended-2}

pub returns-then-ended : goal.returns-then-ended
returns-then-ended g c q p n h =
    none_meet q p.free p.other_free c.args.self.now c.args.other.now n
    (
    elim c.then-ended.branch [
      | then-ended-via-then-ended w ↦ inl (sym c.ended.ensures ∙ w.if-ended.true)
      | then-ended-via-else-ended+then-ended-2 w ↦ inr (sym w.ended-else-ended.ensures ∙ w.if-ended-2.true)
    ]
    )

pub returns : goal.returns
returns g c q p n h =
    both_hold q c.args.self.now c.args.other.now n c.meets.result (sym c.ended.ensures ∙ c.if-ended.false)
    (sym c.ended-else-ended.ensures ∙ c.if-ended-2.false) (c.meets.ensures q p n h)
