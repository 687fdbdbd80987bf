use Rattle.std.proofs.Common.{min, max, ◌++◌, ap, ◌∙◌, append_assoc}
use Rattle.order.specs.Cutting.{if_any, part}
use Rattle.order.specs.Holdings.{in_use}
use Rattle.order.specs.Stretches.{longest}
use Rattle.order.proofs.Cutting.{longest_front}
use Rattle.order.proofs.runs.Runs.push_left.Goals as goal

pub push-requires : goal.push-requires
push-requires c =
    let r = c.args.run.now in
    let first = if_any (part r r.lo (min r.hi c.args.lo)) in
    let second = if_any (part r (max r.lo c.args.hi) r.hi) in
    ap (λ x. longest (in_use c.args.self.now ++ if_any (part r r.lo x))) c.min.ensures
    ∙ longest_front (in_use c.args.self.now ++ first) second (ap longest (append_assoc (in_use c.args.self.now) first second) ∙ c.requires)
