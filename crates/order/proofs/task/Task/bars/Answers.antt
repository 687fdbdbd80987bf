use Rattle.std.proofs.Common.{refl, rules, tests}
use Rattle.kinds.specs.Kinds.{if_strong, meets}
use Rattle.order.proofs.Pairwise.{meets_none}
use Rattle.order.proofs.task.Task.bars.Goals as goal

pub returns : goal.returns
returns c = c.meets.ensures (λ h g. meets h (if_strong g)) (record { free = λ b. refl; other_free = meets_none; held = λ a b r e. search (rules, tests) })
