use Rattle.std.proofs.Common.{◌&&◌, refl, rules, tests}
use Rattle.std.proofs.lemmas.Bool.{and_right}
use Rattle.kinds.specs.Kinds.{is_commutative}
use Rattle.order.proofs.task.Task.shares_commutative.Goals as goal

pub returns : goal.returns
returns c = c.meets.ensures (λ h g. is_commutative h && is_commutative g) (record { free = λ b. refl; other_free = λ a. and_right (is_commutative a) _ refl; held = λ a b r e. search (rules, tests) })
