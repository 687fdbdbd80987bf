use Rattle.std.proofs.Common.{Some, refl, ◌∙◌, rules, tests}
use Rattle.std.proofs.lemmas.Iterator.{YieldsList-from_slice}
use Rattle.std.proofs.lemmas.Iterator.Search.{any_from_yields_List}
use Rattle.kinds.specs.Kinds.{is_commutative}
use Rattle.order.proofs.Stretched.{some_plain}
use Rattle.order.specs.Holdings.{in_use}
use Rattle.order.proofs.runs.Runs.has_commutative.Goals as goal

pub returns : goal.returns
returns c n h =
    any_from_yields_List (λ r. is_commutative (Some r.holding)) _ _ _ c.any.ensures.ran (YieldsList-from_slice (in_use c.args.self.now) cc) (λ x b q k. search (rules, tests))
    ∙ some_plain is_commutative refl (in_use c.args.self.now) n c.args.self.now.sorted h
