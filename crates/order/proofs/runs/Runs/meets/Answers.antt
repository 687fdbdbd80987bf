use Rattle.std.proofs.Common.{not, ap, ◌∙◌, rules, tests}
use Rattle.std.proofs.lemmas.Iterator.{YieldsList-from_slice}
use Rattle.std.proofs.lemmas.Iterator.Search.{any_from_yields_List}
use Rattle.order.specs.Holdings.{held, in_use}
use Rattle.order.proofs.Stretched.{over, some_each}
use Rattle.order.proofs.runs.Runs.meets.Goals as goal

pub returns : goal.returns
returns g c q p n h =
    any_from_yields_List (λ r. not (over (λ a c'. not (q a (held c.args.other.now c'))) r)) _ _ _ c.any.ensures.ran (YieldsList-from_slice (in_use c.args.self.now) cc) (λ x b f k. search (rules, tests))
    ∙ some_each (λ a c'. not (q a (held c.args.other.now c'))) (λ c'. ap not (p.free _)) (in_use c.args.self.now) n c.args.self.now.sorted h
