use Rattle.std.proofs.Common.{refl, ◌∙◌, rules, tests}
use Rattle.std.proofs.lemmas.Iterator.{YieldsList-from_slice}
use Rattle.std.proofs.lemmas.Iterator.Search.{all_from_yields_List}
use Rattle.kinds.specs.Kinds.{covered_by}
use Rattle.order.proofs.Stretched.{over, runs_each}
use Rattle.order.specs.Holdings.{held, in_use}
use Rattle.order.proofs.runs.Runs.covers_all.Goals as goal

pub returns : goal.returns
returns c n h =
    all_from_yields_List (over (λ h c'. covered_by (held c.args.self.now c') h)) _ _ _ c.all.ensures.ran (YieldsList-from_slice (in_use c.args.child.now) cc) (λ x b q k. search (rules, tests))
    ∙ runs_each (λ h c'. covered_by (held c.args.self.now c') h) (λ c'. refl) (in_use c.args.child.now) n c.args.child.now.sorted h
