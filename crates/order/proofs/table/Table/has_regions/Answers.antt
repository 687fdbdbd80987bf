use Rattle.std.proofs.Common.{◌∙◌, rules, tests}
use Rattle.std.proofs.lemmas.Iterator.{YieldsList-from_slice}
use Rattle.std.proofs.lemmas.Iterator.Search.{all_from_yields_List}
use Rattle.order.specs.Questions.{region_lies}
use Rattle.order.specs.View.{view}
use Rattle.order.proofs.Creating.{lie_all}
use Rattle.order.proofs.table.Table.has_regions.Goals as goal

pub returns : goal.returns
returns c =
    all_from_yields_List (λ a. region_lies (view c.args.self.now) a.lo a.hi) _ _ _ c.all.ensures.ran (YieldsList-from_slice c.args.accesses.now cc) (λ x b q k. search (rules, tests))
    ∙ lie_all (view c.args.self.now) c.args.accesses.now
