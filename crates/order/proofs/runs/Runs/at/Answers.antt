use Rattle.std.proofs.Common.{ap, ◌∙◌, rules, tests}
use Rattle.std.specs.Option.{option_map}
use Rattle.std.proofs.lemmas.Iterator.{YieldsList-from_slice}
use Rattle.std.proofs.lemmas.Iterator.Search.{find_from_yields_List}
use Rattle.kinds.specs.Kinds.{within}
use Rattle.order.specs.Holdings.{in_use}
use Rattle.order.proofs.Stretched.{read_found, held_found}
use Rattle.order.proofs.runs.Runs.at.Goals as goal

pub returns : goal.returns
returns c =
    read_found (λ x. x.now) _ c.find.result c.map.result c.map.ensures.cases (λ x h p. search rules)
    ∙ (ap (option_map (λ r. r.holding)) (find_from_yields_List (λ r. within r.lo r.hi c.args.cell) _ _ c.find.result c.find.ensures.ran (YieldsList-from_slice (in_use c.args.self.now) cc) (λ x b q k. search (rules, tests)))
    ∙ held_found c.args.cell (in_use c.args.self.now))
