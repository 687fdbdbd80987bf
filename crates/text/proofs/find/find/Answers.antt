use Rattle.std.proofs.Common.{eqb, rules, tests}
use Rattle.std.proofs.lemmas.Iterator.{YieldsList-from_slice}
use Rattle.std.proofs.lemmas.Iterator.Search.{position_from_yields_List}
use Rattle.text.proofs.Cuts.{up_to_found}
use Rattle.text.proofs.find.find.Goals as goal

pub returns-clause-value : goal.returns-clause-value
returns-clause-value c =
    up_to_found _ _ c.position.result _
    (position_from_yields_List (λ x. eqb x c.args.b) _ _ c.position.result c.position.ensures.ran (YieldsList-from_slice c.args.bytes.now cc) (λ x b q k. search (rules, tests)))
    c.unwrap_or.ensures
