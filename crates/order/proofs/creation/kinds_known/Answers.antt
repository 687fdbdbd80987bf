use Rattle.std.proofs.Common.{◌∙◌, rules, tests}
use Rattle.std.proofs.lemmas.Iterator.{YieldsList-from_slice}
use Rattle.std.proofs.lemmas.Iterator.Search.{all_from_yields_List}
use Rattle.kinds.specs.Kinds.{holding_of, is_held}
use Rattle.order.proofs.Creating.{known_all}
use Rattle.order.proofs.creation.kinds_known.Goals as goal

pub returns : goal.returns
returns c =
    all_from_yields_List (λ a. is_held (holding_of a.code)) _ _ _ c.all.ensures.ran (YieldsList-from_slice c.args.accesses.now cc) (λ x b q k. search (rules, tests))
    ∙ known_all c.args.accesses.now
