use Rattle.std.proofs.Common.{◌∙◌, rules, tests}
use Rattle.std.proofs.lemmas.Iterator.{YieldsList-from_slice}
use Rattle.std.proofs.lemmas.Iterator.Consumers.{YieldsList-at, YieldsList-from_filter_map}
use Rattle.kinds.specs.Kinds.{combine}
use Rattle.order.specs.Sweeping.{asked_by}
use Rattle.order.proofs.Sweeping.{asked_reduce, reduced}
use Rattle.order.proofs.sweep.asked_at.Goals as goal

pub returns : goal.returns
returns c =
    reduced _ combine _ c.reduce.ensures.ran
    (YieldsList-from_filter_map _ (λ a. asked_by a c.args.cell) (YieldsList-at c.filter_map.ensures.source (YieldsList-from_slice c.args.accesses.now cc)) c.filter_map.ensures.closure (λ x r q k. search (rules, tests)))
    (λ a b r q k. search (rules, tests))
    ∙ asked_reduce c.args.accesses.now c.args.cell
