use Rattle.std.proofs.Common.{None, ◌∙◌, rules}
use Rattle.std.proofs.lemmas.Iterator.{YieldsList-from_slice}
use Rattle.std.proofs.lemmas.Iterator.Consumers.{fold_from_yields_List}
use Rattle.order.specs.Sweeping.{better}
use Rattle.order.proofs.Sweeping.{nearest_fold}
use Rattle.order.proofs.sweep.next_bound.Goals as goal

pub returns : goal.returns
returns c =
    fold_from_yields_List _ (λ best a. better c.args.pos a.hi (better c.args.pos a.lo best)) None _ c.fold.ensures.ran (YieldsList-from_slice c.args.accesses.now cc) (λ a x b q k. search rules)
    ∙ nearest_fold c.args.pos c.args.accesses.now None
