use Rattle.std.proofs.Common.{leb, ap, ◌∙◌, rules, tests}
use Rattle.std.proofs.lemmas.Iterator.{YieldsList-from_slice}
use Rattle.std.proofs.lemmas.Iterator.Consumers.{fold_from_yields_List}
use Rattle.order.specs.Holdings.{in_use}
use Rattle.order.proofs.Walking.{step_on, region_walked}
use Rattle.order.proofs.runs.Runs.all_cells.Goals as goal

pub returns : goal.returns
returns g c q p n h =
    ap (leb c.args.hi) (fold_from_yields_List _ (λ pos r. step_on q r pos) c.args.lo _ c.fold-end.ensures.ran (YieldsList-from_slice (in_use c.args.self.now) cc) (λ a x b f k. search (rules, tests)))
    ∙ region_walked q p.free (in_use c.args.self.now) c.args.lo c.args.hi n c.args.self.now.sorted h
