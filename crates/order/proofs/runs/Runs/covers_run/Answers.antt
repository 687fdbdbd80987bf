use Rattle.std.proofs.Common.{Some, refl, rules, arith}
use Rattle.kinds.specs.Kinds.{covered_by}
use Rattle.order.proofs.runs.Runs.covers_run.Goals as goal

pub returns : goal.returns
returns c = c.all_cells.ensures (λ h. covered_by h (Some c.args.child.now.holding)) (record { free = refl; held = λ a r e. search rules }) c.args.child.now.hi (omega arith)
