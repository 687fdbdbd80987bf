use Rattle.std.proofs.Common.{refl, rules}
use Rattle.kinds.specs.Kinds.{is_held}
use Rattle.order.proofs.runs.Runs.holds_region.Goals as goal

pub returns : goal.returns
returns c = c.all_cells.ensures is_held (record { free = refl; held = λ a r e. search rules })
