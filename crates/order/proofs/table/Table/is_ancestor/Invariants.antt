use Rattle.std.proofs.Common.{◌≡◌, ◌≤◌, vec_items}
use Rattle.order.specs.Tasks.{ancestor}
use Rattle.order.specs.View.{view}
use Rattle.order.proofs.Climbing.{reached}
use Rattle.order.proofs.table.Table.is_ancestor.Given as goal

abbrev pub invariant-loop-b : goal.invariant-loop-b
invariant-loop-b l = (l.b ≤ l.t) × (ancestor (view l.self) l.u l.t ≡ reached l.self.cells (vec_items l.self.tasks) l.u l.t l.b)

abbrev pub decreases-loop-b : goal.decreases-loop-b
decreases-loop-b l = l.b
