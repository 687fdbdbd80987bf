use Rattle.order.specs.Questions.{accepted, start}
use Rattle.order.specs.View.{view}
use Rattle.order.proofs.Listing.{SoFar}
use Rattle.order.proofs.table.Table.ready.Given as goal

abbrev pub invariant-loop-t : goal.invariant-loop-t
invariant-loop-t l = SoFar (λ s. accepted (view l.self) (start s)) l.t l.startable.items
