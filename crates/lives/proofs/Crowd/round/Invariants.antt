use Rattle.std.proofs.Common.{◌≡◌, ◌+◌, ◌<◌, length}
use Rattle.order.specs.Tasks.{count}
use Rattle.order.specs.View.{view}
use Rattle.lives.specs.Crowd.{Calm}
use Rattle.lives.proofs.Crowd.round.Given as goal

abbrev pub invariant-loop-k : goal.invariant-loop-k
invariant-loop-k l =
    Calm l.self.cell 0 (view l.engine.table)
    × (count (view l.engine.table) ≡ l.k)
    × (l.self.cell < length l.engine.store.places.now)

abbrev pub invariant-loop : goal.invariant-loop
invariant-loop l =
    Calm l.self.cell 0 (view l.engine.table)
    × (count (view l.engine.table) ≡ l.self.alive + l.counter)
    × (l.self.cell < length l.engine.store.places.now)
    × (l.lived ≡ l.counter)
