use Rattle.std.proofs.Common.{◌≡◌, map, take}
use Rattle.writes.specs.Writes.{Went, asked}
use Rattle.writes.proofs.each.write_each.Given as goal

abbrev pub invariant-loop-turn : goal.invariant-loop-turn
invariant-loop-turn g l = Went g.S.Store.cells g.S.Store.verdict g.S.Store.took l.initial.store (take l.turn-index l.turns) l.store × (map asked l.turns ≡ map asked l.initial.turns)
