use Rattle.std.proofs.Common.{◌≡◌, map, take}
use Rattle.order.specs.View.{view}
use Rattle.engine.specs.Run.{Ran}
use Rattle.runs.proofs.run.run_turns.Given as goal

abbrev pub invariant-loop-turn : goal.invariant-loop-turn
invariant-loop-turn g l =
    Ran g.S.Store.cells g.S.Store.verdict g.S.Store.took g.S.E.Element.rest g.S.E.Element.updated (view l.initial.engine.table) l.initial.engine.store (take l.turn-index l.turns) (view l.engine.table) l.engine.store
    × (map (λ e. e.call) l.turns ≡ map (λ e. e.call) l.initial.turns)
