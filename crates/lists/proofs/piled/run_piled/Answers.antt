use Rattle.std.proofs.Common.{refl}
use Rattle.order.specs.View.{view}
use Rattle.writes.proofs.Sinks.{pile_moves}
use Rattle.lists.specs.Running.{values_of, verdict_of, gauged}
use Rattle.lists.proofs.Mapped.{ran_seen, promised_seen}
use Rattle.lists.proofs.Piling.{shown, made_shown, seen_verdict}
use Rattle.lists.proofs.piled.run_piled.Goals as goal

pub returns : goal.returns
returns g c =
    let first =
    made_shown g.E.Element.rest c.new-pile.result c.args.heads.now c.args.records.now _ c.new.result _ c.new-chain.result
    c.new-pile.ensures.below c.new-pile.ensures.left c.new.ensures.below c.new.ensures.held refl
    c.new-chain.ensures.heads c.new-chain.ensures.records c.new-chain.ensures.used refl c.requires.few c.requires.records in
    let moves = pile_moves _ (λ s i v t w. w.0.0) in
    record {
      ran =
          record {
            tasks = view c.run-engine.result.table;
            pile = shown g.E.Element.rest c.run-engine.result.store;
            ran =
                ran_seen _ _ _ values_of verdict_of gauged g.E.Element.rest g.E.Element.updated (shown g.E.Element.rest) (λ s. refl)
                (seen_verdict g.E.Element.rest) moves c.new-pile.result _ first c.run-engine.new.turns (view c.run-engine.result.table) c.run-engine.result.store
                c.run-engine.ensures.ran;
            promised =
                promised_seen _ _ _ values_of verdict_of gauged g.E.Element.rest g.E.Element.updated (shown g.E.Element.rest) (λ s. refl)
                (seen_verdict g.E.Element.rest) moves c.new-pile.result _ first c.run-engine.new.turns (view c.run-engine.result.table) c.run-engine.result.store
                c.run-engine.ensures.promised;
          };
      calls = c.run-engine.ensures.calls;
    }
