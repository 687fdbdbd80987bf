use Rattle.std.proofs.Common.{ap}
use Rattle.stores.specs.Fault.{existing}
use Rattle.layers.specs.Layers.{allowance_verdict, held_verdict}
use Rattle.stores.specs.Chain.{chain_verdict}
use Rattle.writes.specs.Pile.{gauge_of, pile_verdict, after_write}
use Rattle.writes.proofs.Goes.{went_answered, went_changed}
use Rattle.writes.proofs.Sinks.{pile_cells, pile_moves}
use Rattle.writes.proofs.pile.write_pile.Goals as goal

pub returns : goal.returns
returns g c =
    let moves = pile_moves _ (λ s i v t w. w.0.0) in
    record {
      answered =
          went_answered _ _ _ gauge_of after_write moves pile_verdict
          (λ s i. ap (λ n. allowance_verdict n s.left i (existing n i (held_verdict s.below.held (chain_verdict (gauge_of s).cells (gauge_of s).used (gauge_of s).records) i))) (pile_cells g.E.Element.rest s))
          _ _ _ c.write_each.ensures.went;
      after = went_changed _ _ _ gauge_of after_write moves _ _ _ c.write_each.ensures.went;
      asked = c.write_each.ensures.asked;
    }
