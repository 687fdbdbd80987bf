use Rattle.runs.proofs.Histories.{settles}
use Rattle.runs.proofs.settled.settled.Goals as goal

pub returns : goal.returns
returns g c =
    record {
      cells = c.cells.ensures;
      promised = settles g.S.Store.cells g.S.Store.verdict g.S.Store.took g.S.E.Element.rest g.S.E.Element.updated g.met.S.E.Element.commutes _ _;
    }
