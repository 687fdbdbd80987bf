use Rattle.std.proofs.Common.{[], ◌∷◌, refl}
use Rattle.order.specs.View.{view}
use Rattle.lives.specs.Crowd.{one_cell}
use Rattle.lives.proofs.Living.{create_goes}
use Rattle.lives.proofs.create_task.Goals as goal

-- where the accesses stand in memory does not matter
pub returns : goal.returns
returns g c =
    let k =
    create_goes g.S.Store.cells g.S.Store.verdict g.S.Store.took g.S.E.Element.rest g.S.E.Element.updated
    (view c.args.engine.now.table) c.args.engine.now.store c.args.cell (record { ref_ptr = (0, 0); now = one_cell c.args.cell ∷ [] }) c.create.result _ _ c.create.ensures refl
    c.requires.rooted c.requires.room c.requires.exists
    in
    record { number = k.0; tasks = k.1; store = k.2 }
