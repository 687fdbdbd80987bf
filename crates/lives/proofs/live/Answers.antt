use Rattle.std.proofs.Common.{◌≡◌, suc, is_ok, sym, ap, ◌∙◌, subst, add-one}
use Rattle.order.specs.Tasks.{count}
use Rattle.order.specs.View.{view}
use Rattle.lives.proofs.Living.{not_refused, begin_goes, update_goes, finish_goes}
use Rattle.lives.proofs.live.Goals as goal

pub returns-in_err-start : goal.returns-in_err-start
returns-in_err-start g c =
    let begun = begin_goes g.S.Store.cells g.S.Store.verdict g.S.Store.took g.S.E.Element.rest g.S.E.Element.updated
    (view c.args.engine.now.table) _ _ c.args.engine.now.store _ _ c.args.cell c.in_ok-task.task _ c.start.result
    c.start.ensures c.requires.calm c.create_task.ensures.number c.in_ok-task.was c.create_task.ensures.tasks c.create_task.ensures.store in
    absurd (not_refused c.start.result tt c.in_err-start.field-0.0 begun.0.0 c.in_err-start.was)

pub returns-in_err-update : goal.returns-in_err-update
returns-in_err-update g c =
    let begun = begin_goes g.S.Store.cells g.S.Store.verdict g.S.Store.took g.S.E.Element.rest g.S.E.Element.updated
    (view c.args.engine.now.table) _ _ c.args.engine.now.store _ _ c.args.cell c.in_ok-task.task _ c.start.result
    c.start.ensures c.requires.calm c.create_task.ensures.number c.in_ok-task.was c.create_task.ensures.tasks c.create_task.ensures.store in
    let stepped = update_goes g.S.Store.cells g.S.Store.verdict g.S.Store.took g.S.E.Element.rest g.S.E.Element.updated
    _ c.args.engine.now.store _ c.args.cell c.in_ok-task.task c.args.amount c.update.result _ _ c.update.ensures c.requires.open begun.2 begun.1 in
    absurd (not_refused c.update.result tt c.in_err-update.field-0.0 stepped.0.0 c.in_err-update.was)

pub returns : goal.returns
returns g c =
    let begun = begin_goes g.S.Store.cells g.S.Store.verdict g.S.Store.took g.S.E.Element.rest g.S.E.Element.updated
    (view c.args.engine.now.table) _ _ c.args.engine.now.store _ _ c.args.cell c.in_ok-task.task _ c.start.result
    c.start.ensures c.requires.calm c.create_task.ensures.number c.in_ok-task.was c.create_task.ensures.tasks c.create_task.ensures.store in
    let stepped = update_goes g.S.Store.cells g.S.Store.verdict g.S.Store.took g.S.E.Element.rest g.S.E.Element.updated
    _ c.args.engine.now.store _ c.args.cell c.in_ok-task.task c.args.amount c.update.result _ _ c.update.ensures c.requires.open begun.2 begun.1 in
    let over = finish_goes g.S.Store.cells g.S.Store.verdict g.S.Store.took g.S.E.Element.rest g.S.E.Element.updated
    _ _ c.args.cell c.in_ok-task.task c.finish.result _ _ c.finish.ensures stepped.1 in
    let more : count (view c.finish.new.self.table) ≡ suc (count (view c.args.engine.now.table)) =
    over.0.1 ∙ (stepped.0.1 ∙ (begun.0.1 ∙ ap count c.create_task.ensures.tasks))
    in
    record {
      accepted = ap is_ok over.0.0;
      calm = over.1;
      one = more ∙ sym (add-one (count (view c.args.engine.now.table)));
      cells = ap g.S.Store.cells over.2 ∙ stepped.2.0;
      took = subst (g.S.Store.took c.args.engine.now.store c.args.cell _) (sym over.2) stepped.2.1;
    }
