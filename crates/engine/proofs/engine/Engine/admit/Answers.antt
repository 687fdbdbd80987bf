use Rattle.std.proofs.Common.{refl}
use Rattle.std.proofs.lemmas.Result.{err_from_is_err_and}
use Rattle.order.specs.Questions.{step}
use Rattle.order.specs.View.{view}
use Rattle.engine.proofs.Entries.{then_store, by_rule}
use Rattle.engine.proofs.engine.Engine.admit.Goals as goal

pub returns-in_err-admit : goal.returns-in_err-admit
returns-in_err-admit g c =
    let p = err_from_is_err_and c.from_residual.result c.from_residual.ensures.1 in
    by_rule (view c.args.self.now.table) (g.S.Store.verdict c.args.self.now.store c.args.cell) (step c.args.deed c.args.task c.args.cell) c.admit.result
    c.in_err-admit.field-0.0 c.from_residual.result p.0 c.admit.ensures refl c.in_err-admit.was p.1 p.2

pub returns : goal.returns
returns g c =
    then_store (view c.args.self.now.table) (g.S.Store.verdict c.args.self.now.store c.args.cell) (step c.args.deed c.args.task c.args.cell) c.admit.result
    _ c.admit.ensures refl c.in_ok-admit.was
