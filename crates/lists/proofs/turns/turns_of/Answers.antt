use Rattle.std.proofs.Common.{ap, ◌∙◌, subst, rules}
use Rattle.std.proofs.lemmas.Result.{IfOk-weaker}
use Rattle.std.specs.Iterator.Runs.{ItemsMapTo}
use Rattle.std.specs.Slice.Iter.{iter_rest}
use Rattle.lists.proofs.Lending.{lent_runs}
use Rattle.lists.proofs.turns.turns_of.Goals as goal

pub returns : goal.returns
returns g c =
    IfOk-weaker c.collect.result _ _
    (λ v h.
    let p = h tt in
    let m = c.map.ensures.runs p.0 p.0.seen p.1 in
    let s = c.iter.ensures.runs m.0 m.0.seen in
    rw p.3.0
    (lent_runs p.0 m.0 c.args.calls.now _ m.2.1 (m.2.0 ∙ p.2) (m.2.2 (search rules))
    (subst (ItemsMapTo m.0 (λ y. y.now)) (ap iter_rest m.1 ∙ c.iter.ensures.rest) s)
    (λ x t k. search rules)))
    c.collect.ensures.runs
