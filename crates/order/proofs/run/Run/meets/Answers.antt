use Rattle.std.proofs.Common.{min, max, ◌&&◌, ltb, Some, ◌∙◌, rules, tests}
use Rattle.std.proofs.lemmas.Iterator.{YieldsList-from_slice}
use Rattle.std.proofs.lemmas.Iterator.Search.{any_from_yields_List}
use Rattle.order.specs.Holdings.{in_use}
use Rattle.order.proofs.Stretched.{some_beside}
use Rattle.order.proofs.run.Run.meets.Goals as goal

pub returns : goal.returns
returns g c q p =
    let s = c.args.self.now in
    any_from_yields_List (λ r. ltb (max s.lo r.lo) (min s.hi r.hi) && q (Some s.holding) (Some r.holding)) _ _ _ c.any.ensures.ran (YieldsList-from_slice (in_use c.args.other.now) cc) (λ x b f k. search (rules, tests))
    ∙ some_beside (q (Some s.holding)) (p.other_free _) s.lo s.hi (in_use c.args.other.now) c.args.other.now.sorted
