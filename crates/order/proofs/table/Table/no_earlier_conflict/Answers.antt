use Rattle.std.proofs.Common.{length, vec_items, sym, ap, ◌∙◌, rules, tests, arith}
use Rattle.std.proofs.lemmas.Iterator.{YieldsList-from_range}
use Rattle.std.proofs.lemmas.Iterator.Search.{all_from_yields_List}
use Rattle.order.specs.Pairs.{keeps_order}
use Rattle.order.specs.Tasks.{every}
use Rattle.order.specs.View.{view}
use Rattle.order.proofs.Bounded.{every_range}
use Rattle.order.proofs.Viewed.{count_of}
use Rattle.order.proofs.table.Table.no_earlier_conflict.Goals as goal

pub returns : goal.returns
returns c =
    let n = length (vec_items c.args.self.now.tasks) in
    all_from_yields_List (λ u. keeps_order (view c.args.self.now) c.args.t u) _ _ _ c.all.ensures.ran (YieldsList-from_range 0 n n (cc) (omega arith)) (λ x b q k. search (rules, tests))
    ∙ (every_range n (λ u. keeps_order (view c.args.self.now) c.args.t u)
    ∙ ap (λ k. every k (λ u. keeps_order (view c.args.self.now) c.args.t u)) (sym (count_of c.args.self.now.cells (vec_items c.args.self.now.tasks) c.args.self.now.sound.0)))
