use Rattle.std.proofs.Common.{vec_items, refl, ◌∙◌}
use Rattle.order.proofs.Pairwise.{keeps_order_is, left_decides, right_decides}
use Rattle.order.proofs.table.Table.keeps_order.Goals as goal

pub returns-then-not-bars : goal.returns-then-not-bars
returns-then-not-bars c =
    left_decides c.bars.result _ c.if-not-bars.true
    ∙ keeps_order_is c.args.self.now.cells (vec_items c.args.self.now.tasks) c.args.self.now.sound c.args.t c.args.u c.index-2.result.now
    c.index.result.now c.requires.0 c.requires.1 c.index-2.ensures c.index.ensures c.bars.result _ c.bars.ensures refl

pub returns-else-not-bars : goal.returns-else-not-bars
returns-else-not-bars c =
    right_decides c.bars.result c.is_earlier.result c.if-not-bars.false
    ∙ keeps_order_is c.args.self.now.cells (vec_items c.args.self.now.tasks) c.args.self.now.sound c.args.t c.args.u c.index-2.result.now
    c.index.result.now c.requires.0 c.requires.1 c.index-2.ensures c.index.ensures c.bars.result c.is_earlier.result c.bars.ensures c.is_earlier.ensures
