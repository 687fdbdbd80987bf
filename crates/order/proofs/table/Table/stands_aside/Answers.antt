use Rattle.std.proofs.Common.{vec_items, refl, ◌∙◌}
use Rattle.order.proofs.Pairwise.{stands_aside_is, left_decides, right_decides}
use Rattle.order.proofs.table.Table.stands_aside.Goals as goal

pub returns-then-not-clashes : goal.returns-then-not-clashes
returns-then-not-clashes c =
    left_decides c.clashes.result _ c.if-not-clashes.true
    ∙ stands_aside_is c.args.self.now.cells (vec_items c.args.self.now.tasks) c.args.self.now.sound c.args.deed c.args.t c.args.cell c.args.u
    c.index.result.now c.requires.1 c.index.ensures c.clashes.result _ c.clashes.ensures refl

pub returns-else-not-clashes : goal.returns-else-not-clashes
returns-else-not-clashes c =
    right_decides c.clashes.result c.is_ancestor.result c.if-not-clashes.false
    ∙ stands_aside_is c.args.self.now.cells (vec_items c.args.self.now.tasks) c.args.self.now.sound c.args.deed c.args.t c.args.cell c.args.u
    c.index.result.now c.requires.1 c.index.ensures c.clashes.result c.is_ancestor.result c.clashes.ensures c.is_ancestor.ensures
