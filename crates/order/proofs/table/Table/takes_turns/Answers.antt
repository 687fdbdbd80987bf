use Rattle.std.proofs.Common.{vec_items, sym, ◌∙◌}
use Rattle.std.proofs.lemmas.Bool.{eq-eqb}
use Rattle.kinds.proofs.Every.{clash}
use Rattle.order.proofs.Pairwise.{takes_turns_busy}
use Rattle.order.proofs.table.Table.takes_turns.Goals as goal
use Rattle.order.proofs.table.Table.takes_turns.Goals.{then-u-t, else-u-t}

pub returns-else-is_created : goal.returns-else-is_created
returns-else-is_created c = elim c.if-u-t.branch [
  | then-u-t w ↦ clash (sym c.if-is_created.false ∙ (w.value-is ∙ eq-eqb c.args.u c.args.t w.if-u-t.true))
  | else-u-t w ↦
      takes_turns_busy c.args.self.now.cells (vec_items c.args.self.now.tasks) c.args.self.now.sound c.args.t c.args.u c.index.result.now
      c.index-other.result.now c.requires.0 c.requires.1 c.index.ensures c.index-other.ensures c.shares_commutative.result w.if-u-t.false
      (sym w.is_created.ensures ∙ (sym w.value-is ∙ c.if-is_created.false)) c.shares_commutative.ensures
]
