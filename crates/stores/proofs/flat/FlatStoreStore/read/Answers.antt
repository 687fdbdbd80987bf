use Rattle.std.proofs.Common.{◌≤◌, sym, ◌∙◌, arith}
use Rattle.stores.specs.Store.{extent}
use Rattle.stores.proofs.Reached.{reached_past}
use Rattle.stores.proofs.flat.FlatStoreStore.read.Goals as goal

pub returns-then-cell-reach : goal.returns-then-cell-reach
returns-then-cell-reach g c =
    let h : extent c.args.self.now.places.now ≤ c.args.cell = omega arith in
    c.at_rest.ensures ∙ sym (reached_past _ _ _ h)
