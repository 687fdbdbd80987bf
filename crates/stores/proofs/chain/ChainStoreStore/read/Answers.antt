use Rattle.std.proofs.Common.{◌≤◌, sym, ap, ◌∙◌, arith}
use Rattle.stores.specs.Store.{extent}
use Rattle.stores.specs.Chain.{record_value}
use Rattle.stores.proofs.Reached.{reached_past}
use Rattle.stores.proofs.Chains.{head_value_at}
use Rattle.stores.proofs.chain.ChainStoreStore.read.Goals as goal

pub returns-then-cell-reach : goal.returns-then-cell-reach
returns-then-cell-reach g c =
    let h : extent c.args.self.now.heads.now ≤ c.args.cell = omega arith in
    c.at_rest.ensures ∙ sym (ap (record_value _ c.args.self.now.records.now) (reached_past _ _ 0 h)) ∙ sym (head_value_at _ _ _ _)

pub returns : goal.returns
returns g c = c.value_at.ensures
