use Rattle.std.proofs.Common.{sym, ap, ◌∙◌}
use Rattle.stores.specs.Chain.{record_value}
use Rattle.stores.proofs.Reached.{reached_at}
use Rattle.stores.proofs.Chains.{head_value_at}
use Rattle.stores.proofs.chain.ChainStore.value_at.Goals as goal

pub returns : goal.returns
returns g c = c.value_of.ensures ∙ sym (ap (record_value _ c.args.self.now.records.now) (reached_at _ _ 0 c.requires)) ∙ sym (head_value_at _ _ _ _)
