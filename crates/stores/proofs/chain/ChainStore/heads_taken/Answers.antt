use Rattle.std.proofs.Common.{sym, ◌∙◌}
use Rattle.stores.specs.Store.{reached_length}
use Rattle.stores.specs.Chain.{head_values_length}
use Rattle.stores.proofs.chain.ChainStore.heads_taken.Goals as goal

pub returns : goal.returns
returns g c = c.reach.ensures ∙ sym (reached_length _) ∙ sym (head_values_length _ _ _)
