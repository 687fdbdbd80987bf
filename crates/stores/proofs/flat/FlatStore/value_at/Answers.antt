use Rattle.std.proofs.Common.{sym, ◌∙◌}
use Rattle.stores.proofs.Reached.{reached_read}
use Rattle.stores.proofs.flat.FlatStore.value_at.Goals as goal

pub returns : goal.returns
returns g c = sym c.index-self-cell.is ∙ reached_read _ _ _ _ c.requires c.index-self-cell.is
