use Rattle.std.proofs.Common.{sym, ◌∙◌}
use Rattle.stores.specs.Store.{reached_length}
use Rattle.stores.proofs.reach.reach_of.Goals as goal

pub returns : goal.returns
returns g c = record { extent = c.reach.ensures; length = c.reach.ensures ∙ sym (reached_length _) }
