use Rattle.std.proofs.Common.{rules}
use Rattle.stores.proofs.Reached.{reached_set}
use Rattle.stores.proofs.flat.FlatStoreStore.write.Goals as goal

pub returns : goal.returns
returns g c = search (rules, reached_set)
