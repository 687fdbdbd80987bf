use Rattle.stores.proofs.flat.FlatStoreStore.count.Goals as goal

pub returns : goal.returns
returns g c = c.reach_of.ensures.length
