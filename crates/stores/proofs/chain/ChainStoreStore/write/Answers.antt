use Rattle.std.proofs.Common.{◌<◌, length, arith, rules}
use Rattle.stores.specs.Store.{extent}
use Rattle.stores.proofs.Chains.{linked_values}
use Rattle.stores.proofs.chain.ChainStoreStore.write.Goals as goal

pub returns : goal.returns
returns g c =
    let h : c.args.cell < extent c.args.self.now.heads.now = omega arith in
    let u : c.args.self.now.used < length c.args.self.now.records.now = omega arith in (
      search rules,
      linked_values _ _ _ _ _ _ _ _ _ c.args.self.now.sound.1 h u c.link.ensures.linked,
      (c.link.ensures.linked, c.link.ensures.heads, c.link.ensures.records),
    )
