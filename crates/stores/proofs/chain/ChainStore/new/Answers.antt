use Rattle.stores.proofs.Chains.{cleared_sound}
use Rattle.stores.proofs.chain.ChainStore.new.Goals as goal

pub invariant_of-result : goal.invariant_of-result
invariant_of-result g c = record { sound = rw c.clear.ensures (cleared_sound c.args.heads.now _) }
