use Rattle.std.proofs.Common.{arith, length-set}
use Rattle.stores.proofs.Chains.{sound_written}
use Rattle.stores.proofs.chain.ChainStore.link.Goals as goal

pub invariant_of-self : goal.invariant_of-self
invariant_of-self g c = record { sound = (simp length-set (omega arith), λ k. omega (arith, c.args.self.now.sound.1 k)) }

pub invariant_of-self-2 : goal.invariant_of-self-2
invariant_of-self-2 g c =
    let s = sound_written _ _ _ c.args.cell c.args.self.now.sound (omega arith) c.requires.0 in
    record { sound = (simp length-set s.0, s.1) }
