-- A call whose questions are all answered yes is accepted.
-- Assumes nothing.
use Rattle.std.proofs.Common.{◌≡◌, ℕ, true, List, Ok, Err, Result, sym, refl, ◌∙◌}
use Rattle.order.specs.Questions.{all_yes, after}
use Rattle.order.specs.Tasks.{World}
use Rattle.kinds.proofs.Every.{clash}
use Rattle.stores.specs.Fault.{Verdict}
use Rattle.promise.specs.Runs.{Replied}
use Rattle.engine.specs.declared.call.Call.{Call}
use Rattle.engine.specs.declared.call.Reply.{Reply}
use Rattle.engine.specs.declared.refusal.Refusal.{Refusal}
use Rattle.engine.specs.Run.{shape, reply_of, noted, asked, Stored, One}

module _ {S V : Type 0} (cells : S → List V) (verdict : S → ℕ → Verdict) (took : S → ℕ → V → S → Type 0) (rest : V) (updated : V → V → V) where
  pub taken :
      {U : Type 0} (reply : U → Reply V) (w : World) (s : S) (k : Call V) (r : Result U Refusal) (x : World) (m : S) →
      One cells verdict took rest updated w s k (noted reply r) x m →
      all_yes (asked w (verdict s) k) ≡ true →
      (u : U) × (r ≡ Ok u) × (x ≡ after w (shape k)) × Replied rest updated w (cells s) (shape k) (reply_of (reply u)) × Stored cells verdict took rest updated s k m
  taken reply w s k (Ok u) x m h a = (u, refl, h.1, h.2, h.3)
  taken reply w s k (Err why) x m h a = clash (sym h.0 ∙ a)
