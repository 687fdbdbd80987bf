-- The calls that a chain over written calls lends.
-- Assumes nothing.
use Rattle.std.proofs.Common.{◌≡◌, ℕ, suc, ◌<◌, true, List, [], ◌∷◌, map, length, get_or, Some, None, Option, option_map, IfSome, IsSomeAnd, subst, arith}
use Rattle.std.specs.Borrow.{Bor}
use Rattle.std.specs.Iterator.Runs.{Run, RelatesRuns, ItemsMapTo}
use Rattle.engine.specs.declared.call.Turn.{Turn}
use Rattle.calls.specs.declared.written.Written.{Written}
use Rattle.calls.specs.Lent.{Lent}
use Rattle.lists.specs.Running.{AllLent}

-- what relates the items of two runs at one place
at_place : {A B C : Type 0} (v : A → C) (R : A → B → Type 0) (o : Option A) (u : Option B) (c : C) (b : B) → IfSome o (λ x. IsSomeAnd u (R x)) → option_map v o ≡ Some c → option_map (λ y. y) u ≡ Some b → (x : A) × (v x ≡ c) × R x b
at_place v R None u c b related is gave = absurd cc
at_place v R (Some x) None c b related is gave = absurd related
at_place v R (Some x) (Some y) c b related is gave = let same : y ≡ b = cc in (x, cc, subst (R x) same related)

module _ {V : Type 0} where
  lent_all : (ws : List (Written V)) (ts : List (Turn V)) → length ts ≡ length ws → ((k : ℕ) (w : Written V) (t : Turn V) → k < length ws → Lent (get_or ws k w) (get_or ts k t).call) → AllLent ws (map (λ t. t.call) ts)
  lent_all [] [] long at = tt
  lent_all [] (t ∷ ts) long at = absurd (omega arith)
  lent_all (w ∷ ws) [] long at = absurd (omega arith)
  lent_all (w ∷ ws) (t ∷ ts) long at = (at 0 w t (omega arith), lent_all ws ts (omega arith) (λ k v u lt. at (suc k) v u (omega arith)))

  -- a run that gave the turns of the calls that a run over the written calls gave
  pub lent_runs : {S T : Type 0} {steps : S → Option (Turn V) → S → Type 0} {source : T → Option (Bor (Written V)) → T → Type 0} (p : Run steps) (q : Run source) (ws : List (Written V)) (R : Bor (Written V) → Turn V → Type 0) → p.len ≡ q.len → q.whole ≡ true → RelatesRuns p q R → ItemsMapTo q (λ y. y.now) ws → ((x : Bor (Written V)) (t : Turn V) → R x t → Lent x.now t.call) → AllLent ws (map (λ t. t.call) p.items)
  lent_runs p q ws R same whole related items lent =
      let long : length p.items ≡ length ws = omega (arith, p.long, items.1 whole) in
      lent_all ws p.items long
      (λ k w t lt.
      let r = at_place (λ (y : Bor (Written V)). y.now) R (q.at k) (p.at k) (get_or ws k w) (get_or p.items k t) (related.0 k) (items.2 k w (omega (arith, items.1 whole))) (p.reads k t (omega (arith, p.long))) in
      subst (λ v. Lent v (get_or p.items k t).call) r.1 (lent r.0 _ r.2))
