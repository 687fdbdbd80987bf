-- The pile that a list runs on, as it is seen.
-- Assumes nothing.
use Rattle.std.proofs.Common.{◌≡◌, ℕ, zero, suc, ◌≤◌, min, List, ◌∷◌, ◌++◌, length, drop, replicate, None, sym, refl, ap, ◌∙◌, append-nil, arith, take_all}
use lib.ListN.{length-replicate}
use Rattle.std.proofs.lemmas.List.{drop_all}
use Rattle.stores.specs.declared.chain.ChainStore.{ChainStore}
use Rattle.stores.specs.declared.record.Record.{Record}
use Rattle.stores.specs.Chain.{chain_verdict, head_values, cleared}
use Rattle.stores.specs.Fault.{existing}
use Rattle.stores.specs.Store.{most, reached, extent}
use Rattle.layers.specs.declared.allowance.Allowance.{Allowance}
use Rattle.layers.specs.declared.behind.WriteBehind.{WriteBehind}
use Rattle.layers.specs.declared.lent.Lent.{Lent}
use Rattle.layers.specs.Layers.{allowance_verdict, covered, held_verdict}
use Rattle.writes.specs.Pile.{gauge_of, pile_verdict}
use Rattle.writes.proofs.Sinks.{pile_cells}
use Rattle.lists.specs.Running.{Pile, new_pile}

abbrev pub pile_values : {V : Type 0} → V → Allowance (WriteBehind V (Lent (ChainStore V))) → List V
pile_values rest s =
    covered s.below.held (head_values rest s.below.below.store.now.records.now (reached s.below.below.store.now.heads.now))

abbrev pub shown : {V : Type 0} → V → Allowance (WriteBehind V (Lent (ChainStore V))) → Pile V
shown rest s = record { values = pile_values rest s; gauge = gauge_of s }

-- the verdicts are those of the layers one on the other
pub seen_verdict : {V : Type 0} (rest : V) (s : Allowance (WriteBehind V (Lent (ChainStore V)))) (i : ℕ) → pile_verdict (gauge_of s) i ≡ allowance_verdict (length (pile_values rest s)) s.left i (existing (length (pile_values rest s)) i (held_verdict s.below.held (chain_verdict (gauge_of s).cells (gauge_of s).used (gauge_of s).records) i))
seen_verdict rest s i =
    sym (ap (λ n. allowance_verdict n s.left i (existing n i (held_verdict s.below.held (chain_verdict (gauge_of s).cells (gauge_of s).used (gauge_of s).records) i))) (pile_cells rest s))

-- heads of zero are cells at rest
at_rest : {V : Type 0} (rest : V) (records : List (Record V)) (n : ℕ) → head_values rest records (replicate n 0) ≡ replicate n rest
unfolding head_values
at_rest rest records zero = refl
at_rest rest records (suc n) = ap (λ vs. rest ∷ vs) (at_rest rest records n)

none_left : (heads : List ℕ) (n : ℕ) → length heads ≡ n → n ≤ 65535 → cleared heads ≡ replicate n 0
none_left heads n long few =
    let e : extent heads ≡ n = omega arith in
    ap (λ k. replicate k 0 ++ drop k heads) e ∙ ap (λ l. replicate n 0 ++ l) (drop_all n heads (omega arith)) ∙ append-nil (replicate n 0)

module _ {V : Type 0} (rest : V) (s : Allowance (WriteBehind V (Lent (ChainStore V)))) (heads : List ℕ) (records : List (Record V)) (n : ℕ) where
  pub new_shown :
      s.left ≡ 1000 →
      s.below.held ≡ None →
      s.below.below.store.now.heads.now ≡ cleared heads →
      s.below.below.store.now.records.now ≡ records →
      s.below.below.store.now.used ≡ 0 →
      length heads ≡ n →
      n ≤ 65535 →
      length records ≡ 64 →
      shown rest s ≡ new_pile rest n
  new_shown left held hs rs used long few many =
      let zeros : s.below.below.store.now.heads.now ≡ replicate n 0 = hs ∙ none_left heads n long few in
      let whole : reached (replicate {A = ℕ} n 0) ≡ replicate n 0 = take_all most (replicate {A = ℕ} n 0) (omega (arith, length-replicate {A = ℕ} n 0)) in
      let values : pile_values rest s ≡ replicate n rest =
      ap (λ h. covered h (head_values rest s.below.below.store.now.records.now (reached s.below.below.store.now.heads.now))) held
      ∙ ap (λ l. head_values rest s.below.below.store.now.records.now (reached l)) zeros
      ∙ ap (head_values rest s.below.below.store.now.records.now) whole
      ∙ at_rest rest s.below.below.store.now.records.now n in
      let cells : extent s.below.below.store.now.heads.now ≡ n = ap extent zeros ∙ omega (arith, length-replicate {A = ℕ} n 0) in
      let room : extent s.below.below.store.now.records.now ≡ 64 = ap extent rs ∙ ap (min most) many in
      λ k. record { values = values k; gauge = record { cells = cells k; left = left k; held = held k; used = used k; records = room k } }

  -- the same of a store that was made layer by layer
  pub made_shown :
      (w : WriteBehind V (Lent (ChainStore V))) (l : Lent (ChainStore V)) (c : ChainStore V) →
      s.below ≡ w →
      s.left ≡ 1000 →
      w.below ≡ l →
      w.held ≡ None →
      l.store.now ≡ c →
      c.heads.now ≡ cleared heads →
      c.records.now ≡ records →
      c.used ≡ 0 →
      length heads ≡ n →
      n ≤ 65535 →
      length records ≡ 64 →
      shown rest s ≡ new_pile rest n
  made_shown w l c below left under held lent hs rs used long few many =
      let chain : s.below.below.store.now ≡ c =
      ap (λ (x : WriteBehind V (Lent (ChainStore V))). x.below.store.now) below ∙ ap (λ (x : Lent (ChainStore V)). x.store.now) under ∙ lent in
      new_shown left (ap (λ (x : WriteBehind V (Lent (ChainStore V))). x.held) below ∙ held)
      (ap (λ (x : ChainStore V). x.heads.now) chain ∙ hs)
      (ap (λ (x : ChainStore V). x.records.now) chain ∙ rs)
      (ap (λ (x : ChainStore V). x.used) chain ∙ used)
      long few many
