-- What an accepted write makes of a pile's numbers, and of a chain store's memory.
use Rattle.std.proofs.Common.{◌≡◌, ℕ, ◌+◌, ◌-◌, min, List, length, Some, None, Option, sym, ap, ◌∙◌, ⊎_elim, arith, length-set}
use Rattle.std.proofs.lemmas.Bool.{cases_eq, eq-eqb, ne_eqb}
use Rattle.layers.specs.declared.allowance.Allowance.{Allowance}
use Rattle.layers.specs.declared.behind.WriteBehind.{WriteBehind}
use Rattle.stores.specs.declared.chain.ChainStore.{ChainStore}
use Rattle.layers.specs.declared.held.Held.{Held}
use Rattle.layers.specs.declared.lent.Lent.{Lent}
use Rattle.stores.specs.Store.{most, reached, extent, reached_length}
use Rattle.stores.specs.Chain.{Linked, head_values, head_values_length}
use Rattle.layers.specs.Layers.{Sank, covered, covered_length}
use Rattle.stores.specs.declared.record.Record.{Record}
use Rattle.writes.specs.Lender.{Chains, chained}
use Rattle.writes.specs.Pile.{gauge_of, taken, after_write}

abbrev Links : {V : Type 0} → ChainStore V → ℕ → V → ChainStore V → Type 0
Links s i v t = Linked s.heads.now s.records.now s.used i v t.heads.now t.records.now t.used

-- the cells and the records stay as many, and so many more are used
abbrev Sunk : {V : Type 0} → ChainStore V → ℕ → ChainStore V → Type 0
Sunk s more t = (extent t.heads.now ≡ extent s.heads.now) × (t.used ≡ s.used + more) × (extent t.records.now ≡ extent s.records.now)

same : {V : Type 0} (s t : ChainStore V) → t ≡ s → Sunk s 0 t
same s t e = (ap (λ c. extent c.heads.now) e, ap (λ c. c.used) e ∙ omega arith, ap (λ c. extent c.records.now) e)

linked : {V : Type 0} (s t : ChainStore V) (i : ℕ) (v : V) → Links s i v t → Sunk s 1 t
linked s t i v (h, r, u) = (ap extent h ∙ ap (min most) (length-set _ _ _), u, ap extent r ∙ ap (min most) (length-set _ _ _))

-- as many cells as there are heads
pub pile_cells : {V : Type 0} (rest : V) (s : Allowance (WriteBehind V (Lent (ChainStore V)))) → length (covered s.below.held (head_values rest s.below.below.store.now.records.now (reached s.below.below.store.now.heads.now))) ≡ (gauge_of s).cells
pile_cells rest s = covered_length _ _ ∙ head_values_length _ _ _ ∙ reached_length _

module _ {V : Type 0} (took : Lent (ChainStore V) → ℕ → V → Lent (ChainStore V) → Type 0) (links : (s : Lent (ChainStore V)) (i : ℕ) (v : V) (t : Lent (ChainStore V)) → took s i v t → Links s.store.now i v t.store.now) where
  sinks : (h : Option (Held V)) (s t : Lent (ChainStore V)) (i : ℕ) → Sank took h s i t → Sunk s.store.now (taken h i) t.store.now
  sinks None s t i e = same _ _ (ap (λ l. l.store.now) e)
  sinks (Some h) s t i (kept, down) = ⊎_elim held other (cases_eq i h.cell)
    where
      held : i ≡ h.cell → Sunk s.store.now (taken (Some h) i) t.store.now
      held e = rw (eq-eqb i h.cell e) (same s.store.now t.store.now (ap (λ l. l.store.now) (kept (sym e))))

      other : (i ≡ h.cell → ⊥) → Sunk s.store.now (taken (Some h) i) t.store.now
      other ne = rw (ne_eqb i h.cell ne) (linked s.store.now t.store.now h.cell h.value (links s h.cell h.value t (down (λ e. ne (sym e)))))

  pub pile_moves : (s : Allowance (WriteBehind V (Lent (ChainStore V)))) (i : ℕ) (v : V) (t : Allowance (WriteBehind V (Lent (ChainStore V)))) → (t.left + 1 ≡ s.left) × ((t.below.held ≡ Some (record { cell = i; value = v })) × Sank took s.below.held s.below.below i t.below.below) → gauge_of t ≡ after_write (gauge_of s) i v
  pile_moves s i v t (l, (h, b)) =
      let left : t.left ≡ s.left - 1 = omega arith in
      let down = sinks s.below.held s.below.below t.below.below i b in
      let a = down.0 in
      let u = down.1 in
      let r = down.2 in
      λ k. record { cells = a k; left = left k; held = h k; used = u k; records = r k }

-- a chain store's memory changes by the rule of one write
abbrev pub memory : {V : Type 0} → ChainStore V → Chains V
memory s = record { heads = s.heads.now; records = s.records.now; used = s.used }

pub memory_moves : {V : Type 0} (s : ChainStore V) (i : ℕ) (v : V) (t : ChainStore V) → Links s i v t → memory t ≡ chained (memory s) i v
memory_moves s i v t (h, r, u) = λ k. record { heads = h k; records = r k; used = u k }

-- a new store's memory
pub memory_new : {V : Type 0} (s : ChainStore V) (hs : List ℕ) (rs : List (Record V)) → s.heads.now ≡ hs → s.records.now ≡ rs → s.used ≡ 0 → memory s ≡ record { heads = hs; records = rs; used = 0 }
memory_new s hs rs h r u = λ k. record { heads = h k; records = r k; used = u k }
