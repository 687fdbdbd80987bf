-- One more run behind others, as a part of the last where it goes on with that.
-- Assumes nothing.
use Rattle.std.proofs.Common.{◌≡◌, ℕ, zero, suc, ◌+◌, ◌-◌, ◌<◌, ◌≤◌, Bool, true, false, cond, ◌&&◌, eqb, ltb, leb, ◌⊎◌, List, [], ◌∷◌, ◌++◌, get_or, slice_set, length-set, length, Some, None, Option, sym, refl, ap, ◌∙◌, inl, inr, arith}
use Rattle.std.proofs.lemmas.Bool.{and_parts, and_cases, and_from, or_left, or_right, cases_lt, eqb-true, eq-eqb, lt-ltb, ltb-true, leb-true, le-leb, not_from_false}
use Rattle.std.proofs.lemmas.Bool.Decides.{nat_tests}
use Rattle.arrayvec.specs.ArrayVec.{ArrayVec, with_items}
use Rattle.arrayvec.proofs.ArrayVecLemmas.{items-with_items}
use Rattle.kinds.specs.declared.holding.Holding.{Holding}
use Rattle.order.specs.declared.run.Run.{Run}
use Rattle.kinds.specs.Kinds.{equal, within}
use Rattle.order.specs.Stretches.{held_at, apart, apart_first, longest, end_by}
use Rattle.order.specs.Cutting.{part}
use Rattle.order.specs.Sweeping.{goes_on, appended}
use Rattle.kinds.proofs.Every.{clash}
use Rattle.kinds.proofs.Combining.{same_holding}
use Rattle.order.proofs.Stretched.{first_run}

-- only the last run matters, and it may be written anew in its place
pub last_longer :
    (xs : List Run) (k : ℕ) (r s : Run) →
    k + 1 ≡ length xs →
    r ≡ get_or xs k r →
    goes_on r s ≡ true →
    slice_set xs k (part r r.lo s.hi) ≡ appended xs s
last_longer [] k r s h e g = absurd (omega arith)
last_longer (x ∷ []) zero r s h e g =
    ap (λ t. cond t (part r r.lo s.hi ∷ []) (r ∷ s ∷ [])) (sym g) ∙ ap (λ z. appended (z ∷ []) s) e
last_longer (x ∷ []) (suc k) r s h e g = absurd (omega arith)
last_longer (x ∷ y ∷ more) zero r s h e g = absurd (omega arith)
last_longer (x ∷ y ∷ more) (suc k) r s h e g = ap (λ l. x ∷ l) (last_longer (y ∷ more) k r s (omega arith) e g)

-- a run that does not go on with the last
pub put_behind :
    (xs : List Run) (k : ℕ) (r s : Run) →
    k + 1 ≡ length xs →
    r ≡ get_or xs k r →
    goes_on r s ≡ false →
    xs ++ s ∷ [] ≡ appended xs s
put_behind [] k r s h e g = absurd (omega arith)
put_behind (x ∷ []) zero r s h e g =
    ap (λ z. z ∷ s ∷ []) (sym e) ∙ (ap (λ t. cond t (part r r.lo s.hi ∷ []) (r ∷ s ∷ [])) (sym g) ∙ ap (λ z. appended (z ∷ []) s) e)
put_behind (x ∷ []) (suc k) r s h e g = absurd (omega arith)
put_behind (x ∷ y ∷ more) zero r s h e g = absurd (omega arith)
put_behind (x ∷ y ∷ more) (suc k) r s h e g = ap (λ l. x ∷ l) (put_behind (y ∷ more) k r s (omega arith) e g)

set_same : (xs : List Run) (k : ℕ) (r : Run) → r ≡ get_or xs k r → slice_set xs k r ≡ xs
set_same [] k r e = refl
set_same (x ∷ more) zero r e = ap (λ z. z ∷ more) e
set_same (x ∷ more) (suc k) r e = ap (λ l. x ∷ l) (set_same more k r e)

-- without a run
pub none_lent : (v : ArrayVec Run) (xs : List Run) → xs ≡ v.items → (with_items v xs).items ≡ v.items
none_lent v xs e = items-with_items v xs (ap length e) ∙ e

pub first_behind : (xs : List Run) (s : Run) → length xs ≤ 0 → xs ++ s ∷ [] ≡ appended xs s
first_behind [] s h = refl
first_behind (x ∷ more) s h = absurd (omega arith)

-- the last run of a slice, lent and longer afterwards
module _ (v : ArrayVec Run) (xs : List Run) (e : xs ≡ v.items) (r s : Run) (some : true ≡ ltb 0 (length xs)) (is : r ≡ get_or xs (length xs - 1) r) where
  last : length xs - 1 + 1 ≡ length xs
  last = let k = ltb-true 0 (length xs) (sym some) in omega arith

  pub lent_longer : goes_on r s ≡ true → (with_items v (slice_set xs (length xs - 1) (part r r.lo s.hi))).items ≡ appended v.items s
  lent_longer g =
      let l = ap length e in
      items-with_items v _ (omega (arith, length-set {A = Run}))
      ∙ (last_longer xs (length xs - 1) r s last is g ∙ ap (λ l. appended l s) e)

  pub lent_same : (with_items v (slice_set xs (length xs - 1) r)).items ≡ v.items
  lent_same =
      let l = ap length e in
      items-with_items v _ (omega (arith, length-set {A = Run})) ∙ (set_same xs (length xs - 1) r is ∙ e)

  pub lent_behind : goes_on r s ≡ false → v.items ++ s ∷ [] ≡ appended v.items s
  lent_behind g = ap (λ l. l ++ s ∷ []) (sym e) ∙ (put_behind xs (length xs - 1) r s last is g ∙ ap (λ l. appended l s) e)

-- the first run keeps its beginning and its holding
apart_appended : (r t : Run) (more : List Run) (s : Run) → apart_first r (appended (t ∷ more) s) ≡ apart r t
apart_appended r t [] s = go (goes_on t s)
  where
    go : (b : Bool) → apart_first r (cond b (part t t.lo s.hi ∷ []) (t ∷ s ∷ [])) ≡ apart r t
    go true = refl
    go false = refl
apart_appended r t (u ∷ more) s = refl

apart_unless : (r s : Run) → r.hi ≤ s.lo → goes_on r s ≡ false → apart r s ≡ true
apart_unless r s a e = go (cases_lt r.hi s.lo) (and_cases (eqb r.hi s.lo) (equal r.holding s.holding) e)
  where
    go :
        (r.hi < s.lo) ⊎ (s.lo ≤ r.hi) →
        (eqb r.hi s.lo ≡ false) ⊎ (equal r.holding s.holding ≡ false) →
        apart r s ≡ true
    go (inl h) k = or_left (ltb r.hi s.lo) _ (lt-ltb r.hi s.lo h)
    go (inr h) (inl k) = clash (sym k ∙ eq-eqb r.hi s.lo (omega arith))
    go (inr h) (inr k) =
        or_right (ltb r.hi s.lo) _ (and_from (eqb r.hi s.lo) _ (eq-eqb r.hi s.lo (omega arith)) (not_from_false _ k))

-- of two regions, one behind the other, either may be looked at first
swapped : (a b m n c : ℕ) (x y o : Option Holding) → b ≤ m → cond (within a b c) x (cond (within m n c) y o) ≡ cond (within m n c) y (cond (within a b c) x o)
swapped a b m n c x y o h = grind (arith, nat_tests)

-- the runs end before the one that is added
module _ (s : Run) (some : s.lo < s.hi) where
  ends : (r : Run) (more : List Run) → end_by s.lo (r ∷ more) ≡ true → (r.hi ≤ s.lo) × (end_by s.lo more ≡ true)
  ends r more e = let p = and_parts (leb r.hi s.lo) (end_by s.lo more) e in (leb-true r.hi s.lo p.0, p.1)

  pub longest_appended : (xs : List Run) → longest xs ≡ true → end_by s.lo xs ≡ true → longest (appended xs s) ≡ true
  longest_appended [] e h = and_from (ltb s.lo s.hi) true (lt-ltb s.lo s.hi some) refl
  longest_appended (r ∷ []) e h = go (goes_on r s) refl
    where
      p : (r.lo < r.hi) × (apart_first r [] ≡ true) × (longest [] ≡ true)
      p = first_run r [] e

      q : (r.hi ≤ s.lo) × (end_by s.lo [] ≡ true)
      q = ends r [] h

      go : (b : Bool) → goes_on r s ≡ b → longest (cond b (part r r.lo s.hi ∷ []) (r ∷ s ∷ [])) ≡ true
      go true k = let x = p.0 in let y = q.0 in and_from (ltb r.lo s.hi) true (lt-ltb r.lo s.hi (omega arith)) refl
      go false k =
          and_from (ltb r.lo r.hi) _ (lt-ltb r.lo r.hi p.0)
          (
          and_from (apart r s) _ (apart_unless r s q.0 k)
          (and_from (ltb s.lo s.hi) true (lt-ltb s.lo s.hi some) refl)
          )
  longest_appended (r ∷ t ∷ more) e h =
      let p = first_run r (t ∷ more) e in
      and_from (ltb r.lo r.hi) (apart_first r (appended (t ∷ more) s) && longest (appended (t ∷ more) s)) (lt-ltb r.lo r.hi p.0)
      (
      and_from (apart_first r (appended (t ∷ more) s)) (longest (appended (t ∷ more) s)) (apart_appended r t more s ∙ p.1)
      (longest_appended (t ∷ more) p.2 (ends r (t ∷ more) h).1)
      )

  pub held_appended :
      (xs : List Run) (c : ℕ) →
      longest xs ≡ true →
      end_by s.lo xs ≡ true →
      held_at (appended xs s) c ≡ cond (within s.lo s.hi c) (Some s.holding) (held_at xs c)
  held_appended [] c e h = refl
  held_appended (r ∷ []) c e h = go (goes_on r s) refl
    where
      p : (r.lo < r.hi) × (apart_first r [] ≡ true) × (longest [] ≡ true)
      p = first_run r [] e

      joined : (a b m n : ℕ) (x y : Option Holding) → a < b → b ≡ m → m < n → x ≡ y → cond (within a n c) x None ≡ cond (within m n c) y (cond (within a b c) x None)
      joined a b m n x y i j k e = ap (λ z. cond (within a n c) z None) e ∙ (same ∙ ap (λ z. cond (within m n c) y (cond (within a b c) z None)) (sym e))
        where
          same : cond (within a n c) y None ≡ cond (within m n c) y (cond (within a b c) y None)
          same = grind (arith, nat_tests)

      go : (b : Bool) → goes_on r s ≡ b → held_at (cond b (part r r.lo s.hi ∷ []) (r ∷ s ∷ [])) c ≡ cond (within s.lo s.hi c) (Some s.holding) (held_at (r ∷ []) c)
      go true k =
          let m = and_parts (eqb r.hi s.lo) (equal r.holding s.holding) k in
          joined r.lo r.hi s.lo s.hi (Some r.holding) (Some s.holding) p.0 (eqb-true r.hi s.lo m.0) some
          (ap (λ a. Some a) (same_holding r.holding s.holding m.1))
      go false k = swapped r.lo r.hi s.lo s.hi c (Some r.holding) (Some s.holding) None (ends r [] h).0
  held_appended (r ∷ t ∷ more) c e h =
      ap (λ o. cond (within r.lo r.hi c) (Some r.holding) o)
      (held_appended (t ∷ more) c (first_run r (t ∷ more) e).2 (ends r (t ∷ more) h).1)
      ∙ swapped r.lo r.hi s.lo s.hi c (Some r.holding) (Some s.holding) (held_at (t ∷ more) c) (ends r (t ∷ more) h).0

  pub end_appended : (xs : List Run) → end_by s.lo xs ≡ true → end_by s.hi (appended xs s) ≡ true
  end_appended [] h = and_from (leb s.hi s.hi) true (le-leb s.hi s.hi (omega arith)) refl
  end_appended (r ∷ []) h = go (goes_on r s)
    where
      self : leb s.hi s.hi ≡ true
      self = le-leb s.hi s.hi (omega arith)

      go : (b : Bool) → end_by s.hi (cond b (part r r.lo s.hi ∷ []) (r ∷ s ∷ [])) ≡ true
      go true = and_from (leb s.hi s.hi) true self refl
      go false =
          let q = (ends r [] h).0 in
          and_from (leb r.hi s.hi) _ (le-leb r.hi s.hi (omega arith)) (and_from (leb s.hi s.hi) true self refl)
  end_appended (r ∷ t ∷ more) h =
      let q = ends r (t ∷ more) h in
      let x = q.0 in
      and_from (leb r.hi s.hi) _ (le-leb r.hi s.hi (omega arith)) (end_appended (t ∷ more) q.1)

pub length_appended : (xs : List Run) (s : Run) → length (appended xs s) ≤ length xs + 1
length_appended [] s = omega arith
length_appended (r ∷ []) s = go (goes_on r s)
  where
    go : (b : Bool) → length (cond b (part r r.lo s.hi ∷ []) (r ∷ s ∷ [])) ≤ length (r ∷ []) + 1
    go true = omega arith
    go false = omega arith
length_appended (r ∷ t ∷ more) s = let k = length_appended (t ∷ more) s in omega arith
