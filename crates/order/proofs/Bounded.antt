-- Tests that hold of every number below a bound.
-- Assumes nothing.
use Rattle.std.proofs.Common.{◌≡◌, ℕ, zero, suc, ◌+◌, ◌<◌, Bool, true, false, ◌&&◌, ◌⊎◌, sym, refl, ap, ◌∙◌, inl, inr, not-suc-le-zero, arith}
use Rattle.std.proofs.lemmas.Bool.{and_parts, and_cases, and_from, cases_eq}
use Rattle.std.specs.List.{list_all, range_with_len}
use Rattle.kinds.proofs.Every.{clash}
use Rattle.order.specs.Tasks.{every}

pub every_at : (n : ℕ) (f : ℕ → Bool) → every n f ≡ true → (i : ℕ) → i < n → f i ≡ true
every_at zero f e i h = absurd (not-suc-le-zero h)
every_at (suc n) f e i h = go (cases_eq i n) (every_at n f p.1 i)
  where
    p : (f n ≡ true) × (every n f ≡ true)
    p = and_parts (f n) (every n f) e

    go : (i ≡ n) ⊎ (i ≡ n → ⊥) → (i < n → f i ≡ true) → f i ≡ true
    go (inl q) ih = ap f q ∙ p.0
    go (inr q) ih = ih (omega arith)

pub every_from : (n : ℕ) (f : ℕ → Bool) → ((i : ℕ) → i < n → f i ≡ true) → every n f ≡ true
every_from zero f g = refl
every_from (suc n) f g = and_from (f n) (every n f) (g n (omega arith)) (every_from n f (λ i h. g i (omega arith)))

pub every_fails : (n : ℕ) (f : ℕ → Bool) → every n f ≡ false → (i : ℕ) × (i < n) × (f i ≡ false)
every_fails zero f e = clash (sym e)
every_fails (suc n) f e = go (and_cases (f n) (every n f) e) (every_fails n f)
  where
    go :
        (f n ≡ false) ⊎ (every n f ≡ false) →
        (every n f ≡ false → (i : ℕ) × (i < n) × (f i ≡ false)) →
        (i : ℕ) × (i < suc n) × (f i ≡ false)
    go (inl q) ih = (n, omega arith, q)
    go (inr q) ih = let r = ih q in let k = r.1 in (r.0, omega arith, r.2)

-- tests that agree below n hold at all of them alike
pub every_like : (n : ℕ) (f g : ℕ → Bool) → ((i : ℕ) → i < n → f i ≡ g i) → every n f ≡ every n g
every_like zero f g e = refl
every_like (suc n) f g e =
    ap (λ (b : Bool). b && every n f) (e n (omega arith)) ∙ ap (λ (b : Bool). g n && b) (every_like n f g (λ i h. e i (omega arith)))

-- a test of each number of a range
every_first : (n : ℕ) (f : ℕ → Bool) → every (suc n) f ≡ (f 0 && every n (λ i. f (suc i)))
every_first zero f = refl
every_first (suc n) f = ap (λ b. f (suc n) && b) (every_first n f) ∙ and_swap (f (suc n)) (f 0) (every n (λ i. f (suc i)))
  where
    and_swap : (a b c : Bool) → (a && (b && c)) ≡ (b && (a && c))
    and_swap true true c = refl
    and_swap true false c = refl
    and_swap false true c = refl
    and_swap false false c = refl

every_below : (n a : ℕ) (f : ℕ → Bool) → list_all f (range_with_len a n) ≡ every n (λ i. f (a + i))
every_below zero a f = refl
every_below (suc n) a f =
    ap (λ b. f a && b) (every_below n (a + 1) f ∙ every_like n (λ i. f ((a + 1) + i)) (λ i. f (a + suc i)) (λ i _. ap f (omega arith)))
    ∙ sym (every_first n (λ i. f (a + i)) ∙ ap (λ x. f x && every n (λ i. f (a + suc i))) (omega arith))

pub every_range : (n : ℕ) (f : ℕ → Bool) → list_all f (range_with_len 0 n) ≡ every n f
every_range n f = every_below n 0 f ∙ every_like n (λ i. f (0 + i)) f (λ i _. ap f (omega arith))
