-- How many runs begin: as many as a list of longest stretches has.
-- Assumes nothing.
use Rattle.std.proofs.Common.{◌≡◌, ℕ, zero, suc, ◌<◌, ◌≤◌, Bool, true, false, cond, not, ◌&&◌, eqb, ltb, leb, ◌⊎◌, List, [], ◌∷◌, length, Some, None, Option, sym, refl, ap, ◌∙◌, inl, inr, arith}
use Rattle.std.proofs.lemmas.Bool.{and_parts, and_left, or_cases, cases_lt, cases_eq, cond-true, cond-false, eqb-true, eq-eqb, ne_eqb, ltb-true, lt-ltb, le-ltb, leb-true, not-true}
use Rattle.kinds.specs.declared.holding.Holding.{Holding}
use Rattle.kinds.specs.declared.kind.Kind.{Kind}
use Rattle.kinds.specs.declared.kind.Kind.TheVariants.{In, Out, Inout, Concurrent, Commutative}
use Rattle.order.specs.declared.run.Run.{Run}
use Rattle.kinds.specs.Kinds.{equal, same, is_held}
use Rattle.order.specs.Questions.{alike, run_begins, run_count, without}
use Rattle.order.specs.Stretches.{held_at, apart_first, longest, end_by}
use Rattle.order.specs.Cutting.{all_left}
use Rattle.order.proofs.Stretched.{within_in, within_before, within_after, first_run, none_below}
use Rattle.order.proofs.Cutting.{held_left, longest_left, end_left}

equal_self : (a : Holding) → equal a a ≡ true
equal_self a = go a.kind a.strong
  where
    go : (k : Kind) (s : Bool) → (same k k && cond s s (not s)) ≡ true
    go In true = refl
    go In false = refl
    go Out true = refl
    go Out false = refl
    go Inout true = refl
    go Inout false = refl
    go Concurrent true = refl
    go Concurrent false = refl
    go Commutative true = refl
    go Commutative false = refl

-- holdings that agree at every cell have as many runs
pub count_same : (f g : ℕ → Option Holding) → ((c : ℕ) → f c ≡ g c) → (n : ℕ) → run_count f n ≡ run_count g n
count_same f g e zero = refl
count_same f g e (suc n) =
    ap (λ b. cond b (suc (run_count f n)) (run_count f n)) (begins n) ∙ ap (λ k. cond (run_begins g n) (suc k) k) (count_same f g e n)
  where
    begins : (c : ℕ) → run_begins f c ≡ run_begins g c
    begins zero = ap is_held (e 0)
    begins (suc c) = ap (λ h. is_held h && not (alike (f c) h)) (e (suc c)) ∙ ap (λ h. is_held (g (suc c)) && not (alike h (g (suc c)))) (e c)

-- where a run begins besides those of g, one more is counted
count_more :
    (f g : ℕ → Option Holding) (k : ℕ) →
    ((c : ℕ) → run_begins f c ≡ cond (eqb c k) true (run_begins g c)) →
    run_begins g k ≡ false →
    (n : ℕ) → run_count f n ≡ cond (ltb k n) (suc (run_count g n)) (run_count g n)
count_more f g k each none zero = sym (cond-false (ltb k 0) _ _ (le-ltb k 0 (omega arith)))
count_more f g k each none (suc n) =
    ap (λ b. cond b (suc (run_count f n)) (run_count f n)) (each n)
    ∙ (ap (λ m. cond (cond (eqb n k) true (run_begins g n)) (suc m) m) (count_more f g k each none n) ∙ go (cases_eq n k))
  where
    go :
        (n ≡ k) ⊎ (n ≡ k → ⊥) →
        cond (cond (eqb n k) true (run_begins g n)) (suc (cond (ltb k n) (suc (run_count g n)) (run_count g n))) (cond (ltb k n) (suc (run_count g n)) (run_count g n))
        ≡ cond (ltb k (suc n)) (suc (cond (run_begins g n) (suc (run_count g n)) (run_count g n))) (cond (run_begins g n) (suc (run_count g n)) (run_count g n))
    go (inl h) =
        let a = eq-eqb n k h in
        let b = le-ltb k n (omega arith) in
        let d = lt-ltb k (suc n) (omega arith) in
        let e : run_begins g n ≡ false = ap (run_begins g) h ∙ none in
        rw (a, b, d, e) refl
    go (inr h) = let a = ne_eqb n k h in rw a (either (cases_lt k n))
      where
        either :
            (k < n) ⊎ (n ≤ k) →
            cond (run_begins g n) (suc (cond (ltb k n) (suc (run_count g n)) (run_count g n))) (cond (ltb k n) (suc (run_count g n)) (run_count g n))
            ≡ cond (ltb k (suc n)) (suc (cond (run_begins g n) (suc (run_count g n)) (run_count g n))) (cond (run_begins g n) (suc (run_count g n)) (run_count g n))
        either (inl l) = let b = lt-ltb k n l in let d = lt-ltb k (suc n) (omega arith) in rw (b, d) (swap (run_begins g n))
          where
            swap : (x : Bool) → cond x (suc (suc (run_count g n))) (suc (run_count g n)) ≡ suc (cond x (suc (run_count g n)) (run_count g n))
            swap true = refl
            swap false = refl
        either (inr l) = let b = le-ltb k n l in let d = le-ltb k (suc n) (omega arith) in rw (b, d) refl

-- a cell that is not held begins no run
begins_none : (f : ℕ → Option Holding) (c : ℕ) → f c ≡ None → run_begins f c ≡ false
begins_none f zero e = ap is_held e
begins_none f (suc c) e = and_left _ _ (ap is_held e)

-- the cell where a run ends is not held alike
ends_unlike : (r : Run) (more : List Run) → longest (r ∷ more) ≡ true → alike (Some r.holding) (held_at more r.hi) ≡ false
ends_unlike r [] e = refl
ends_unlike r (s ∷ more) e =
    let p = first_run r (s ∷ more) e in
    go (first_run s more p.2) p.2 (or_cases (ltb r.hi s.lo) (eqb r.hi s.lo && not (equal r.holding s.holding)) p.1)
  where
    go :
        (s.lo < s.hi) × (apart_first s more ≡ true) × (longest more ≡ true) →
        longest (s ∷ more) ≡ true →
        (ltb r.hi s.lo ≡ true) ⊎ ((eqb r.hi s.lo && not (equal r.holding s.holding)) ≡ true) →
        alike (Some r.holding) (held_at (s ∷ more) r.hi) ≡ false
    go q l (inl h) =
        let k = ltb-true r.hi s.lo h in
        let z = q.0 in
        ap (alike (Some r.holding))
        (
        cond-false _ _ _ (within_before s.lo s.hi r.hi k)
        ∙ none_below s more r.hi l (omega arith)
        )
    go q l (inr h) =
        let m = and_parts (eqb r.hi s.lo) (not (equal r.holding s.holding)) h in
        let k = eqb-true r.hi s.lo m.0 in
        let z = q.0 in
        ap (alike (Some r.holding)) (cond-true _ _ _ (within_in s.lo s.hi r.hi (omega arith) (omega arith)))
        ∙ not-true (equal r.holding s.holding) m.1

-- behind a cell held unlike, a run begins as behind a cell that is not held
unlike : (a : Holding) (x : Option Holding) → alike (Some a) x ≡ false → (is_held x && not (alike (Some a) x)) ≡ (is_held x && not (alike None x))
unlike a None e = refl
unlike a (Some b) e = ap not e

-- the first run begins one more
begins_more : (r : Run) (more : List Run) → longest (r ∷ more) ≡ true → (c : ℕ) → run_begins (held_at (r ∷ more)) c ≡ cond (eqb c r.lo) true (run_begins (held_at more) c)
begins_more r more e c = go c (cases_eq c r.lo)
  where
    p : (r.lo < r.hi) × (apart_first r more ≡ true) × (longest more ≡ true)
    p = first_run r more e

    inside : (d : ℕ) → r.lo ≤ d → d < r.hi → held_at (r ∷ more) d ≡ Some r.holding
    inside d a b = cond-true _ _ _ (within_in r.lo r.hi d a b)

    before : (d : ℕ) → d < r.lo → held_at (r ∷ more) d ≡ held_at more d
    before d a = cond-false _ _ _ (within_before r.lo r.hi d a)

    behind : (d : ℕ) → r.hi ≤ d → held_at (r ∷ more) d ≡ held_at more d
    behind d a = cond-false _ _ _ (within_after r.lo r.hi d a)

    two : (f : ℕ → Option Holding) (d : ℕ) (a b : Option Holding) → f d ≡ a → f (suc d) ≡ b → run_begins f (suc d) ≡ (is_held b && not (alike a b))
    two f d a b i j = ap (λ h. is_held h && not (alike (f d) h)) j ∙ ap (λ h. is_held b && not (alike h b)) i

    first : (d : ℕ) → d ≡ r.lo → run_begins (held_at (r ∷ more)) d ≡ true
    first zero h = let z = p.0 in ap is_held (inside 0 (omega arith) (omega arith))
    first (suc d) h =
        let z = p.0 in
        two (held_at (r ∷ more)) d None (Some r.holding) (before d (omega arith) ∙ none_below r more d e (omega arith))
        (inside (suc d) (omega arith) (omega arith))

    -- any other cell, by where it lies
    other : (d : ℕ) → (d ≡ r.lo → ⊥) → run_begins (held_at (r ∷ more)) d ≡ run_begins (held_at more) d
    other zero h = ap is_held (before 0 (omega arith))
    other (suc d) h = at (cases_lt (suc d) r.lo) (cases_lt (suc d) r.hi) (cases_eq (suc d) r.hi)
      where
        at :
            (suc d < r.lo) ⊎ (r.lo ≤ suc d) →
            (suc d < r.hi) ⊎ (r.hi ≤ suc d) →
            (suc d ≡ r.hi) ⊎ (suc d ≡ r.hi → ⊥) →
            run_begins (held_at (r ∷ more)) (suc d) ≡ run_begins (held_at more) (suc d)
        at (inl a) b k = two (held_at (r ∷ more)) d (held_at more d) (held_at more (suc d)) (before d (omega arith)) (before (suc d) a)
        at (inr a) (inl b) k =
            two (held_at (r ∷ more)) d (Some r.holding) (Some r.holding) (inside d (omega arith) (omega arith)) (inside (suc d) a b)
            ∙ (ap not (equal_self r.holding) ∙ sym (begins_none (held_at more) (suc d) (none_below r more (suc d) e b)))
        at (inr a) (inr b) (inl k) =
            two (held_at (r ∷ more)) d (Some r.holding) (held_at more (suc d)) (inside d (omega arith) (omega arith)) (behind (suc d) b)
            ∙ (unlike r.holding (held_at more (suc d)) (ap (λ x. alike (Some r.holding) (held_at more x)) k ∙ ends_unlike r more e)
            ∙ sym (two (held_at more) d None (held_at more (suc d)) (none_below r more d e (omega arith)) refl))
        at (inr a) (inr b) (inr k) = two (held_at (r ∷ more)) d (held_at more d) (held_at more (suc d)) (behind d (omega arith)) (behind (suc d) b)

    go : (d : ℕ) → (d ≡ r.lo) ⊎ (d ≡ r.lo → ⊥) → run_begins (held_at (r ∷ more)) d ≡ cond (eqb d r.lo) true (run_begins (held_at more) d)
    go d (inl h) = first d h ∙ sym (cond-true _ _ _ (eq-eqb d r.lo h))
    go d (inr h) = other d h ∙ sym (cond-false _ _ _ (ne_eqb d r.lo h))

pub count_runs : (xs : List Run) (n : ℕ) → longest xs ≡ true → end_by n xs ≡ true → run_count (held_at xs) n ≡ length xs
count_runs [] zero e h = refl
count_runs [] (suc n) e h =
    ap (λ b. cond b (suc (run_count (held_at []) n)) (run_count (held_at []) n)) (begins_none (held_at []) n refl) ∙ count_runs [] n e h
count_runs (r ∷ more) n e h =
    let p = first_run r more e in
    let q = and_parts (leb r.hi n) (end_by n more) h in
    let k = leb-true r.hi n q.0 in
    let z = p.0 in
    count_more (held_at (r ∷ more)) (held_at more) r.lo (begins_more r more e)
    (begins_none (held_at more) r.lo (none_below r more r.lo e z)) n
    ∙ (cond-true _ _ _ (lt-ltb r.lo n (omega arith)) ∙ ap suc (count_runs more n p.2 q.1))

-- how many runs remain without a region
pub count_left : (lo hi n : ℕ) (xs : List Run) → lo < hi → longest xs ≡ true → end_by n xs ≡ true → run_count (without lo hi (held_at xs)) n ≡ length (all_left lo hi xs)
count_left lo hi n xs h e b =
    count_same (without lo hi (held_at xs)) (held_at (all_left lo hi xs)) (λ c. sym (held_left lo hi xs c)) n
    ∙ count_runs (all_left lo hi xs) n (longest_left lo hi xs h e) (end_left n lo hi xs b)
