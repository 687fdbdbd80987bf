-- Taking a region out of runs in ascending order: what is left holds the other cells as before, and its runs are longest stretches.
-- Assumes nothing.
use Rattle.std.proofs.Common.{◌≡◌, ℕ, ◌+◌, ◌<◌, ◌≤◌, min, max, true, false, cond, not, ◌&&◌, eqb, ltb, leb, ◌⊎◌, List, [], ◌∷◌, ◌++◌, length, get_or, drop, Some, None, Option, sym, refl, ap, ◌∙◌, inl, inr, append_assoc, arith, length-append}
use Rattle.std.proofs.lemmas.List.{at_drop_more}
use Rattle.std.proofs.lemmas.Bool.{and_parts, and_from, or_cases, or_left, or_right, cases_lt, eqb-true, eq-eqb, ltb-true, lt-ltb, le-ltb, leb-true, leb-false, le-leb, lt-leb}
use Rattle.std.proofs.lemmas.Bool.Decides.{nat_tests}
use Rattle.kinds.specs.declared.holding.Holding.{Holding}
use Rattle.order.specs.declared.run.Run.{Run}
use Rattle.kinds.specs.Kinds.{equal, within}
use Rattle.order.specs.Stretches.{held_at, apart, apart_first, longest, end_by}
use Rattle.order.specs.Cutting.{if_any, part, left, all_left}
use Rattle.order.proofs.Stretched.{first_run, apart_after, blank}

-- a run that has a cell, and one that has none
pub any_one : (r : Run) → r.lo < r.hi → if_any r ≡ r ∷ []
any_one r h = ap (λ b. cond b (r ∷ []) []) (lt-ltb r.lo r.hi h)

pub any_none : (r : Run) → r.hi ≤ r.lo → if_any r ≡ []
any_none r h = ap (λ b. cond b (r ∷ []) []) (le-ltb r.lo r.hi h)

-- cases on whether a run has a cell
by_any : (r : Run) (P : List Run → Type 0) → (r.lo < r.hi → P (r ∷ [])) → (r.hi ≤ r.lo → P []) → P (if_any r)
by_any r P one none = go (cases_lt r.lo r.hi)
  where
    go : (r.lo < r.hi) ⊎ (r.hi ≤ r.lo) → P (if_any r)
    go (inl h) = rw (any_one r h) (one h)
    go (inr h) = rw (any_none r h) (none h)

pub longest_front : (xs ys : List Run) → longest (xs ++ ys) ≡ true → longest xs ≡ true
longest_front [] ys e = refl
longest_front (r ∷ []) ys e = let p = and_parts (ltb r.lo r.hi) _ e in and_from (ltb r.lo r.hi) true p.0 refl
longest_front (r ∷ s ∷ more) ys e =
    let p = and_parts (ltb r.lo r.hi) _ e in
    let q = and_parts (apart r s) _ p.1 in
    and_from (ltb r.lo r.hi) (apart r s && longest (s ∷ more)) p.0
    (and_from (apart r s) (longest (s ∷ more)) q.0 (longest_front (s ∷ more) ys q.1))

held_any : (r : Run) (xs : List Run) (c : ℕ) → held_at (if_any r ++ xs) c ≡ cond (within r.lo r.hi c) (Some r.holding) (held_at xs c)
held_any r xs c =
    by_any r (λ l. held_at (l ++ xs) c ≡ cond (within r.lo r.hi c) (Some r.holding) (held_at xs c)) (λ _. refl) (λ h. empty h)
  where
    empty : r.hi ≤ r.lo → held_at xs c ≡ cond (within r.lo r.hi c) (Some r.holding) (held_at xs c)
    empty h = grind (arith, nat_tests)

-- the two parts of a run hold what it held outside the region
parts : (a b lo hi c : ℕ) (k o : Option Holding) → cond (within a (min b lo) c) k (cond (within (max a hi) b c) k (cond (within lo hi c) None o)) ≡ cond (within lo hi c) None (cond (within a b c) k o)
parts a b lo hi c k o = grind (arith, nat_tests)

pub held_left : (lo hi : ℕ) (xs : List Run) (c : ℕ) → held_at (all_left lo hi xs) c ≡ cond (within lo hi c) None (held_at xs c)
held_left lo hi [] c = grind (arith, nat_tests)
held_left lo hi (r ∷ more) c =
    let before = part r r.lo (min r.hi lo) in
    let behind = part r (max r.lo hi) r.hi in
    ap (λ l. held_at l c) (append_assoc (if_any before) (if_any behind) (all_left lo hi more))
    ∙ (held_any before (if_any behind ++ all_left lo hi more) c
    ∙ (ap (λ o. cond (within r.lo (min r.hi lo) c) (Some r.holding) o)
    (held_any behind (all_left lo hi more) c
    ∙ ap (λ o. cond (within (max r.lo hi) r.hi c) (Some r.holding) o) (held_left lo hi more c))
    ∙ parts r.lo r.hi lo hi c (Some r.holding) (held_at more c)))

end_any : (n : ℕ) (r : Run) (xs : List Run) → r.hi ≤ n → end_by n xs ≡ true → end_by n (if_any r ++ xs) ≡ true
end_any n r xs h e = by_any r (λ l. end_by n (l ++ xs) ≡ true) (λ _. and_from (leb r.hi n) (end_by n xs) (le-leb r.hi n h) e) (λ _. e)

pub end_left : (n lo hi : ℕ) (xs : List Run) → end_by n xs ≡ true → end_by n (all_left lo hi xs) ≡ true
end_left n lo hi [] e = refl
end_left n lo hi (r ∷ more) e =
    let before = part r r.lo (min r.hi lo) in
    let behind = part r (max r.lo hi) r.hi in
    let p = and_parts (leb r.hi n) (end_by n more) e in
    let h = leb-true r.hi n p.0 in
    ap (end_by n) (append_assoc (if_any before) (if_any behind) (all_left lo hi more))
    ∙ end_any n before (if_any behind ++ all_left lo hi more) (omega arith)
    (end_any n behind (all_left lo hi more) h (end_left n lo hi more p.1))

-- parts of two runs that stand apart stand apart
apart_parts : (r s p q : Run) → p.hi ≤ r.hi → s.lo ≤ q.lo → p.holding ≡ r.holding → q.holding ≡ s.holding → apart r s ≡ true → apart p q ≡ true
apart_parts r s p q a b i j e = go (or_cases (ltb r.hi s.lo) (eqb r.hi s.lo && not (equal r.holding s.holding)) e) (cases_lt p.hi q.lo)
  where
    go :
        (ltb r.hi s.lo ≡ true) ⊎ ((eqb r.hi s.lo && not (equal r.holding s.holding)) ≡ true) →
        (p.hi < q.lo) ⊎ (q.lo ≤ p.hi) →
        apart p q ≡ true
    go h (inl k) = or_left (ltb p.hi q.lo) _ (lt-ltb p.hi q.lo k)
    go (inl h) (inr k) = let m = ltb-true r.hi s.lo h in absurd (omega arith)
    go (inr h) (inr k) =
        let m = and_parts (eqb r.hi s.lo) (not (equal r.holding s.holding)) h in
        let t = eqb-true r.hi s.lo m.0 in
        or_right (ltb p.hi q.lo) _
        (
        and_from (eqb p.hi q.lo) (not (equal p.holding q.holding)) (eq-eqb p.hi q.lo (omega arith))
        (ap (λ x. not (equal x q.holding)) i ∙ (ap (λ y. not (equal r.holding y)) j ∙ m.1))
        )

-- so does a part of a run from what is left of the runs behind it
apart_left : (lo hi : ℕ) (r p : Run) (more : List Run) → p.hi ≤ r.hi → p.holding ≡ r.holding → longest more ≡ true → apart_first r more ≡ true → apart_first p (all_left lo hi more) ≡ true
apart_left lo hi r p [] a i e f = refl
apart_left lo hi r p (s ∷ more) a i e f =
    let before = part s s.lo (min s.hi lo) in
    let behind = part s (max s.lo hi) s.hi in
    ap (apart_first p) (append_assoc (if_any before) (if_any behind) (all_left lo hi more))
    ∙ by_any before (λ l. apart_first p (l ++ (if_any behind ++ all_left lo hi more)) ≡ true)
    (λ _. apart_parts r s p before a (omega arith) i refl f)
    (λ _.
    by_any behind (λ l. apart_first p (l ++ all_left lo hi more) ≡ true) (λ _. apart_parts r s p behind a (omega arith) i refl f)
    (λ _. apart_left lo hi r p more a i (first_run s more e).2 (skip more (first_run s more e))))
  where
    skip : (more : List Run) → (s.lo < s.hi) × (apart_first s more ≡ true) × (longest more ≡ true) → apart_first r more ≡ true
    skip [] t = refl
    skip (u ∷ rest) t =
        let x = apart_after r s f in
        let y = apart_after s u t.1 in
        let z = t.0 in
        or_left (ltb r.hi u.lo) _ (lt-ltb r.hi u.lo (omega arith))

longest_any : (r : Run) (xs : List Run) → longest xs ≡ true → (r.lo < r.hi → apart_first r xs ≡ true) → longest (if_any r ++ xs) ≡ true
longest_any r xs e f =
    by_any r (λ l. longest (l ++ xs) ≡ true)
    (λ h. and_from (ltb r.lo r.hi) (apart_first r xs && longest xs) (lt-ltb r.lo r.hi h) (and_from (apart_first r xs) (longest xs) (f h) e))
    (λ _. e)

pub longest_left : (lo hi : ℕ) (xs : List Run) → lo < hi → longest xs ≡ true → longest (all_left lo hi xs) ≡ true
longest_left lo hi [] h e = refl
longest_left lo hi (r ∷ more) h e =
    let before = part r r.lo (min r.hi lo) in
    let behind = part r (max r.lo hi) r.hi in
    let p = first_run r more e in
    ap longest (append_assoc (if_any before) (if_any behind) (all_left lo hi more))
    ∙ longest_any before (if_any behind ++ all_left lo hi more)
    (
    longest_any behind (all_left lo hi more) (longest_left lo hi more h p.2)
    (λ _. apart_left lo hi r behind more (omega arith) refl p.2 p.1)
    )
    (λ _.
    by_any behind (λ l. apart_first before (l ++ all_left lo hi more) ≡ true)
    (λ _. or_left (ltb (min r.hi lo) (max r.lo hi)) _ (lt-ltb (min r.hi lo) (max r.lo hi) (omega arith)))
    (λ _. apart_left lo hi r before more (omega arith) refl p.2 p.1))

-- where a front has too many runs, the whole has
pub too_many : (k : ℕ) (xs ys : List Run) → false ≡ leb (length xs) k → leb (length (xs ++ ys)) k ≡ false
too_many k xs ys e =
    let a = leb-false (length xs) k (sym e) in
    let b = length-append xs ys in
    lt-leb (length (xs ++ ys)) k (omega arith)

-- the loop that adds what is left of each run
pub one_left :
    (lo hi : ℕ) (out xs ys : List Run) (i : ℕ) →
    out ++ all_left lo hi (drop i xs) ≡ ys →
    i < length xs →
    (out ++ left lo hi (get_or xs i blank)) ++ all_left lo hi (drop (i + 1) xs) ≡ ys
one_left lo hi out xs ys i inv h =
    append_assoc out (left lo hi (get_or xs i blank)) (all_left lo hi (drop (i + 1) xs))
    ∙ (ap (λ l. out ++ l) (sym (at_drop_more (all_left lo hi) xs i blank h)) ∙ inv)
