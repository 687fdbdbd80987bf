-- Paths in the tree: the order in which tasks end, and how a new task's path lies.
-- Assumes nothing.
use Rattle.std.proofs.Common.{◌≡◌, ℕ, suc, ◌<◌, Bool, true, false, ◌&&◌, ◌||◌, eqb, ltb, ◌⊎◌, List, [], ◌∷◌, ◌++◌, length, sym, refl, ap, ◌∙◌, subst, inl, inr, arith}
use Rattle.std.specs.List.{AllByRecursion as All}
use Rattle.std.proofs.ByRecursion.{All-append, All-weaker}
use Rattle.std.proofs.lemmas.Bool.{and_parts, and_from, cases_eq, or_cases, or_left, or_right, eqb-true, ltb-true, lt-ltb, eq-eqb, ne_eqb, cond-true, cond-false}
use Rattle.order.specs.Tasks.{path, parent_of, above, parts_lower}
use Rattle.kinds.proofs.Every.{clash}

-- the task at the path p ends before the one at q: it lies below q, or parts from it to the lower side
abbrev pub ends : List ℕ → List ℕ → Bool
ends [] q = false
ends (x ∷ p) [] = true
ends (x ∷ p) (y ∷ q) = ltb x y || (eqb x y && ends p q)

pub ends_cases : (p q : List ℕ) → ends p q ≡ true → (above q p ≡ true) ⊎ (parts_lower p q ≡ true)
ends_cases [] q e = clash e
ends_cases (x ∷ p) [] e = inl refl
ends_cases (x ∷ p) (y ∷ q) e = go (or_cases (ltb x y) (eqb x y && ends p q) e) (ends_cases p q)
  where
    go :
        (ltb x y ≡ true) ⊎ ((eqb x y && ends p q) ≡ true) →
        (ends p q ≡ true → (above q p ≡ true) ⊎ (parts_lower p q ≡ true)) →
        ((eqb y x && above q p) ≡ true) ⊎ ((ltb x y || (eqb x y && parts_lower p q)) ≡ true)
    go (inl l) ih = inr (or_left (ltb x y) (eqb x y && parts_lower p q) l)
    go (inr h) ih = split (ih (and_parts (eqb x y) (ends p q) h).1)
      where
        same : eqb x y ≡ true
        same = (and_parts (eqb x y) (ends p q) h).0

        split : (above q p ≡ true) ⊎ (parts_lower p q ≡ true) → ((eqb y x && above q p) ≡ true) ⊎ ((ltb x y || (eqb x y && parts_lower p q)) ≡ true)
        split (inl u) = inl (and_from (eqb y x) (above q p) (eq-eqb y x (sym (eqb-true x y same))) u)
        split (inr l) = inr (or_right (ltb x y) (eqb x y && parts_lower p q) (and_from (eqb x y) (parts_lower p q) same l))

pub above_ends : (p q : List ℕ) → above q p ≡ true → ends p q ≡ true
above_ends [] [] e = e
above_ends [] (y ∷ q) e = e
above_ends (x ∷ p) [] e = refl
above_ends (x ∷ p) (y ∷ q) e =
    let h = and_parts (eqb y x) (above q p) e in
    or_right (ltb x y) (eqb x y && ends p q) (and_from (eqb x y) (ends p q) (eq-eqb x y (sym (eqb-true y x h.0))) (above_ends p q h.1))

pub lower_ends : (p q : List ℕ) → parts_lower p q ≡ true → ends p q ≡ true
lower_ends [] q e = e
lower_ends (x ∷ p) [] e = refl
lower_ends (x ∷ p) (y ∷ q) e = go (or_cases (ltb x y) (eqb x y && parts_lower p q) e) (lower_ends p q)
  where
    go :
        (ltb x y ≡ true) ⊎ ((eqb x y && parts_lower p q) ≡ true) →
        (parts_lower p q ≡ true → ends p q ≡ true) →
        (ltb x y || (eqb x y && ends p q)) ≡ true
    go (inl l) ih = or_left (ltb x y) (eqb x y && ends p q) l
    go (inr h) ih =
        let k = and_parts (eqb x y) (parts_lower p q) h in
        or_right (ltb x y) (eqb x y && ends p q) (and_from (eqb x y) (ends p q) k.0 (ih k.1))

pub ends_not_self : (p : List ℕ) → ends p p ≡ true → ⊥
ends_not_self [] e = clash e
ends_not_self (x ∷ p) e = go (or_cases (ltb x x) (eqb x x && ends p p) e) (ends_not_self p)
  where
    go : (ltb x x ≡ true) ⊎ ((eqb x x && ends p p) ≡ true) → (ends p p ≡ true → ⊥) → ⊥
    go (inl l) ih = omega (arith, ltb-true x x l)
    go (inr h) ih = ih (and_parts (eqb x x) (ends p p) h).1

-- one step of a path against another, as cases that carry their facts
step_cases : (x y : ℕ) (b : Bool) → (ltb x y || (eqb x y && b)) ≡ true → (x < y) ⊎ ((x ≡ y) × (b ≡ true))
step_cases x y b e = go (or_cases (ltb x y) (eqb x y && b) e)
  where
    go : (ltb x y ≡ true) ⊎ ((eqb x y && b) ≡ true) → (x < y) ⊎ ((x ≡ y) × (b ≡ true))
    go (inl l) = inl (ltb-true x y l)
    go (inr h) = let k = and_parts (eqb x y) b h in inr (eqb-true x y k.0, k.1)

step_less : (x y : ℕ) (b : Bool) → x < y → (ltb x y || (eqb x y && b)) ≡ true
step_less x y b h = or_left (ltb x y) (eqb x y && b) (lt-ltb x y h)

step_same : (x y : ℕ) (b : Bool) → x ≡ y → b ≡ true → (ltb x y || (eqb x y && b)) ≡ true
step_same x y b p q = or_right (ltb x y) (eqb x y && b) (and_from (eqb x y) b (eq-eqb x y p) q)

pub ends_trans : (p q r : List ℕ) → ends p q ≡ true → ends q r ≡ true → ends p r ≡ true
ends_trans [] q r e k = e
ends_trans (x ∷ p) [] r e k = clash k
ends_trans (x ∷ p) (y ∷ q) [] e k = refl
ends_trans (x ∷ p) (y ∷ q) (z ∷ r) e k = go (step_cases x y (ends p q) e) (step_cases y z (ends q r) k) (ends_trans p q r)
  where
    go :
        (x < y) ⊎ ((x ≡ y) × (ends p q ≡ true)) →
        (y < z) ⊎ ((y ≡ z) × (ends q r ≡ true)) →
        (ends p q ≡ true → ends q r ≡ true → ends p r ≡ true) →
        (ltb x z || (eqb x z && ends p r)) ≡ true
    go (inl a) (inl b) ih = step_less x z (ends p r) (omega arith)
    go (inl a) (inr b) ih = step_less x z (ends p r) (omega arith)
    go (inr a) (inl b) ih = step_less x z (ends p r) (omega arith)
    go (inr a) (inr b) ih = step_same x z (ends p r) (a.0 ∙ b.0) (ih a.1 b.1)

pub above_push : (p : List ℕ) (x : ℕ) → above p (p ++ x ∷ []) ≡ true
above_push [] x = refl
above_push (y ∷ p) x = and_from (eqb y y) (above p (p ++ x ∷ [])) (eq-eqb y y refl) (above_push p x)

pub above_more : (p q : List ℕ) (x : ℕ) → above p q ≡ true → above p (q ++ x ∷ []) ≡ true
above_more [] [] x e = refl
above_more [] (y ∷ q) x e = refl
above_more (z ∷ p) [] x e = clash e
above_more (z ∷ p) (y ∷ q) x e =
    let k = and_parts (eqb z y) (above p q) e in and_from (eqb z y) (above p (q ++ x ∷ [])) k.0 (above_more p q x k.1)

pub lower_more_left : (p q : List ℕ) (x : ℕ) → parts_lower p q ≡ true → parts_lower (p ++ x ∷ []) q ≡ true
lower_more_left [] q x e = clash e
lower_more_left (y ∷ p) [] x e = clash e
lower_more_left (y ∷ p) (z ∷ q) x e = go (step_cases y z (parts_lower p q) e) (lower_more_left p q x)
  where
    go :
        (y < z) ⊎ ((y ≡ z) × (parts_lower p q ≡ true)) →
        (parts_lower p q ≡ true → parts_lower (p ++ x ∷ []) q ≡ true) →
        (ltb y z || (eqb y z && parts_lower (p ++ x ∷ []) q)) ≡ true
    go (inl a) ih = step_less y z (parts_lower (p ++ x ∷ []) q) a
    go (inr a) ih = step_same y z (parts_lower (p ++ x ∷ []) q) a.0 (ih a.1)

pub lower_more_right : (p q : List ℕ) (x : ℕ) → parts_lower p q ≡ true → parts_lower p (q ++ x ∷ []) ≡ true
lower_more_right [] q x e = clash e
lower_more_right (y ∷ p) [] x e = clash e
lower_more_right (y ∷ p) (z ∷ q) x e = go (step_cases y z (parts_lower p q) e) (lower_more_right p q x)
  where
    go :
        (y < z) ⊎ ((y ≡ z) × (parts_lower p q ≡ true)) →
        (parts_lower p q ≡ true → parts_lower p (q ++ x ∷ []) ≡ true) →
        (ltb y z || (eqb y z && parts_lower p (q ++ x ∷ []))) ≡ true
    go (inl a) ih = step_less y z (parts_lower p (q ++ x ∷ [])) a
    go (inr a) ih = step_same y z (parts_lower p (q ++ x ∷ [])) a.0 (ih a.1)

-- what lies below p comes before a new task made at p
pub above_lower : (p q : List ℕ) (n : ℕ) → All (λ x. x < n) q → above p q ≡ true → parts_lower q (p ++ n ∷ []) ≡ true
above_lower [] [] n a e = e
above_lower [] (y ∷ q) n a e = step_less y n (parts_lower q []) a.0
above_lower (z ∷ p) [] n a e = clash e
above_lower (z ∷ p) (y ∷ q) n a e =
    let k = and_parts (eqb z y) (above p q) e in
    step_same y z (parts_lower q (p ++ n ∷ [])) (sym (eqb-true z y k.0)) (above_lower p q n a.1 k.1)

-- what the new task comes before, its parent comes before
pub lower_back : (p q : List ℕ) (n : ℕ) → All (λ x. x < n) q → parts_lower (p ++ n ∷ []) q ≡ true → parts_lower p q ≡ true
lower_back [] [] n a e = e
lower_back [] (y ∷ q) n a e = go (step_cases n y (parts_lower [] q) e)
  where
    go : (n < y) ⊎ ((n ≡ y) × (false ≡ true)) → false ≡ true
    go (inl l) = let k = a.0 in absurd (omega arith)
    go (inr l) = l.1
lower_back (y ∷ p) [] n a e = e
lower_back (y ∷ p) (z ∷ q) n a e = go (step_cases y z (parts_lower (p ++ n ∷ []) q) e) (lower_back p q n a.1)
  where
    go :
        (y < z) ⊎ ((y ≡ z) × (parts_lower (p ++ n ∷ []) q ≡ true)) →
        (parts_lower (p ++ n ∷ []) q ≡ true → parts_lower p q ≡ true) →
        (ltb y z || (eqb y z && parts_lower p q)) ≡ true
    go (inl l) ih = step_less y z (parts_lower p q) l
    go (inr l) ih = step_same y z (parts_lower p q) l.0 (ih l.1)

-- the descendants of an earlier task are earlier
pub above_earlier : (p q r : List ℕ) → above p q ≡ true → parts_lower p r ≡ true → parts_lower q r ≡ true
above_earlier [] q r e k = clash k
above_earlier (x ∷ p) [] r e k = clash e
above_earlier (x ∷ p) (y ∷ q) [] e k = clash k
above_earlier (x ∷ p) (y ∷ q) (z ∷ r) e k = go (step_cases x z (parts_lower p r) k) (above_earlier p q r (and_parts (eqb x y) (above p q) e).1)
  where
    same : x ≡ y
    same = eqb-true x y (and_parts (eqb x y) (above p q) e).0

    go :
        (x < z) ⊎ ((x ≡ z) × (parts_lower p r ≡ true)) →
        (parts_lower p r ≡ true → parts_lower q r ≡ true) →
        (ltb y z || (eqb y z && parts_lower q r)) ≡ true
    go (inl l) ih = let s = same in step_less y z (parts_lower q r) (omega arith)
    go (inr l) ih = step_same y z (parts_lower q r) (sym same ∙ l.0) (ih l.1)

pub above_trans : (p q r : List ℕ) → above p q ≡ true → above q r ≡ true → above p r ≡ true
above_trans [] [] r e k = clash e
above_trans [] (y ∷ q) [] e k = clash k
above_trans [] (y ∷ q) (z ∷ r) e k = refl
above_trans (x ∷ p) [] r e k = clash e
above_trans (x ∷ p) (y ∷ q) [] e k = clash k
above_trans (x ∷ p) (y ∷ q) (z ∷ r) e k =
    let a = and_parts (eqb x y) (above p q) e in
    let b = and_parts (eqb y z) (above q r) k in
    and_from (eqb x z) (above p r) (eq-eqb x z (eqb-true x y a.0 ∙ eqb-true y z b.0)) (above_trans p q r a.1 b.1)

-- what lies above a new task is its parent or lies above that
pub above_push_back : (p q : List ℕ) (x : ℕ) → above p (q ++ x ∷ []) ≡ true → (p ≡ q) ⊎ (above p q ≡ true)
above_push_back [] [] x e = inl refl
above_push_back [] (y ∷ q) x e = inr refl
above_push_back (z ∷ []) [] x e = clash (and_parts (eqb z x) (above [] []) e).1
above_push_back (z ∷ z' ∷ p) [] x e = clash (and_parts (eqb z x) (above (z' ∷ p) []) e).1
above_push_back (z ∷ p) (y ∷ q) x e = go (above_push_back p q x k.1)
  where
    k : (eqb z y ≡ true) × (above p (q ++ x ∷ []) ≡ true)
    k = and_parts (eqb z y) (above p (q ++ x ∷ [])) e

    go : (p ≡ q) ⊎ (above p q ≡ true) → (◌≡◌ {A = List ℕ} (z ∷ p) (y ∷ q)) ⊎ ((eqb z y && above p q) ≡ true)
    go (inl s) = let t = eqb-true z y k.0 in inl (cc)
    go (inr u) = inr (and_from (eqb z y) (above p q) k.0 u)

-- no old path lies below a new task
pub above_new : (p q : List ℕ) (n : ℕ) → All (λ x. x < n) q → above (p ++ n ∷ []) q ≡ true → ⊥
above_new [] [] n a e = clash e
above_new [] (y ∷ q) n a e = let k = eqb-true n y (and_parts (eqb n y) (above [] q) e).0 in let l = a.0 in omega arith
above_new (z ∷ p) [] n a e = clash e
above_new (z ∷ p) (y ∷ q) n a e = above_new p q n a.1 (and_parts (eqb z y) (above (p ++ n ∷ []) q) e).1

-- the tree
pub path_new : (p : ℕ) (tree : List ℕ) → path (p ∷ tree) (suc (length tree)) ≡ path tree p ++ suc (length tree) ∷ []
path_new p tree = cond-true (eqb (suc (length tree)) (suc (length tree))) _ _ (eq-eqb _ _ refl)

pub path_old : (p : ℕ) (tree : List ℕ) (x : ℕ) → x < suc (length tree) → path (p ∷ tree) x ≡ path tree x
path_old p tree x h = cond-false (eqb x (suc (length tree))) _ _ (ne_eqb x (suc (length tree)) (λ e. omega arith))

pub path_small : (tree : List ℕ) (x : ℕ) → All (λ y. y < suc (length tree)) (path tree x)
path_small [] x = tt
path_small (p ∷ tree) x = go (cases_eq x (suc (length tree))) (path_small tree p) (path_small tree x)
  where
    wider : (l : List ℕ) → All (λ y. y < suc (length tree)) l → All (λ y. y < suc (suc (length tree))) l
    wider l a = All-weaker (λ y. y < suc (length tree)) (λ y. y < suc (suc (length tree))) (λ y k. omega arith) l a

    go :
        (x ≡ suc (length tree)) ⊎ (x ≡ suc (length tree) → ⊥) →
        All (λ y. y < suc (length tree)) (path tree p) →
        All (λ y. y < suc (length tree)) (path tree x) →
        All (λ y. y < suc (suc (length tree))) (path (p ∷ tree) x)
    go (inl e) a b =
        rw (cond-true (eqb x (suc (length tree))) (path tree p ++ x ∷ []) (path tree x) (eq-eqb x (suc (length tree)) e))
        (All-append (λ y. y < suc (suc (length tree))) (path tree p) (x ∷ []) (wider (path tree p) a) (omega arith, tt))
    go (inr n) a b =
        rw (cond-false (eqb x (suc (length tree))) (path tree p ++ x ∷ []) (path tree x) (ne_eqb x (suc (length tree)) n))
        (wider (path tree x) b)

abbrev pub last : List ℕ → ℕ
last [] = 0
last (x ∷ []) = x
last (x ∷ y ∷ l) = last (y ∷ l)

last_push : (l : List ℕ) (x : ℕ) → last (l ++ x ∷ []) ≡ x
last_push [] x = refl
last_push (y ∷ []) x = refl
last_push (y ∷ z ∷ l) x = last_push (z ∷ l) x

pub last_path : (tree : List ℕ) (x : ℕ) → x < suc (length tree) → last (path tree x) ≡ x
last_path [] x h = omega arith
last_path (p ∷ tree) x h = go (cases_eq x (suc (length tree))) (last_path tree x)
  where
    go :
        (x ≡ suc (length tree)) ⊎ (x ≡ suc (length tree) → ⊥) →
        (x < suc (length tree) → last (path tree x) ≡ x) →
        last (path (p ∷ tree) x) ≡ x
    go (inl e) ih =
        ap last (cond-true (eqb x (suc (length tree))) (path tree p ++ x ∷ []) (path tree x) (eq-eqb x (suc (length tree)) e)) ∙ last_push (path tree p) x
    go (inr n) ih =
        ap last (cond-false (eqb x (suc (length tree))) (path tree p ++ x ∷ []) (path tree x) (ne_eqb x (suc (length tree)) n)) ∙ ih (omega arith)

pub path_inj : (tree : List ℕ) (x y : ℕ) → x < suc (length tree) → y < suc (length tree) → path tree x ≡ path tree y → x ≡ y
path_inj tree x y h k e = sym (last_path tree x h) ∙ (ap last e ∙ last_path tree y k)

-- each parent is older than its child
abbrev pub Well : List ℕ → Type 0
Well [] = Unit {0}
Well (p ∷ tree) = (p < suc (length tree)) × Well tree

pub parent_path :
    (tree : List ℕ) →
    Well tree →
    (v : ℕ) →
    0 < v →
    v < suc (length tree) →
    (parent_of tree v < suc (length tree)) × (path tree v ≡ path tree (parent_of tree v) ++ v ∷ [])
parent_path [] g v a b = absurd (omega arith)
parent_path (p ∷ tree) g v a b = go (cases_eq v (suc (length tree))) (parent_path tree g.1 v a)
  where
    Goal : ℕ → Type 0
    Goal u = (u < suc (suc (length tree))) × (path (p ∷ tree) v ≡ path (p ∷ tree) u ++ v ∷ [])

    go :
        (v ≡ suc (length tree)) ⊎ (v ≡ suc (length tree) → ⊥) →
        (v < suc (length tree) → (parent_of tree v < suc (length tree)) × (path tree v ≡ path tree (parent_of tree v) ++ v ∷ [])) →
        Goal (parent_of (p ∷ tree) v)
    go (inl e) ih =
        subst Goal (sym (cond-true (eqb v (suc (length tree))) p (parent_of tree v) (eq-eqb v (suc (length tree)) e)))
        ((
          let k = g.0 in omega arith,
          cond-true (eqb v (suc (length tree))) (path tree p ++ v ∷ []) (path tree v) (eq-eqb v (suc (length tree)) e)
              ∙ ap (λ (l : List ℕ). l ++ v ∷ []) (sym (path_old p tree p g.0)),
        )
        )
    go (inr n) ih =
        let old : v < suc (length tree) = omega arith in
        let k = ih old in
        let up = k.0 in
        subst Goal (sym (cond-false (eqb v (suc (length tree))) p (parent_of tree v) (ne_eqb v (suc (length tree)) n)))
        ((omega arith, path_old p tree v old ∙ (k.1 ∙ ap (λ (l : List ℕ). l ++ v ∷ []) (sym (path_old p tree (parent_of tree v) k.0)))))

pub path_zero : (tree : List ℕ) → path tree 0 ≡ []
path_zero [] = refl
path_zero (p ∷ tree) = path_old p tree 0 (omega arith) ∙ path_zero tree

pub above_none : (p : List ℕ) → above p [] ≡ true → ⊥
above_none [] e = clash e
above_none (x ∷ p) e = clash e

pub parent_older : (tree : List ℕ) → Well tree → (v : ℕ) → 0 < v → v < suc (length tree) → parent_of tree v < v
parent_older [] g v a b = absurd (omega arith)
parent_older (p ∷ tree) g v a b = go (cases_eq v (suc (length tree))) (parent_older tree g.1 v a)
  where
    go : (v ≡ suc (length tree)) ⊎ (v ≡ suc (length tree) → ⊥) → (v < suc (length tree) → parent_of tree v < v) → parent_of (p ∷ tree) v < v
    go (inl e) ih =
        rw (cond-true (eqb v (suc (length tree))) p (parent_of tree v) (eq-eqb v (suc (length tree)) e)) (let k = g.0 in omega arith)
    go (inr n) ih =
        rw (cond-false (eqb v (suc (length tree))) p (parent_of tree v) (ne_eqb v (suc (length tree)) n)) (ih (omega arith))
