-- The tasks in the order in which they end: children before parents, earlier ones first.
-- Assumes nothing.
use Rattle.std.proofs.Common.{◌≡◌, ℕ, suc, ◌<◌, Bool, true, false, cond, eqb, ◌⊎◌, List, [], ◌∷◌, ◌++◌, length, sym, refl, subst, inl, inr}
use Rattle.std.specs.List.{AllByRecursion as All}
use Rattle.std.proofs.ByRecursion.{All-weaker}
use Rattle.std.proofs.lemmas.Bool.{cases_eq, eq-eqb, ne_eqb, cond-true, cond-false}
use Rattle.order.specs.Tasks.{path, above, parts_lower}
use Rattle.order.proofs.Paths.{
  ends,
  ends_cases,
  above_ends,
  lower_ends,
  ends_not_self,
  above_push,
  above_more,
  lower_more_left,
  lower_more_right,
  above_lower,
  path_new,
  path_old,
  path_small,
}

-- the list has the task
abbrev pub In : ℕ → List ℕ → Type 0
In t [] = ⊥
In t (x ∷ xs) = (t ≡ x) ⊎ In t xs

pub all_in : (P : ℕ → Type 0) (xs : List ℕ) (t : ℕ) → All P xs → In t xs → P t
all_in P [] t a i = absurd i
all_in P (x ∷ xs) t a (inl e) = subst P (sym e) a.0
all_in P (x ∷ xs) t a (inr i) = all_in P xs t a.1 i

pub in_rest : (t x : ℕ) (xs : List ℕ) → (t ≡ x → ⊥) → In t (x ∷ xs) → In t xs
in_rest t x xs n (inl e) = absurd (n e)
in_rest t x xs n (inr i) = i

-- each ends before those behind it
abbrev pub Sorted : List ℕ → List ℕ → Type 0
Sorted tree [] = Unit {0}
Sorted tree (x ∷ xs) = All (λ y. ends (path tree x) (path tree y) ≡ true) xs × Sorted tree xs

-- the list with n right before p
abbrev pub insert : ℕ → ℕ → List ℕ → List ℕ
insert n p [] = []
insert n p (t ∷ ts) = cond (eqb p t) (n ∷ t ∷ ts) (t ∷ insert n p ts)

pub insert_here : (n p t : ℕ) (ts : List ℕ) → p ≡ t → insert n p (t ∷ ts) ≡ n ∷ t ∷ ts
insert_here n p t ts e = cond-true (eqb p t) (n ∷ t ∷ ts) (t ∷ insert n p ts) (eq-eqb p t e)

pub insert_on : (n p t : ℕ) (ts : List ℕ) → (p ≡ t → ⊥) → insert n p (t ∷ ts) ≡ t ∷ insert n p ts
insert_on n p t ts e = cond-false (eqb p t) (n ∷ t ∷ ts) (t ∷ insert n p ts) (ne_eqb p t e)

pub all_insert : (P : ℕ → Type 0) (n p : ℕ) (ts : List ℕ) → P n → All P ts → All P (insert n p ts)
all_insert P n p [] here a = tt
all_insert P n p (t ∷ ts) here a = go (eqb p t) (all_insert P n p ts here a.1)
  where
    go : (b : Bool) → All P (insert n p ts) → All P (cond b (n ∷ t ∷ ts) (t ∷ insert n p ts))
    go true ih = (here, (a.0, a.1))
    go false ih = (a.0, ih)

pub in_old : (n p : ℕ) (ts : List ℕ) (x : ℕ) → In x ts → In x (insert n p ts)
in_old n p [] x i = i
in_old n p (t ∷ ts) x i = go (eqb p t) i (in_old n p ts x)
  where
    go : (b : Bool) → (x ≡ t) ⊎ In x ts → (In x ts → In x (insert n p ts)) → In x (cond b (n ∷ t ∷ ts) (t ∷ insert n p ts))
    go true j ih = inr j
    go false (inl e) ih = inl e
    go false (inr j) ih = inr (ih j)

pub in_new : (n p : ℕ) (ts : List ℕ) → In p ts → In n (insert n p ts)
in_new n p [] i = i
in_new n p (t ∷ ts) i = go (cases_eq p t) (in_new n p ts)
  where
    go : (p ≡ t) ⊎ (p ≡ t → ⊥) → (In p ts → In n (insert n p ts)) → In n (insert n p (t ∷ ts))
    go (inl e) ih = subst (In n) (sym (insert_here n p t ts e)) (inl refl)
    go (inr d) ih = subst (In n) (sym (insert_on n p t ts d)) (inr (ih (in_rest p t ts d i)))

-- a new task ends before what its parent ends before, and after what ended before its parent
new_before : (p y : List ℕ) (n : ℕ) → ends p y ≡ true → ends (p ++ n ∷ []) y ≡ true
new_before p y n e = go (ends_cases p y e)
  where
    go : (above y p ≡ true) ⊎ (parts_lower p y ≡ true) → ends (p ++ n ∷ []) y ≡ true
    go (inl u) = above_ends (p ++ n ∷ []) y (above_more y p n u)
    go (inr l) = lower_ends (p ++ n ∷ []) y (lower_more_left p y n l)

new_behind : (t p : List ℕ) (n : ℕ) → All (λ x. x < n) t → ends t p ≡ true → ends t (p ++ n ∷ []) ≡ true
new_behind t p n a e = go (ends_cases t p e)
  where
    go : (above p t ≡ true) ⊎ (parts_lower t p ≡ true) → ends t (p ++ n ∷ []) ≡ true
    go (inl u) = lower_ends t (p ++ n ∷ []) (above_lower p t n a u)
    go (inr l) = lower_ends t (p ++ n ∷ []) (lower_more_right t p n l)

module _ (tree : List ℕ) (p : ℕ) (old : p < suc (length tree)) where
  ends_kept : (x y : ℕ) → x < suc (length tree) → y < suc (length tree) → ends (path tree x) (path tree y) ≡ true → ends (path (p ∷ tree) x) (path (p ∷ tree) y) ≡ true
  ends_kept x y hx hy e = rw (path_old p tree x hx, path_old p tree y hy) e

  all_kept :
      (x : ℕ) (ys : List ℕ) →
      x < suc (length tree) →
      All (λ y. y < suc (length tree)) ys →
      All (λ y. ends (path tree x) (path tree y) ≡ true) ys →
      All (λ y. ends (path (p ∷ tree) x) (path (p ∷ tree) y) ≡ true) ys
  all_kept x [] hx a s = tt
  all_kept x (y ∷ ys) hx a s = (ends_kept x y hx a.0 s.0, all_kept x ys hx a.1 s.1)

  new_all :
      (ys : List ℕ) →
      All (λ y. y < suc (length tree)) ys →
      All (λ y. ends (path tree p) (path tree y) ≡ true) ys →
      All (λ y. ends (path (p ∷ tree) (suc (length tree))) (path (p ∷ tree) y) ≡ true) ys
  new_all [] a s = tt
  new_all (y ∷ ys) a s = (
    rw (path_new p tree, path_old p tree y a.0) (new_before (path tree p) (path tree y) (suc (length tree)) s.0),
    new_all ys a.1 s.1,
  )

  pub sorted_kept : (ts : List ℕ) → All (λ y. y < suc (length tree)) ts → Sorted tree ts → Sorted (p ∷ tree) ts
  sorted_kept [] a s = tt
  sorted_kept (t ∷ ts) a s = (all_kept t ts a.0 a.1 s.0, sorted_kept ts a.1 s.1)

  pub sorted_insert :
      (ts : List ℕ) →
      All (λ y. y < suc (length tree)) ts →
      In p ts →
      Sorted tree ts →
      Sorted (p ∷ tree) (insert (suc (length tree)) p ts)
  sorted_insert [] a i s = tt
  sorted_insert (t ∷ ts) a i s = go (cases_eq p t) (sorted_insert ts a.1)
    where
      go :
          (p ≡ t) ⊎ (p ≡ t → ⊥) →
          (In p ts → Sorted tree ts → Sorted (p ∷ tree) (insert (suc (length tree)) p ts)) →
          Sorted (p ∷ tree) (insert (suc (length tree)) p (t ∷ ts))
      go (inl e) ih =
          subst (Sorted (p ∷ tree)) (sym (insert_here (suc (length tree)) p t ts e)) (
            (
              rw (path_new p tree, path_old p tree t a.0, ← e) (above_ends (path tree p ++ suc (length tree) ∷ []) (path tree p) (above_push (path tree p) (suc (length tree)))),
              new_all ts a.1 (subst (λ (x : ℕ). All (λ y. ends (path tree x) (path tree y) ≡ true) ts) (sym e) s.0),
            ),
            sorted_kept (t ∷ ts) a s,
          )
      go (inr d) ih =
          subst (Sorted (p ∷ tree)) (sym (insert_on (suc (length tree)) p t ts d)) (
            all_insert (λ y. ends (path (p ∷ tree) t) (path (p ∷ tree) y) ≡ true) (suc (length tree)) p ts
                (
                rw (path_new p tree, path_old p tree t a.0)
                (
                new_behind (path tree t) (path tree p) (suc (length tree)) (path_small tree t)
                (all_in (λ y. ends (path tree t) (path tree y) ≡ true) ts p s.0 (in_rest p t ts d i))
                )
                )
                (all_kept t ts a.0 a.1 s.0),
            ih (in_rest p t ts d i) s.1,
          )

-- those behind a task are other tasks
pub others : (tree : List ℕ) (p : ℕ) (ts : List ℕ) → All (λ y. ends (path tree p) (path tree y) ≡ true) ts → All (λ y. p ≡ y → ⊥) ts
others tree p ts a =
    All-weaker (λ y. ends (path tree p) (path tree y) ≡ true) (λ y. p ≡ y → ⊥)
    (λ y e i. ends_not_self (path tree p) (subst (λ (z : ℕ). ends (path tree p) (path tree z) ≡ true) (sym i) e))
    ts a
