-- A task is deeply complete exactly when it is finished and all its children are deeply complete; and what is held meanwhile.
-- Assumes nothing.
use Rattle.std.proofs.Common.{◌≡◌, ℕ, zero, suc, ◌<◌, Bool, true, false, not, ◌&&◌, ◌||◌, eqb, ltb, ◌⊎◌, ◌↔◌, List, [], ◌∷◌, ◌++◌, None, sym, refl, ap, ◌∙◌, subst, inl, inr, arith}
use Rattle.std.proofs.lemmas.Bool.{and_parts, and_from, and_left, or_right, lt-ltb, eq-eqb, eqb-true, ltb-true, cases_eq, cases_Bool, cond-true, cond-false}
use Rattle.order.specs.Questions.{children_complete}
use Rattle.order.specs.Tasks.{World, count, state_of, is_finished, every_task, path, parent_of, above, ancestor, child, deeply_complete, let_go, holds}
use Rattle.kinds.proofs.Every.{then, then_from}
use Rattle.order.proofs.Bounded.{every_at, every_from}
use Rattle.order.proofs.Paths.{Well, parent_path, above_push, above_push_back, above_trans, above_none, path_inj, path_zero, parent_older}

-- tests that follow from each other are one
pub one_truth : (a b : Bool) → (a ≡ true → b ≡ true) → (b ≡ true → a ≡ true) → a ≡ b
one_truth true b f g = sym (f refl)
one_truth false true f g = g refl
one_truth false false f g = refl

module _ (w : World) where
  pub deep_from :
      (u : ℕ) →
      is_finished (state_of w u) ≡ true →
      ((v : ℕ) → v < count w → ancestor w u v ≡ true → is_finished (state_of w v) ≡ true) →
      deeply_complete w u ≡ true
  deep_from u f a =
      and_from (is_finished (state_of w u)) (every_task w (λ v. not (ancestor w u v) || is_finished (state_of w v))) f
      (every_from (count w) (λ v. not (ancestor w u v) || is_finished (state_of w v)) (λ v h. then_from (ancestor w u v) (is_finished (state_of w v)) (a v h)))

  -- a task that is not finished holds all that it has not released
  pub holds_unfinished : (t : ℕ) → is_finished (state_of w t) ≡ false → (c : ℕ) → holds w t c ≡ (w.task t).hold c
  holds_unfinished t e c =
      cond-false (let_go w t) None ((w.task t).hold c) (and_left (is_finished (state_of w t)) (not (w.task t).waits || deeply_complete w t) e)

  pub finished_or_holds : (t : ℕ) → (is_finished (state_of w t) ≡ true) ⊎ ((c : ℕ) → holds w t c ≡ (w.task t).hold c)
  finished_or_holds t = go (cases_Bool (is_finished (state_of w t)))
    where
      go :
          (is_finished (state_of w t) ≡ true) ⊎ (is_finished (state_of w t) ≡ false) →
          (is_finished (state_of w t) ≡ true) ⊎ ((c : ℕ) → holds w t c ≡ (w.task t).hold c)
      go (inl e) = inl e
      go (inr e) = inr (holds_unfinished t e)

  -- a deeply complete task holds nothing
  pub deep_holds_none : (t : ℕ) → is_finished (state_of w t) ≡ true → deeply_complete w t ≡ true → (c : ℕ) → holds w t c ≡ None
  deep_holds_none t f d c =
      cond-true (let_go w t) None ((w.task t).hold c)
      (
      and_from (is_finished (state_of w t)) (not (w.task t).waits || deeply_complete w t) f
      (or_right (not (w.task t).waits) (deeply_complete w t) d)
      )

  -- what is held now was asked for
  pub holds_or_none : (t c : ℕ) → (holds w t c ≡ (w.task t).hold c) ⊎ (holds w t c ≡ None)
  holds_or_none t c = go (cases_Bool (let_go w t))
    where
      go : (let_go w t ≡ true) ⊎ (let_go w t ≡ false) → (holds w t c ≡ (w.task t).hold c) ⊎ (holds w t c ≡ None)
      go (inl e) = inr (cond-true (let_go w t) None ((w.task t).hold c) e)
      go (inr e) = inl (cond-false (let_go w t) None ((w.task t).hold c) e)

  module _ (g : Well w.tree) where
    pub child_ancestor : (u v : ℕ) → v < count w → child w u v ≡ true → ancestor w u v ≡ true
    child_ancestor u v hv e =
        let k = and_parts (ltb 0 v) (eqb (parent_of w.tree v) u) e in
        let is = parent_path w.tree g v (ltb-true 0 v k.0) hv in
        let one : parent_of w.tree v ≡ u = eqb-true (parent_of w.tree v) u k.1 in
        subst (λ (x : ℕ). above (path w.tree x) (path w.tree v) ≡ true) one
        (rw is.1 (above_push (path w.tree (parent_of w.tree v)) v))

    deep_finished : (u : ℕ) → deeply_complete w u ≡ true → is_finished (state_of w u) ≡ true
    deep_finished u d = (and_parts (is_finished (state_of w u)) (every_task w (λ v. not (ancestor w u v) || is_finished (state_of w v))) d).0

    deep_below : (u v : ℕ) → v < count w → deeply_complete w u ≡ true → ancestor w u v ≡ true → is_finished (state_of w v) ≡ true
    deep_below u v hv d a =
        then (ancestor w u v) (is_finished (state_of w v))
        (
        every_at (count w) (λ x. not (ancestor w u x) || is_finished (state_of w x))
        (and_parts (is_finished (state_of w u)) (every_task w (λ x. not (ancestor w u x) || is_finished (state_of w x))) d).1
        v hv
        )
        a

    -- what lies below a deeply complete task is deeply complete
    pub deep_down : (u v : ℕ) → v < count w → deeply_complete w u ≡ true → ancestor w u v ≡ true → deeply_complete w v ≡ true
    deep_down u v hv d a =
        deep_from v (deep_below u v hv d a)
        (λ x hx b. deep_below u x hx d (above_trans (path w.tree u) (path w.tree v) (path w.tree x) a b))

    -- from the children to all descendants, by their numbers
    all_deep :
        (u : ℕ) →
        u < count w →
        ((v : ℕ) → v < count w → child w u v ≡ true → deeply_complete w v ≡ true) →
        (n v : ℕ) →
        v < n →
        v < count w →
        ancestor w u v ≡ true →
        deeply_complete w v ≡ true
    all_deep u hu kids zero v a hv e = absurd (omega arith)
    all_deep u hu kids (suc n) v a hv e = go (cases_eq v 0) (all_deep u hu kids n (parent_of w.tree v))
      where
        go :
            (v ≡ 0) ⊎ (v ≡ 0 → ⊥) →
            (parent_of w.tree v < n → parent_of w.tree v < count w → ancestor w u (parent_of w.tree v) ≡ true → deeply_complete w (parent_of w.tree v) ≡ true) →
            deeply_complete w v ≡ true
        go (inl z) ih =
            absurd (above_none (path w.tree u) (subst (λ (l : List ℕ). above (path w.tree u) l ≡ true) (ap (path w.tree) z ∙ path_zero w.tree) e))
        go (inr z) ih =
            pick (above_push_back (path w.tree u) (path w.tree p) v (subst (λ (l : List ℕ). above (path w.tree u) l ≡ true) is.1 e))
          where
            p : ℕ
            p = parent_of w.tree v

            is : (p < count w) × (path w.tree v ≡ path w.tree p ++ v ∷ [])
            is = parent_path w.tree g v (omega arith) hv

            older : p < v
            older = parent_older w.tree g v (omega arith) hv

            mine : child w p v ≡ true
            mine = and_from (ltb 0 v) (eqb (parent_of w.tree v) p) (lt-ltb 0 v (omega arith)) (eq-eqb p p refl)

            pick : (path w.tree u ≡ path w.tree p) ⊎ (above (path w.tree u) (path w.tree p) ≡ true) → deeply_complete w v ≡ true
            pick (inl s) = kids v hv (subst (λ (x : ℕ). child w x v ≡ true) (sym (path_inj w.tree u p hu is.0 s)) mine)
            pick (inr s) = let o = older in deep_down p v hv (ih (omega arith) is.0 s) (child_ancestor p v hv mine)

    pub deep_law :
        (u : ℕ) →
        u < count w →
        (deeply_complete w u ≡ true) ↔ ((is_finished (state_of w u) ≡ true) × ((v : ℕ) → v < count w → child w u v ≡ true → deeply_complete w v ≡ true))
    deep_law u hu = (
      λ d. (deep_finished u d, λ v hv c. deep_down u v hv d (child_ancestor u v hv c)),
      λ k.
          deep_from u k.0 (λ v hv a. deep_finished v (all_deep u hu k.1 (suc v) v (omega arith) hv a)),
    )

    pub deep_by_children : (u : ℕ) → u < count w → deeply_complete w u ≡ (is_finished (state_of w u) && children_complete w u)
    deep_by_children u hu =
        one_truth (deeply_complete w u) (is_finished (state_of w u) && children_complete w u)
        (
        λ d.
        let k = (deep_law u hu).0 d in
        and_from (is_finished (state_of w u)) (children_complete w u) k.0
        (every_from (count w) (λ v. not (child w u v) || deeply_complete w v) (λ v hv. then_from (child w u v) (deeply_complete w v) (k.1 v hv)))
        )
        (
        λ e.
        let k = and_parts (is_finished (state_of w u)) (children_complete w u) e in
        (deep_law u hu).1 (
          k.0,
          λ v hv. then (child w u v) (deeply_complete w v) (every_at (count w) (λ x. not (child w u x) || deeply_complete w x) k.1 v hv),
        )
        )
