-- The records of a table read as a world: how many tasks it has, their parents, and each record by its number.
-- Assumes nothing.
use Rattle.std.proofs.Common.{◌≡◌, ℕ, zero, suc, ◌-◌, ◌<◌, ◌≤◌, eqb, ◌⊎◌, List, [], ◌∷◌, ◌++◌, map, reverse, length, get_or, drop, sym, refl, ap, ◌∙◌, subst, inl, inr, not-suc-le-zero, arith}
use mathlib.Core.List.{reverse-cons}
use Rattle.std.proofs.lemmas.List.{reverse-reverse, length-reverse, length-drop, length-map, get_or-drop, get_or_append_left, get_or_push, get_or-map}
use Rattle.std.proofs.lemmas.Bool.{cases_eq, cond-true, cond-false, eq-eqb, ne_eqb}
use Rattle.order.specs.declared.task.Task as code
use Rattle.order.specs.Records.{Sound, parent_at}
use Rattle.order.specs.Tasks.{count, parent_of, path}
use Rattle.order.specs.View.{world_of}
use Rattle.order.proofs.Paths.{Well, parent_path}

-- the record of t
pub record_at : (tasks : List code.Task) (t : ℕ) → t < length tasks → code.Task
record_at [] t h = absurd (not-suc-le-zero h)
record_at (k ∷ more) zero h = k
record_at (k ∷ more) (suc t) h = record_at more t (omega arith)

pub at_record : {B : Type 0} (f : code.Task → B) (d : B) (tasks : List code.Task) (t : ℕ) (h : t < length tasks) → get_or (map f tasks) t d ≡ f (record_at tasks t h)
unfolding record_at
at_record f d [] t h = absurd (not-suc-le-zero h)
at_record f d (k ∷ more) zero h = refl
at_record f d (k ∷ more) (suc t) h = at_record f d more t (omega arith)

-- what is read of a record that the table gave for t
pub read_at : {B : Type 0} (f : code.Task → B) (d : B) (tasks : List code.Task) (t : ℕ) (k : code.Task) → t < length tasks → k ≡ get_or tasks t k → f k ≡ get_or (map f tasks) t d
read_at f d tasks t k h e = ap f e ∙ sym (get_or-map f tasks t k d h)

-- parents by their place in the list, oldest first
parent_in : (tree : List ℕ) (i : ℕ) → i < length tree → parent_of tree (suc i) ≡ get_or (reverse tree) i 0
parent_in [] i h = absurd (not-suc-le-zero h)
parent_in (p ∷ tree) i h = go (cases_eq i (length tree)) (parent_in tree i)
  where
    go :
        (i ≡ length tree) ⊎ (i ≡ length tree → ⊥) →
        (i < length tree → parent_of tree (suc i) ≡ get_or (reverse tree) i 0) →
        parent_of (p ∷ tree) (suc i) ≡ get_or (reverse (p ∷ tree)) i 0
    go (inl e) ih =
        cond-true (eqb (suc i) (suc (length tree))) p (parent_of tree (suc i)) (eq-eqb (suc i) (suc (length tree)) (ap suc e))
        ∙ (sym (get_or_push (reverse tree) p 0 i (length-reverse tree ∙ sym e)) ∙ ap (λ (l : List ℕ). get_or l i 0) (sym (reverse-cons p tree)))
    go (inr n) ih =
        let old : i < length tree = omega arith in
        cond-false (eqb (suc i) (suc (length tree))) p (parent_of tree (suc i)) (ne_eqb (suc i) (suc (length tree)) (λ e. n (omega arith)))
        ∙ (ih old
        ∙ (sym (get_or_append_left (reverse tree) (p ∷ []) 0 i (omega (arith, length-reverse tree)))
        ∙ ap (λ (l : List ℕ). get_or l i 0) (sym (reverse-cons p tree))))

well_from : (tree : List ℕ) → ((i : ℕ) → i < length tree → parent_of tree (suc i) < suc i) → Well tree
well_from [] f = tt
well_from (p ∷ tree) f = (
  subst (λ (x : ℕ). x < suc (length tree)) (cond-true (eqb (suc (length tree)) (suc (length tree))) p (parent_of tree (suc (length tree))) (eq-eqb _ _ refl)) (f (length tree) (omega arith)),
  well_from tree (λ i h.
      subst (λ (x : ℕ). x < suc i)
      (cond-false (eqb (suc i) (suc (length tree))) p (parent_of tree (suc i)) (ne_eqb (suc i) (suc (length tree)) (λ e. omega arith)))
      (f i (omega arith))),
)

module _ (cells : ℕ) (tasks : List code.Task) where
  length_tree : length (world_of cells tasks).tree ≡ length tasks - 1
  length_tree =
      length-reverse (drop 1 (map (λ k. k.parent) tasks))
      ∙ (length-drop 1 (map (λ k. k.parent) tasks) ∙ ap (λ (n : ℕ). n - 1) (length-map tasks (λ k. k.parent)))

  pub count_of : 1 ≤ length tasks → count (world_of cells tasks) ≡ length tasks
  count_of h = omega (arith, length_tree)

  pub parent_is : (t : ℕ) → 0 < t → t < length tasks → parent_of (world_of cells tasks).tree t ≡ parent_at tasks t
  parent_is zero a h = absurd (omega arith)
  parent_is (suc i) a h =
      parent_in (world_of cells tasks).tree i (omega (arith, length_tree))
      ∙ (ap (λ (l : List ℕ). get_or l i 0) (reverse-reverse (drop 1 (map (λ k. k.parent) tasks)))
      ∙ (get_or-drop 1 (map (λ k. k.parent) tasks) i 0 ∙ ap (λ (n : ℕ). get_or (map (λ k. k.parent) tasks) n 0) (omega arith)))

  module _ (sound : Sound cells tasks) where
    pub well_of : Well (world_of cells tasks).tree
    well_of =
        well_from (world_of cells tasks).tree
        (λ i h.
        let k : suc i < length tasks = omega (arith, length_tree, h) in
        subst (λ (x : ℕ). x < suc i) (sym (parent_is (suc i) (omega arith) k)) (sound.2 (suc i) (omega arith) k))

    -- the path of a task is that of its parent and the task
    pub path_at :
        (t : ℕ) → 0 < t → t < length tasks → path (world_of cells tasks).tree t ≡ path (world_of cells tasks).tree (parent_at tasks t) ++ t ∷ []
    path_at t a h =
        let k = parent_path (world_of cells tasks).tree well_of t a (omega (arith, length_tree)) in
        k.1 ∙ ap (λ (p : ℕ). path (world_of cells tasks).tree p ++ t ∷ []) (parent_is t a h)
