-- The records of all tasks read as a world: what one record more, or another record, makes of it.
-- Assumes nothing.
use Rattle.std.proofs.Common.{◌≡◌, ℕ, ◌<◌, ◌≤◌, eqb, ◌⊎◌, List, [], ◌∷◌, ◌++◌, map, reverse, length, get_or, drop, set, sym, ap, ◌∙◌, inl, inr, arith}
use mathlib.Core.Path.{fun_ext}
use Rattle.std.proofs.lemmas.List.{map-set, map_push, set-get_or, get_or-set_same, get_or-set_other, get_or_append_left, get_or_push, get_or_past, length-map, length_push, drop-append-le, reverse-append}
use Rattle.std.proofs.lemmas.Bool.{cases_eq, cases_lt, eq-eqb, ne_eqb, cond-true, cond-false}
use Rattle.order.specs.declared.task.Task as code
use Rattle.order.specs.Questions.{put, put_task}
use Rattle.order.specs.Records.{parent_at}
use Rattle.order.specs.Tasks.{Task}
use Rattle.order.specs.View.{task_of, root, world_of}

-- the world hangs on the parents and the tasks alone
pub world_same :
    (cells : ℕ) (a b : List code.Task) →
    map (λ k. k.parent) a ≡ map (λ k. k.parent) b →
    map task_of a ≡ map task_of b →
    world_of cells a ≡ world_of cells b
world_same cells a b p q =
    λ i. record { cells = cells; tree = reverse (drop 1 (p i)); task = λ t. get_or (q i) t (root cells) }

-- a list in which one element is replaced by an equal one
pub map_kept : {B : Type 0} (f : code.Task → B) (d : B) (tasks : List code.Task) (t : ℕ) (k : code.Task) → f k ≡ get_or (map f tasks) t d → map f (set tasks t k) ≡ map f tasks
map_kept f d tasks t k e = map-set f tasks t k ∙ (ap (λ x. set (map f tasks) t x) e ∙ set-get_or (map f tasks) t d)

tasks_set :
    (cells : ℕ) (tasks : List code.Task) (t : ℕ) (k : code.Task) →
    t < length tasks →
    (world_of cells (set tasks t k)).task ≡ put (world_of cells tasks).task t (task_of k)
tasks_set cells tasks t k h = fun_ext (λ x. go x (cases_eq x t))
  where
    is : (x : ℕ) → get_or (map task_of (set tasks t k)) x (root cells) ≡ get_or (set (map task_of tasks) t (task_of k)) x (root cells)
    is x = ap (λ (l : List Task). get_or l x (root cells)) (map-set task_of tasks t k)

    go : (x : ℕ) → (x ≡ t) ⊎ (x ≡ t → ⊥) → (world_of cells (set tasks t k)).task x ≡ put (world_of cells tasks).task t (task_of k) x
    go x (inl e) =
        is x
        ∙ ((ap (λ n. get_or (set (map task_of tasks) t (task_of k)) n (root cells)) e
        ∙ get_or-set_same (map task_of tasks) t (task_of k) (root cells) (simp length-map h))
        ∙ sym (cond-true (eqb x t) (task_of k) (get_or (map task_of tasks) x (root cells)) (eq-eqb x t e)))
    go x (inr n) =
        is x
        ∙ (get_or-set_other (map task_of tasks) t x (task_of k) (root cells) n
        ∙ sym (cond-false (eqb x t) (task_of k) (get_or (map task_of tasks) x (root cells)) (ne_eqb x t n)))

-- another record with the same parent
pub view_set :
    (cells : ℕ) (tasks : List code.Task) (t : ℕ) (k : code.Task) →
    t < length tasks →
    k.parent ≡ parent_at tasks t →
    world_of cells (set tasks t k) ≡ put_task (world_of cells tasks) t (task_of k)
view_set cells tasks t k h p =
    let a = map_kept (λ j. j.parent) 0 tasks t k p in
    let b = tasks_set cells tasks t k h in
    λ i. record { cells = cells; tree = reverse (drop 1 (a i)); task = b i }

tree_push :
    (tasks : List code.Task) (k : code.Task) →
    1 ≤ length tasks →
    reverse (drop 1 (map (λ j. j.parent) (tasks ++ k ∷ []))) ≡ k.parent ∷ reverse (drop 1 (map (λ j. j.parent) tasks))
tree_push tasks k h =
    ap (λ (l : List ℕ). reverse (drop 1 l)) (map_push (λ j. j.parent) tasks k)
    ∙ (ap reverse (drop-append-le 1 (map (λ j. j.parent) tasks) (k.parent ∷ []) (simp length-map h))
    ∙ reverse-append (drop 1 (map (λ j. j.parent) tasks)) (k.parent ∷ []))

tasks_push :
    (cells : ℕ) (tasks : List code.Task) (k : code.Task) →
    (x : ℕ) →
    get_or (map task_of (tasks ++ k ∷ [])) x (root cells) ≡ put (world_of cells tasks).task (length tasks) (task_of k) x
tasks_push cells tasks k x =
    ap (λ (l : List Task). get_or l x (root cells)) (map_push task_of tasks k) ∙ go (cases_eq x (length tasks)) (cases_lt x (length tasks))
  where
    go :
        (x ≡ length tasks) ⊎ (x ≡ length tasks → ⊥) →
        (x < length tasks) ⊎ (length tasks ≤ x) →
        get_or (map task_of tasks ++ task_of k ∷ []) x (root cells) ≡ put (world_of cells tasks).task (length tasks) (task_of k) x
    go (inl e) l =
        get_or_push (map task_of tasks) (task_of k) (root cells) x (length-map tasks task_of ∙ sym e)
        ∙ sym (cond-true (eqb x (length tasks)) (task_of k) (get_or (map task_of tasks) x (root cells)) (eq-eqb x (length tasks) e))
    go (inr n) (inl l) =
        get_or_append_left (map task_of tasks) (task_of k ∷ []) (root cells) x (simp length-map l)
        ∙ sym (cond-false (eqb x (length tasks)) (task_of k) (get_or (map task_of tasks) x (root cells)) (ne_eqb x (length tasks) n))
    go (inr n) (inr l) =
        get_or_past (map task_of tasks ++ task_of k ∷ []) x (root cells) (simp (length_push, length-map) (omega arith))
        ∙ (sym (get_or_past (map task_of tasks) x (root cells) (simp length-map l))
        ∙ sym (cond-false (eqb x (length tasks)) (task_of k) (get_or (map task_of tasks) x (root cells)) (ne_eqb x (length tasks) n)))

-- one record more
pub view_push :
    (cells : ℕ) (tasks : List code.Task) (k : code.Task) →
    1 ≤ length tasks →
    world_of cells (tasks ++ k ∷ [])
    ≡ record {
      cells = cells;
      tree = k.parent ∷ (world_of cells tasks).tree;
      task = put (world_of cells tasks).task (length tasks) (task_of k);
    }
view_push cells tasks k h =
    let a = tree_push tasks k h in
    let b = fun_ext (tasks_push cells tasks k) in
    λ i. record { cells = cells; tree = a i; task = b i }
