-- One record more, that of a new child: the records stay sound, and read as the world with a new task.
-- Assumes nothing.
use Rattle.std.proofs.Common.{◌≡◌, ℕ, zero, suc, ◌+◌, ◌<◌, ◌≤◌, Bool, true, false, cond, not, ◌&&◌, eqb, ltb, leb, ◌⊎◌, List, [], ◌∷◌, ◌++◌, map, length, get_or, set, sym, refl, ap, ◌∙◌, subst, inl, inr, add-one, arith}
use mathlib.Core.Path.{fun_ext}
use Rattle.std.proofs.lemmas.List.{get_or_append_left, get_or_push, get_or_past, length-map, length_push, length-set, map_push}
use Rattle.std.proofs.lemmas.Bool.{and_left, and_parts, cases_eq, cases_lt, cond-true, cond-false, eq-eqb, lt-ltb, ltb-true, ne_eqb}
use Rattle.kinds.specs.declared.access.Access.{Access}
use Rattle.order.specs.declared.state.State.TheVariants.{Created}
use Rattle.order.specs.declared.task.Task.{Task}
use Rattle.order.specs.Asked.{running_questions, create_questions}
use Rattle.order.specs.Counting.{with_open}
use Rattle.order.specs.Holdings.{held, in_use}
use Rattle.kinds.specs.Kinds.{asked}
use Rattle.order.specs.Questions.{
  after,
  covers_all,
  create,
  first_number,
  holds_no_commutative,
  kinds_known,
  most_accesses,
  most_tasks,
  newborn,
  put,
  regions_lie,
  task_exists,
}
use Rattle.order.specs.Records.{Sound, tally, parent_at, open_at, complete, complete_at, open_child}
use Rattle.order.specs.Stretches.{end_by}
use Rattle.order.specs.Tasks.{World, count, is_finished, is_running, state_of}
use Rattle.order.specs.View.{task_of, world_of}
use Rattle.order.proofs.Answering.{all_accepted, all_running_yes, running_parts}
use Rattle.order.proofs.Changing.{map_kept, view_push, world_same}
use Rattle.order.proofs.Tallies.{open_here, open_other, tally_same, tally_zero}
use Rattle.order.proofs.Turning.{running_within, running_unfinished, state_read}
use Rattle.order.proofs.Viewed.{count_of, read_at}

-- what is read of a list with one element more
push_old : {B : Type 0} (f : Task → B) (d : B) (l : List Task) (x : Task) (i : ℕ) → i < length l → get_or (map f (l ++ x ∷ [])) i d ≡ get_or (map f l) i d
push_old {B = B} f d l x i h =
    ap (λ (m : List B). get_or m i d) (map_push f l x) ∙ get_or_append_left (map f l) (f x ∷ []) d i (simp length-map h)

push_new : {B : Type 0} (f : Task → B) (d : B) (l : List Task) (x : Task) (i : ℕ) → i ≡ length l → get_or (map f (l ++ x ∷ [])) i d ≡ f x
push_new {B = B} f d l x i h = ap (λ (m : List B). get_or m i d) (map_push f l x) ∙ get_or_push (map f l) (f x) d i (length-map l f ∙ sym h)

-- at most as many as there are numbers
pub tally_most : (n : ℕ) (f : ℕ → Bool) → tally n f ≤ n
tally_most zero f = omega arith
tally_most (suc n) f = go (f n) (tally_most n f)
  where
    go : (b : Bool) → tally n f ≤ n → cond b (suc (tally n f)) (tally n f) ≤ suc n
    go true h = omega arith
    go false h = omega arith

-- an accepted create has a running parent and room
pub create_parts :
    (w : World) (p : ℕ) (list : List Access) →
    0 ≡ first_number (create_questions w p list) →
    (0 ≡ first_number (running_questions w p)) × (ltb (count w) most_tasks ≡ true)
create_parts w p list e =
    let a = all_accepted w (create p false list) e in
    let b =
    and_parts (task_exists w p)
    (is_running (state_of w p) && (ltb (count w) most_tasks && (leb (length list) most_accesses && (regions_lie w list && (kinds_known list && (holds_no_commutative w p && (covers_all w p list && true)))))))
    a in
    let d =
    and_parts (is_running (state_of w p))
    (ltb (count w) most_tasks && (leb (length list) most_accesses && (regions_lie w list && (kinds_known list && (holds_no_commutative w p && (covers_all w p list && true))))))
    b.1 in
    let f =
    and_parts (ltb (count w) most_tasks)
    (leb (length list) most_accesses && (regions_lie w list && (kinds_known list && (holds_no_commutative w p && (covers_all w p list && true)))))
    d.1 in
    (all_running_yes w p b.0 d.0, f.0)

module _
    (cells : ℕ)
    (tasks : List Task)
    (sound : Sound cells tasks)
    (p : ℕ)
    (list : List Access)
    (asks : 0 ≡ first_number (create_questions (world_of cells tasks) p list))
  where
    pub parent_within : p < length tasks
    parent_within = running_within cells tasks sound p (create_parts (world_of cells tasks) p list asks).0

    pub room_left : length tasks < 64
    room_left =
        let n = count_of cells tasks sound.0 in
        let l = ltb-true (count (world_of cells tasks)) 64 (create_parts (world_of cells tasks) p list asks).1 in
        omega arith

    module _ (k : Task) (r : k ≡ get_or tasks p k) where
      pub few_open : k.open ≤ 64
      few_open =
          let o = read_at (λ i. i.open) 0 tasks p k parent_within r in
          let c = sound.3 p parent_within in
          let m = tally_most (length tasks) (open_child tasks p) in
          let l = room_left in
          omega arith

      -- the parent counts one child more, and then the child is added
      module _ (j : Task) (raised : j ≡ with_open k (k.open + 1)) (x : Task) (born : x.parent ≡ p) (fresh : x.state ≡ Created) (none : x.open ≡ 0) where
        same_length : length (set tasks p j) ≡ length tasks
        same_length = length-set tasks p j

        long : length (set tasks p j ++ x ∷ []) ≡ suc (length tasks)
        long = length_push (set tasks p j) x ∙ (add-one (length (set tasks p j)) ∙ ap suc same_length)

        parents : map (λ i. i.parent) (set tasks p j) ≡ map (λ i. i.parent) tasks
        parents = map_kept (λ i. i.parent) 0 tasks p j (ap (λ i. i.parent) raised ∙ read_at (λ i. i.parent) 0 tasks p k parent_within r)

        dones : map complete (set tasks p j) ≡ map complete tasks
        dones = map_kept complete false tasks p j (ap complete raised ∙ (open_complete ∙ read_at complete false tasks p k parent_within r))
          where
            running : is_finished k.state ≡ false
            running =
                running_unfinished k.state
                (
                ap is_running (state_read cells tasks sound p parent_within k r)
                ∙ (running_parts (world_of cells tasks) p (create_parts (world_of cells tasks) p list asks).0).1
                )

            open_complete : complete (with_open k (k.open + 1)) ≡ complete k
            open_complete =
                and_left (is_finished k.state) (eqb (k.open + 1) 0) running ∙ sym (and_left (is_finished k.state) (eqb k.open 0) running)

        old_parent : (i : ℕ) → i < length tasks → parent_at (set tasks p j ++ x ∷ []) i ≡ parent_at tasks i
        old_parent i h = push_old (λ a. a.parent) 0 (set tasks p j) x i (subst (λ (n : ℕ). i < n) (sym same_length) h) ∙ ap (λ (m : List ℕ). get_or m i 0) parents

        old_complete : (i : ℕ) → i < length tasks → complete_at (set tasks p j ++ x ∷ []) i ≡ complete_at tasks i
        old_complete i h = push_old complete false (set tasks p j) x i (subst (λ (n : ℕ). i < n) (sym same_length) h) ∙ ap (λ (m : List Bool). get_or m i false) dones

        new_parent : parent_at (set tasks p j ++ x ∷ []) (length tasks) ≡ p
        new_parent = push_new (λ a. a.parent) 0 (set tasks p j) x (length tasks) (sym same_length) ∙ born

        new_complete : complete_at (set tasks p j ++ x ∷ []) (length tasks) ≡ false
        new_complete =
            push_new complete false (set tasks p j) x (length tasks) (sym same_length)
            ∙ and_left (is_finished x.state) (eqb x.open 0) (ap is_finished fresh)

        older : (t : ℕ) → 0 < t → t < length (set tasks p j ++ x ∷ []) → parent_at (set tasks p j ++ x ∷ []) t < t
        older t a h = go (cases_eq t (length tasks))
          where
            go : (t ≡ length tasks) ⊎ (t ≡ length tasks → ⊥) → parent_at (set tasks p j ++ x ∷ []) t < t
            go (inl e) =
                let q : parent_at (set tasks p j ++ x ∷ []) t ≡ p = ap (parent_at (set tasks p j ++ x ∷ [])) e ∙ new_parent in
                let w = parent_within in
                omega arith
            go (inr n) =
                let l : t < length tasks = omega (arith, long) in
                let q = old_parent t l in
                let o = sound.2 t a l in
                omega arith

        -- the children of t among the old tasks and the new one
        counted_more : (t : ℕ) → tally (suc (length tasks)) (open_child (set tasks p j ++ x ∷ []) t) ≡ tally (length tasks) (open_child tasks t) + cond (eqb p t) 1 0
        counted_more t =
            ap (λ (b : Bool). cond b (suc (tally n f)) (tally n f)) last
            ∙ (ap (λ (m : ℕ). cond (eqb p t) (suc m) m) (tally_same n f (open_child tasks t) old) ∙ added (eqb p t) (tally n (open_child tasks t)))
          where
            n : ℕ
            n = length tasks

            f : ℕ → Bool
            f = open_child (set tasks p j ++ x ∷ []) t

            old : (i : ℕ) → i < n → f i ≡ open_child tasks t i
            old i h = let a = old_parent i h in let b = old_complete i h in rw (a, b) refl

            last : f n ≡ eqb p t
            last =
                let a = new_parent in
                let b = new_complete in
                let d = lt-ltb 0 n sound.0 in
                rw (a, b, d) (and_true (eqb p t))
              where
                and_true : (b : Bool) → (true && (b && not false)) ≡ b
                and_true true = refl
                and_true false = refl

            added : (b : Bool) (m : ℕ) → cond b (suc m) m ≡ m + cond b 1 0
            added true m = omega arith
            added false m = omega arith

        counted : (t : ℕ) → t < length (set tasks p j ++ x ∷ []) → open_at (set tasks p j ++ x ∷ []) t ≡ tally (length (set tasks p j ++ x ∷ [])) (open_child (set tasks p j ++ x ∷ []) t)
        counted t h = go (cases_eq t (length tasks)) (cases_eq t p) ∙ ap (λ (n : ℕ). tally n (open_child (set tasks p j ++ x ∷ []) t)) (sym long)
          where
            old_open : t < length tasks → open_at (set tasks p j ++ x ∷ []) t ≡ open_at (set tasks p j) t
            old_open l = push_old (λ a. a.open) 0 (set tasks p j) x t (subst (λ (n : ℕ). t < n) (sym same_length) l)

            childless : t ≡ length tasks → (i : ℕ) → i < length tasks → open_child tasks t i ≡ false
            childless e zero l = refl
            childless e (suc i) l =
                let o = sound.2 (suc i) (omega arith) l in
                let q = ne_eqb (parent_at tasks (suc i)) t (λ z. omega arith) in
                rw q (and_false (ltb 0 (suc i)))
              where
                and_false : (b : Bool) → (b && (false && not (complete_at tasks (suc i)))) ≡ false
                and_false true = refl
                and_false false = refl

            go :
                (t ≡ length tasks) ⊎ (t ≡ length tasks → ⊥) →
                (t ≡ p) ⊎ (t ≡ p → ⊥) →
                open_at (set tasks p j ++ x ∷ []) t ≡ tally (suc (length tasks)) (open_child (set tasks p j ++ x ∷ []) t)
            go (inl e) q =
                let w = parent_within in
                let z : open_at (set tasks p j ++ x ∷ []) t ≡ 0 = push_new (λ a. a.open) 0 (set tasks p j) x t (e ∙ sym same_length) ∙ none in
                let c = counted_more t in
                let y = tally_zero (length tasks) (open_child tasks t) (childless e) in
                let d = cond-false {A = ℕ} (eqb p t) 1 0 (ne_eqb p t (λ s. omega arith)) in
                omega arith
            go (inr n) (inl e) =
                let l : t < length tasks = omega (arith, long) in
                let a = old_open l in
                let b : open_at (set tasks p j) t ≡ k.open + 1 = ap (open_at (set tasks p j)) e ∙ (open_here tasks p j parent_within ∙ ap (λ i. i.open) raised) in
                let o : k.open ≡ open_at tasks t = read_at (λ i. i.open) 0 tasks p k parent_within r ∙ ap (open_at tasks) (sym e) in
                let s = sound.3 t l in
                let c = counted_more t in
                let d = cond-true {A = ℕ} (eqb p t) 1 0 (eq-eqb p t (sym e)) in
                omega arith
            go (inr n) (inr m) =
                let l : t < length tasks = omega (arith, long) in
                let a = old_open l in
                let b = open_other tasks p j t m in
                let s = sound.3 t l in
                let c = counted_more t in
                let d = cond-false {A = ℕ} (eqb p t) 1 0 (ne_eqb p t (λ z. m (sym z))) in
                omega arith

        pub create_sound : end_by cells (in_use x.runs) ≡ true → Sound cells (set tasks p j ++ x ∷ [])
        create_sound reach = (
          let n = long in omega arith,
          let n = long in let l = room_left in omega arith,
          older,
          counted,
          λ t. go t (cases_eq t (length tasks)) (cases_lt t (length tasks)),
        )
          where
            f : Task → Bool
            f a = end_by cells (in_use a.runs)

            kept : map f (set tasks p j) ≡ map f tasks
            kept = map_kept f true tasks p j (ap f raised ∙ read_at f true tasks p k parent_within r)

            go : (t : ℕ) → (t ≡ length tasks) ⊎ (t ≡ length tasks → ⊥) → (t < length tasks) ⊎ (length tasks ≤ t) → get_or (map f (set tasks p j ++ x ∷ [])) t true ≡ true
            go t (inl e) l = push_new f true (set tasks p j) x t (e ∙ sym same_length) ∙ reach
            go t (inr n) (inl l) =
                push_old f true (set tasks p j) x t (subst (λ (m : ℕ). t < m) (sym same_length) l) ∙ (ap (λ (m : List Bool). get_or m t true) kept ∙ sound.4 t)
            go t (inr n) (inr l) =
                get_or_past (map f (set tasks p j ++ x ∷ [])) t true (let b = length-map (set tasks p j ++ x ∷ []) f in let m = long in omega arith)

        pub create_world :
            (waits : Bool) →
            x.waits ≡ waits →
            ((c : ℕ) → held x.runs c ≡ asked list c) →
            world_of cells (set tasks p j ++ x ∷ []) ≡ after (world_of cells tasks) (create p waits list)
        create_world waits e h =
            view_push cells (set tasks p j) x (subst (λ (n : ℕ). 1 ≤ n) (sym same_length) sound.0)
            ∙ (λ i. record { cells = cells; tree = (born i) ∷ (same i).tree; task = put (same i).task (number i) (child i) })
          where
            same : world_of cells (set tasks p j) ≡ world_of cells tasks
            same =
                world_same cells (set tasks p j) tasks parents
                (map_kept task_of (task_of k) tasks p j (ap task_of raised ∙ read_at task_of (task_of k) tasks p k parent_within r))

            number : length (set tasks p j) ≡ count (world_of cells tasks)
            number = same_length ∙ sym (count_of cells tasks sound.0)

            child : task_of x ≡ newborn waits (asked list)
            child = λ i. record { waits = e i; state = fresh i; hold = fun_ext h i }
