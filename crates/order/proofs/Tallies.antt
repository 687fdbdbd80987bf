-- How the tallies of open children follow one change of one record.
-- Assumes nothing.
use Rattle.std.proofs.Common.{◌≡◌, ℕ, zero, suc, ◌+◌, ◌-◌, ◌<◌, Bool, true, false, cond, not, ◌&&◌, eqb, ltb, ◌⊎◌, List, [], ◌∷◌, map, length, get_or, set, sym, refl, ap, ◌∙◌, subst, inl, inr, arith}
use Rattle.std.proofs.lemmas.List.{map-set, get_or-map, get_or-set_same, get_or-set_other, get_or_default, length-map, length-set}
use Rattle.std.proofs.lemmas.Bool.{cases_eq, and_from, and_right, eq-eqb, ne_eqb, lt-ltb, cond-true, cond-false}
use Rattle.order.specs.declared.task.Task.{Task}
use Rattle.order.specs.Counting.{with_open, uncounted, Older, Untold}
use Rattle.order.specs.Records.{tally, parent_at, open_at, complete, complete_at, open_child}
use Rattle.order.specs.Tasks.{is_finished}
use Rattle.order.proofs.Changing.{map_kept}
use Rattle.order.proofs.Viewed.{read_at}

-- two tests that agree below n hold as often
pub tally_same : (n : ℕ) (f g : ℕ → Bool) → ((i : ℕ) → i < n → f i ≡ g i) → tally n f ≡ tally n g
tally_same zero f g e = refl
tally_same (suc n) f g e =
    let a = e n (omega arith) in
    let b = tally_same n f g (λ i h. e i (omega arith)) in
    rw (a, b) refl

-- the count moves by the one number at which two tests differ
pub tally_moved :
    (n : ℕ) (f g : ℕ → Bool) (x : ℕ) →
    x < n →
    ((i : ℕ) → i < n → (i ≡ x → ⊥) → f i ≡ g i) →
    tally n f + cond (g x) 1 0 ≡ tally n g + cond (f x) 1 0
tally_moved zero f g x h e = absurd (omega arith)
tally_moved (suc n) f g x h e = go (cases_eq x n) (tally_moved n f g x)
  where
    swap : (a b : Bool) (k : ℕ) → cond a (suc k) k + cond b 1 0 ≡ cond b (suc k) k + cond a 1 0
    swap true true k = refl
    swap true false k = omega arith
    swap false true k = omega arith
    swap false false k = refl

    more : (a : Bool) (k m i j : ℕ) → k + i ≡ m + j → cond a (suc k) k + i ≡ cond a (suc m) m + j
    more true k m i j q = omega arith
    more false k m i j q = q

    go :
        (x ≡ n) ⊎ (x ≡ n → ⊥) →
        (x < n → ((i : ℕ) → i < n → (i ≡ x → ⊥) → f i ≡ g i) → tally n f + cond (g x) 1 0 ≡ tally n g + cond (f x) 1 0) →
        tally (suc n) f + cond (g x) 1 0 ≡ tally (suc n) g + cond (f x) 1 0
    go (inl q) ih =
        let s = tally_same n f g (λ i l. e i (omega arith) (λ y. omega arith)) in
        rw (q, s) (swap (f n) (g n) (tally n g))
    go (inr q) ih =
        let a = e n (omega arith) (λ y. q (sym y)) in
        rw a (more (g n) (tally n f) (tally n g) (cond (g x) 1 0) (cond (f x) 1 0) (ih (omega arith) (λ i l. e i (omega arith))))

-- a test that fails everywhere is counted nowhere
pub tally_zero : (n : ℕ) (f : ℕ → Bool) → ((i : ℕ) → i < n → f i ≡ false) → tally n f ≡ 0
tally_zero zero f e = refl
tally_zero (suc n) f e =
    let a = e n (omega arith) in
    let b = tally_zero n f (λ i h. e i (omega arith)) in
    cond-false (f n) (suc (tally n f)) (tally n f) a ∙ b

-- a field that does not look at the counter
pub uncounted_map : {B : Type 0} (f : Task → B) → ((k : Task) → f (uncounted k) ≡ f k) → (l : List Task) → map f (map uncounted l) ≡ map f l
uncounted_map f e [] = refl
uncounted_map f e (k ∷ l) = let a = e k in let b = uncounted_map f e l in cc

pub uncounted_same : {B : Type 0} (f : Task → B) → ((k : Task) → f (uncounted k) ≡ f k) → (a b : List Task) → map uncounted a ≡ map uncounted b → map f a ≡ map f b
uncounted_same f e a b q = sym (uncounted_map f e a) ∙ (ap (map f) q ∙ uncounted_map f e b)

pub parents_same : (a b : List Task) → map uncounted a ≡ map uncounted b → map (λ k. k.parent) a ≡ map (λ k. k.parent) b
parents_same a b q = uncounted_same (λ k. k.parent) (λ k. refl) a b q

pub lengths_same : (a b : List Task) → map uncounted a ≡ map uncounted b → length a ≡ length b
lengths_same a b q = sym (length-map a uncounted) ∙ (ap length q ∙ length-map b uncounted)

-- x becomes complete, or stays as it was: the tallies of open children before and after
pub tally_flip :
    (a b : List Task) (x : ℕ) →
    x < length a →
    map (λ k. k.parent) a ≡ map (λ k. k.parent) b →
    ((i : ℕ) → (i ≡ x → ⊥) → complete_at a i ≡ complete_at b i) →
    complete_at a x ≡ false →
    (t : ℕ) →
    tally (length a) (open_child a t) ≡ tally (length a) (open_child b t) + cond (complete_at b x && (ltb 0 x && eqb (parent_at b x) t)) 1 0
tally_flip a b x h p e n t = joined (ltb 0 x) (eqb (parent_at b x) t) (complete_at b x) _ _ moved
  where
    parents : (i : ℕ) → parent_at a i ≡ parent_at b i
    parents i = ap (λ (l : List ℕ). get_or l i 0) p

    agree : (i : ℕ) → i < length a → (i ≡ x → ⊥) → open_child a t i ≡ open_child b t i
    agree i l q = let u = parents i in let v = e i q in rw (u, v) refl

    here : open_child a t x ≡ (ltb 0 x && (eqb (parent_at b x) t && true))
    here = let u = parents x in rw (u, n) refl

    moved :
        tally (length a) (open_child a t) + cond (ltb 0 x && (eqb (parent_at b x) t && not (complete_at b x))) 1 0
        ≡ tally (length a) (open_child b t) + cond (ltb 0 x && (eqb (parent_at b x) t && true)) 1 0
    moved = tally_moved (length a) (open_child a t) (open_child b t) x h agree ∙ ap (λ (z : Bool). tally (length a) (open_child b t) + cond z 1 0) here

    joined :
        (u v w : Bool) (k m : ℕ) →
        k + cond (u && (v && not w)) 1 0 ≡ m + cond (u && (v && true)) 1 0 →
        k ≡ m + cond (w && (u && v)) 1 0
    joined true true true k m q = omega arith
    joined true true false k m q = omega arith
    joined true false true k m q = omega arith
    joined true false false k m q = omega arith
    joined false v true k m q = omega arith
    joined false v false k m q = omega arith

-- what one replaced record leaves alone
pub complete_other : (tasks : List Task) (x : ℕ) (k : Task) (i : ℕ) → (i ≡ x → ⊥) → complete_at tasks i ≡ complete_at (set tasks x k) i
complete_other tasks x k i n =
    sym (ap (λ (l : List Bool). get_or l i false) (map-set complete tasks x k) ∙ get_or-set_other (map complete tasks) x i (complete k) false n)

pub open_other : (tasks : List Task) (x : ℕ) (k : Task) (i : ℕ) → (i ≡ x → ⊥) → open_at (set tasks x k) i ≡ open_at tasks i
open_other tasks x k i n =
    ap (λ (l : List ℕ). get_or l i 0) (map-set (λ j. j.open) tasks x k) ∙ get_or-set_other (map (λ j. j.open) tasks) x i k.open 0 n

pub open_here : (tasks : List Task) (x : ℕ) (k : Task) → x < length tasks → open_at (set tasks x k) x ≡ k.open
open_here tasks x k h =
    ap (λ (l : List ℕ). get_or l x 0) (map-set (λ j. j.open) tasks x k) ∙ get_or-set_same (map (λ j. j.open) tasks) x k.open 0 (simp length-map h)

-- a record with an open child is not complete
pub not_complete_open : (k : Task) → 0 < k.open → complete k ≡ false
not_complete_open k h = and_right (is_finished k.state) (eqb k.open 0) (ne_eqb k.open 0 (λ e. omega arith))

-- the parent of a task that has become complete still counts it
pub still_counted :
    (tasks : List Task) (x p : ℕ) (k : Task) →
    0 < x →
    p < length tasks →
    p ≡ parent_at tasks x →
    k ≡ get_or tasks p k →
    complete_at tasks x ≡ true →
    Untold tasks x →
    0 < k.open
still_counted tasks x p k a h e r d u =
    let o = read_at (λ j. j.open) 0 tasks p k h r in
    let q = u p h in
    let z : (complete_at tasks x && (ltb 0 x && eqb (parent_at tasks x) p)) ≡ true =
    and_from (complete_at tasks x) (ltb 0 x && eqb (parent_at tasks x) p) d
    (and_from (ltb 0 x) (eqb (parent_at tasks x) p) (lt-ltb 0 x a) (eq-eqb (parent_at tasks x) p (sym e))) in
    let y = cond-true {A = ℕ} (complete_at tasks x && (ltb 0 x && eqb (parent_at tasks x) p)) 1 0 z in
    omega arith

-- one step up: the parent counts one child less, and is now the task that changed
pub told :
    (tasks : List Task) (x p : ℕ) (k : Task) →
    0 < x →
    p < length tasks →
    p ≡ parent_at tasks x →
    k ≡ get_or tasks p k →
    complete_at tasks x ≡ true →
    Untold tasks x →
    Untold (set tasks p (with_open k (k.open - 1))) p
told tasks x p k a h e r d u t l = go (cases_eq t p)
  where
    j : Task
    j = with_open k (k.open - 1)

    b : List Task
    b = set tasks p j

    parents : map (λ i. i.parent) tasks ≡ map (λ i. i.parent) b
    parents = sym (map_kept (λ i. i.parent) 0 tasks p j (read_at (λ i. i.parent) 0 tasks p k h r))

    same : length b ≡ length tasks
    same = length-set tasks p j

    counted : 0 < k.open
    counted = still_counted tasks x p k a h e r d u

    flip : tally (length tasks) (open_child tasks t) ≡ tally (length tasks) (open_child b t) + cond (complete_at b p && (ltb 0 p && eqb (parent_at b p) t)) 1 0
    flip =
        tally_flip tasks b p h parents (λ i n. complete_other tasks p j i n)
        (sym (read_at complete false tasks p k h r) ∙ not_complete_open k counted) t

    before : open_at tasks t ≡ tally (length tasks) (open_child tasks t) + cond (eqb (parent_at tasks x) t) 1 0
    before =
        u t (subst (λ (n : ℕ). t < n) same l)
        ∙ ap (λ (z : Bool). tally (length tasks) (open_child tasks t) + cond z 1 0)
        (let one = d in let two = lt-ltb 0 x a in rw (one, two) refl)

    wanted : open_at b t ≡ tally (length tasks) (open_child tasks t) → open_at b t ≡ tally (length b) (open_child b t) + cond (complete_at b p && (ltb 0 p && eqb (parent_at b p) t)) 1 0
    wanted q = q ∙ (flip ∙ ap (λ (n : ℕ). tally n (open_child b t) + cond (complete_at b p && (ltb 0 p && eqb (parent_at b p) t)) 1 0) (sym same))

    go : (t ≡ p) ⊎ (t ≡ p → ⊥) → open_at b t ≡ tally (length b) (open_child b t) + cond (complete_at b p && (ltb 0 p && eqb (parent_at b p) t)) 1 0
    go (inl q) =
        wanted
        (
        let here : open_at b t ≡ k.open - 1 = ap (open_at b) q ∙ open_here tasks p j h in
        let was : open_at tasks t ≡ k.open = ap (open_at tasks) q ∙ sym (read_at (λ i. i.open) 0 tasks p k h r) in
        let one = cond-true {A = ℕ} (eqb (parent_at tasks x) t) 1 0 (eq-eqb (parent_at tasks x) t (sym e ∙ sym q)) in
        let y = before in
        let z = counted in
        omega arith
        )
    go (inr n) =
        wanted
        (
        let here = open_other tasks p j t n in
        let none = cond-false {A = ℕ} (eqb (parent_at tasks x) t) 1 0 (ne_eqb (parent_at tasks x) t (λ z. n (sym z ∙ sym e))) in
        let y = before in
        omega arith
        )

pub older_kept : (a b : List Task) → map uncounted a ≡ map uncounted b → Older b → Older a
older_kept a b q o t h l =
    subst (λ (n : ℕ). n < t) (ap (λ (m : List ℕ). get_or m t 0) (sym (parents_same a b q))) (o t h (subst (λ (n : ℕ). t < n) (lengths_same a b q) l))

-- the way up from x, whose record was read three times: for whether it is complete, for its parent, and there
module _
    (tasks start : List Task)
    (x : ℕ)
    (f d e : Task)
    (held : (x < length tasks) × Untold tasks x × (map uncounted tasks ≡ map uncounted start))
    (older : Older start)
    (a : 0 < x)
    (done : true ≡ complete (get_or tasks x f))
  where
    complete_x : complete_at tasks x ≡ true
    complete_x = get_or-map complete tasks x f false held.0 ∙ sym done

    parent_x : (get_or tasks x d).parent ≡ parent_at tasks x
    parent_x = sym (get_or-map (λ k. k.parent) tasks x d 0 held.0)

    pub up_lower : (get_or tasks x d).parent < x
    up_lower = subst (λ (n : ℕ). n < x) (sym parent_x) (older_kept tasks start held.2 older x a held.0)

    pub up_within : (get_or tasks x d).parent < length tasks
    up_within = let l = up_lower in let h = held.0 in omega arith

    pub up_counts : 0 < (get_or tasks (get_or tasks x d).parent e).open
    up_counts =
        still_counted tasks x (get_or tasks x d).parent (get_or tasks (get_or tasks x d).parent e) a up_within parent_x
        (get_or_default tasks (get_or tasks x d).parent e _ up_within) complete_x held.1

    pub up_told :
        (j : Task) →
        j ≡ with_open (get_or tasks (get_or tasks x d).parent e) ((get_or tasks (get_or tasks x d).parent e).open - 1) →
        ((get_or tasks x d).parent < length (set tasks (get_or tasks x d).parent j))
        × Untold (set tasks (get_or tasks x d).parent j) (get_or tasks x d).parent
        × (map uncounted (set tasks (get_or tasks x d).parent j) ≡ map uncounted start)
    up_told j q =
        let p : ℕ = (get_or tasks x d).parent in
        let h : p < length tasks = up_within in
        let k : Task = get_or tasks p e in
        let r : k ≡ get_or tasks p k = get_or_default tasks p e k h in (
          simp length-set h,
          subst (λ (i : Task). Untold (set tasks p i) p) (sym q) (told tasks x p k a h parent_x r complete_x held.1),
          map_kept uncounted k tasks p j (ap uncounted q ∙ read_at uncounted k tasks p k h r) ∙ held.2,
        )
