-- A record says whether its task is deeply complete: it is finished and its counter of open children is 0.
-- Assumes nothing.
use Rattle.std.proofs.Common.{◌≡◌, ℕ, zero, suc, ◌+◌, ◌<◌, ◌≤◌, Bool, true, false, cond, not, ◌&&◌, ◌||◌, eqb, ltb, ◌⊎◌, List, length, sym, refl, ap, ◌∙◌, inl, inr, arith}
use Rattle.std.proofs.lemmas.Bool.{cases_eq, ne_eqb}
use Rattle.order.specs.declared.task.Task as code
use Rattle.order.specs.Questions.{children_complete}
use Rattle.order.specs.Records.{Sound, tally, parent_at, open_at, complete, complete_at, ended, ended_at, open_child}
use Rattle.order.specs.Tasks.{World, count, every, state_of, is_finished, parent_of, child, deeply_complete, let_go}
use Rattle.order.specs.View.{world_of, task_of, root}
use Rattle.order.proofs.Bounded.{every_like}
use Rattle.order.proofs.Deeply.{deep_by_children}
use Rattle.order.proofs.Viewed.{record_at, at_record, count_of, parent_is, well_of}

-- a tally is 0 where the test holds nowhere
pub none_counted : (n : ℕ) (f : ℕ → Bool) → eqb (tally n f) 0 ≡ every n (λ i. not (f i))
none_counted zero f = refl
none_counted (suc n) f = go (f n) (none_counted n f)
  where
    go : (b : Bool) → eqb (tally n f) 0 ≡ every n (λ i. not (f i)) → eqb (cond b (suc (tally n f)) (tally n f)) 0 ≡ (not b && every n (λ i. not (f i)))
    go true ih = ne_eqb (suc (tally n f)) 0 (λ e. omega arith)
    go false ih = ih

-- not a child that is open: no child, or one that is complete
not_open : (a b d : Bool) → not (a && (b && not d)) ≡ (not (a && b) || d)
not_open true true true = refl
not_open true true false = refl
not_open true false d = refl
not_open false b d = refl

-- the same, where the child's completion is known by another name c
not_open_child : (a c d : Bool) (p q t : ℕ) → q ≡ p → (p ≡ t → c ≡ d) → not (a && (eqb p t && not c)) ≡ (not (a && eqb q t) || d)
not_open_child a c d p q t same known = go (cases_eq p t)
  where
    go : (p ≡ t) ⊎ (p ≡ t → ⊥) → not (a && (eqb p t && not c)) ≡ (not (a && eqb q t) || d)
    go (inl e) =
        not_open a (eqb p t) c
        ∙ (ap (λ (n : ℕ). not (a && eqb n t) || c) (sym same) ∙ ap (λ (b : Bool). not (a && eqb q t) || b) (known e))
    go (inr n) =
        rw (ne_eqb p t n, same, ne_eqb p t n) (apart a)
      where
        apart : (a : Bool) → not (a && (false && not c)) ≡ (not (a && false) || d)
        apart true = refl
        apart false = refl

-- under the first test, the last one alone decides
under : (f n o : Bool) → (f && (n || o)) ≡ (f && (n || (f && o)))
under true n o = refl
under false n o = refl

module _ (cells : ℕ) (tasks : List code.Task) (sound : Sound cells tasks) where
  complete_parts : (t : ℕ) → t < length tasks → complete_at tasks t ≡ (is_finished (state_of (world_of cells tasks) t) && eqb (open_at tasks t) 0)
  complete_parts t h =
      let a = at_record complete false tasks t h in
      let b = at_record task_of (root cells) tasks t h in
      let o = at_record (λ k. k.open) 0 tasks t h in
      a
      ∙ sym (ap (λ k. is_finished k.state && eqb (open_at tasks t) 0) b
      ∙ ap (λ (n : ℕ). is_finished (record_at tasks t h).state && eqb n 0) o)

  size : count (world_of cells tasks) ≡ length tasks
  size = count_of cells tasks sound.0

  -- the counter of t says of its children what holds of those with higher numbers
  counter :
      (t : ℕ) →
      t < length tasks →
      ((u : ℕ) → t < u → u < length tasks → complete_at tasks u ≡ deeply_complete (world_of cells tasks) u) →
      eqb (open_at tasks t) 0 ≡ children_complete (world_of cells tasks) t
  counter t h known =
      ap (λ (m : ℕ). eqb m 0) (sound.3 t h)
      ∙ (none_counted (length tasks) (open_child tasks t)
      ∙ (every_like (length tasks) (λ u. not (open_child tasks t u)) (λ u. not (child w t u) || deeply_complete w u) each
      ∙ ap (λ (m : ℕ). every m (λ u. not (child w t u) || deeply_complete w u)) (sym size)))
    where
      w : World
      w = world_of cells tasks

      each : (u : ℕ) → u < length tasks → not (open_child tasks t u) ≡ (not (child w t u) || deeply_complete w u)
      each zero l = refl
      each (suc u) l =
          not_open_child (ltb 0 (suc u)) (complete_at tasks (suc u)) (deeply_complete w (suc u)) (parent_at tasks (suc u)) (parent_of w.tree (suc u)) t
          (parent_is cells tasks (suc u) (omega arith) l)
          (λ e. known (suc u) (let k = sound.2 (suc u) (omega arith) l in omega arith) l)

  -- from the highest number down
  from_above : (n t : ℕ) → length tasks ≤ t + n → t < length tasks → complete_at tasks t ≡ deeply_complete (world_of cells tasks) t
  from_above zero t a h = absurd (omega arith)
  from_above (suc n) t a h =
      complete_parts t h
      ∙ (ap (λ (b : Bool). is_finished (state_of (world_of cells tasks) t) && b) (counter t h (λ u b l. from_above n u (omega arith) l))
      ∙ sym (deep_by_children (world_of cells tasks) (well_of cells tasks sound) t (omega (arith, size))))

  pub complete_is : (t : ℕ) → t < length tasks → complete_at tasks t ≡ deeply_complete (world_of cells tasks) t
  complete_is t h = from_above (length tasks) t (omega arith) h

  -- the counter is 0 exactly when all children are deeply complete
  pub open_is : (t : ℕ) → t < length tasks → eqb (open_at tasks t) 0 ≡ children_complete (world_of cells tasks) t
  open_is t h = counter t h (λ u b l. complete_is u l)

  -- the holdings of t have ended exactly when its record says so
  pub ended_is : (t : ℕ) → t < length tasks → ended_at tasks t ≡ let_go (world_of cells tasks) t
  ended_is t h =
      at_record ended false tasks t h
      ∙ (under (is_finished k.state) (not k.waits) (eqb k.open 0)
      ∙ (ap (λ (b : Bool). is_finished k.state && (not k.waits || b)) (sym (at_record complete false tasks t h) ∙ complete_is t h)
      ∙ ap (λ x. is_finished x.state && (not x.waits || deeply_complete (world_of cells tasks) t)) (sym (at_record task_of (root cells) tasks t h))))
    where
      k : code.Task
      k = record_at tasks t h
