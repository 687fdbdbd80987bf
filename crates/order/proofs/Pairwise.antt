-- What two records hold of the cells now, and the questions about one other task in the terms of the records.
-- Assumes nothing.
use Rattle.std.proofs.Common.{◌≡◌, ℕ, ◌<◌, Bool, true, false, cond, not, ◌&&◌, ◌||◌, eqb, ◌⊎◌, List, length, get_or, Some, None, Option, sym, refl, ap, ◌∙◌, inl, inr}
use Rattle.std.proofs.lemmas.Bool.{cond-true, cond-false, ne_eqb}
use Rattle.kinds.specs.declared.deed.Deed.{Deed}
use Rattle.kinds.specs.declared.holding.Holding.{Holding}
use Rattle.order.specs.declared.task.Task as code
use Rattle.order.specs.Holdings.{held, Reach, in_use}
use Rattle.kinds.specs.Kinds.{strongly, kind_of, meets, if_strong, is_commutative}
use Rattle.order.specs.Pairs.{keeps_order, takes_turns, stands_aside}
use Rattle.order.specs.Records.{Sound, ended, holding_now}
use Rattle.order.specs.Stretches.{end_by}
use Rattle.order.specs.Tasks.{every, every_cell, is_created, state_of, earlier, ancestor, holds}
use Rattle.order.specs.View.{world_of, task_of, root}
use Rattle.order.proofs.Bounded.{every_from, every_like}
use Rattle.order.proofs.Completion.{ended_is}
use Rattle.order.proofs.Viewed.{read_at}

-- a record whose holdings have ended holds nothing
ended_none : (k : code.Task) (c : ℕ) → ended k ≡ true → holding_now k c ≡ None
ended_none k c e = cond-true (ended k) None (held k.runs c) e

pub meets_none : (h : Option Holding) → meets h None ≡ false
meets_none None = refl
meets_none (Some a) = refl

no_cells : (n : ℕ) (f : ℕ → Bool) → ((c : ℕ) → f c ≡ false) → false ≡ not (every n (λ c. not (f c)))
no_cells n f e = ap not (sym (every_from n (λ c. not (f c)) (λ c h. ap not (e c))))

pub none_meet :
    (q : Option Holding → Option Holding → Bool) →
    ((b : Option Holding) → q None b ≡ false) →
    ((a : Option Holding) → q a None ≡ false) →
    (k l : code.Task) (n : ℕ) →
    (ended k ≡ true) ⊎ (ended l ≡ true) →
    false ≡ not (every n (λ c. not (q (holding_now k c) (holding_now l c))))
none_meet q free other_free k l n (inl e) = no_cells n _ (λ c. ap (λ (h : Option Holding). q h (holding_now l c)) (ended_none k c e) ∙ free (holding_now l c))
none_meet q free other_free k l n (inr e) = no_cells n _ (λ c. ap (q (holding_now k c)) (ended_none l c e) ∙ other_free (holding_now k c))

-- one whose holdings have not ended holds what its runs do
held_now : (k : code.Task) (c : ℕ) → ended k ≡ false → held k.runs c ≡ holding_now k c
held_now k c e = sym (cond-false (ended k) None (held k.runs c) e)

pub both_hold :
    (q : Option Holding → Option Holding → Bool) (k l : code.Task) (n : ℕ) (r : Bool) →
    ended k ≡ false →
    ended l ≡ false →
    r ≡ not (every n (λ c. not (q (held k.runs c) (held l.runs c)))) →
    r ≡ not (every n (λ c. not (q (holding_now k c) (holding_now l c))))
both_hold q k l n r ek el e =
    e ∙ ap not (every_like n _ _ (λ c h. ap (λ (g : Option Holding). not (q g (held l.runs c))) (held_now k c ek) ∙ ap (λ (g : Option Holding). not (q (holding_now k c) g)) (held_now l c el)))

-- the table's record of t, read as k, tells what t holds now
module _ (cells : ℕ) (tasks : List code.Task) (sound : Sound cells tasks) where
  pub holds_is : (t : ℕ) (k : code.Task) → t < length tasks → k ≡ get_or tasks t k → (c : ℕ) → holds (world_of cells tasks) t c ≡ holding_now k c
  holds_is t k h e c =
      ap (λ (b : Bool). cond b None (((world_of cells tasks).task t).hold c)) (sym (ended_is cells tasks sound t h) ∙ sym (read_at ended false tasks t k h e))
      ∙ ap (λ x. cond (ended k) None (x.hold c)) (sym (read_at task_of (root cells) tasks t k h e))

  pub state_is : (t : ℕ) (k : code.Task) → t < length tasks → k ≡ get_or tasks t k → state_of (world_of cells tasks) t ≡ k.state
  state_is t k h e = ap (λ x. x.state) (sym (read_at task_of (root cells) tasks t k h e))

  pub reach_is : (t : ℕ) (k : code.Task) → t < length tasks → k ≡ get_or tasks t k → Reach k.runs cells
  reach_is t k h e = read_at (λ x. end_by cells (in_use x.runs)) true tasks t k h e ∙ sound.4 t

  -- the same of two tasks at every cell
  pub cells_like :
      (t u : ℕ) (k l : code.Task) (f : Option Holding → Option Holding → Bool) →
      t < length tasks →
      u < length tasks →
      k ≡ get_or tasks t k →
      l ≡ get_or tasks u l →
      every cells (λ c. f (holding_now l c) (holding_now k c)) ≡ every_cell (world_of cells tasks) (λ c. f (holds (world_of cells tasks) u c) (holds (world_of cells tasks) t c))
  cells_like t u k l f ht hu ek el =
      every_like cells _ _
      (λ c h. sym (ap (λ (x : Option Holding). f x (holds (world_of cells tasks) t c)) (holds_is u l hu el c) ∙ ap (f (holding_now l c)) (holds_is t k ht ek c)))

  created_is : (u : ℕ) (l : code.Task) → u < length tasks → l ≡ get_or tasks u l → is_created (state_of (world_of cells tasks) u) ≡ is_created l.state
  created_is u l hu el = ap is_created (state_is u l hu el)

  pub stands_aside_is :
      (d : Deed) (t c u : ℕ) (l : code.Task) →
      u < length tasks →
      l ≡ get_or tasks u l →
      (b e : Bool) →
      b ≡ meets (holding_now l c) (strongly (kind_of d)) →
      e ≡ ancestor (world_of cells tasks) t u →
      (not b || not e) ≡ stands_aside (world_of cells tasks) d t c u
  stands_aside_is d t c u l hu el b e has is =
      turned b e
      ∙ (ap (λ (x : Bool). not e || not x) (has ∙ ap (λ (h : Option Holding). meets h (strongly (kind_of d))) (sym (holds_is u l hu el c)))
      ∙ ap (λ (x : Bool). not x || not (meets (holds (world_of cells tasks) u c) (strongly (kind_of d)))) is)
    where
      turned : (b e : Bool) → (not b || not e) ≡ (not e || not b)
      turned true true = refl
      turned true false = refl
      turned false true = refl
      turned false false = refl

  module _ (t u : ℕ) (k l : code.Task) (ht : t < length tasks) (hu : u < length tasks) (ek : k ≡ get_or tasks t k) (el : l ≡ get_or tasks u l) where
    pub keeps_order_is :
        (b e : Bool) →
        ((n : ℕ) → Reach l.runs n → b ≡ not (every n (λ c. not (meets (holding_now l c) (if_strong (holding_now k c)))))) →
        e ≡ earlier (world_of cells tasks) u t →
        (not b || not e) ≡ keeps_order (world_of cells tasks) t u
    keeps_order_is b e has is =
        swapped b e (earlier (world_of cells tasks) u t) _
        (has cells (reach_is u l hu el) ∙ ap not (cells_like t u k l (λ x y. not (meets x (if_strong y))) ht hu ek el)) is
      where
        flip : (a f : Bool) → (not (not a) || not f) ≡ (not f || a)
        flip true true = refl
        flip true false = refl
        flip false true = refl
        flip false false = refl

        swapped : (b e f a : Bool) → b ≡ not a → e ≡ f → (not b || not e) ≡ (not f || a)
        swapped b e f a p q = ap (λ (x : Bool). not x || not e) p ∙ (ap (λ (x : Bool). not (not a) || not x) q ∙ flip a f)

    pub takes_turns_busy :
        (b : Bool) →
        (u ≡ t → ⊥) →
        is_created l.state ≡ false →
        ((n : ℕ) → Reach l.runs n → b ≡ not (every n (λ c. not (is_commutative (holding_now l c) && is_commutative (holding_now k c))))) →
        not b ≡ takes_turns (world_of cells tasks) t u
    takes_turns_busy b other started has =
        joined (eqb u t) (is_created (state_of (world_of cells tasks) u)) b _ (ne_eqb u t other) (created_is u l hu el ∙ started)
        (has cells (reach_is u l hu el) ∙ ap not (cells_like t u k l (λ x y. not (is_commutative x && is_commutative y)) ht hu ek el))
      where
        joined : (s m b a : Bool) → s ≡ false → m ≡ false → b ≡ not a → not b ≡ ((s || m) || a)
        joined s m b true p q r = ap not r ∙ sym (rw (p, q) refl)
        joined s m b false p q r = ap not r ∙ sym (rw (p, q) refl)

-- which part of `not b || not e` decides
pub left_decides : (b e : Bool) → b ≡ false → not b ≡ (not b || not e)
left_decides b e p = rw p refl

pub right_decides : (b e : Bool) → b ≡ true → not e ≡ (not b || not e)
right_decides b e p = rw p refl
