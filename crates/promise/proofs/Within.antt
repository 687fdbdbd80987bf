-- All that a task, with the children it will make, still does lies within what it holds now; a finished one does nothing more.
-- Assumes nothing.
use Rattle.std.proofs.Common.{◌≡◌, ℕ, suc, ◌<◌, Bool, true, false, cond, eqb, ◌⊎◌, List, [], ◌∷◌, None, Option, sym, refl, ◌∙◌, subst, inl, inr, arith}
use Rattle.std.specs.List.{AllByRecursion as All}
use Rattle.std.proofs.ByRecursion.{All-append, All-weaker}
use Rattle.std.proofs.lemmas.Bool.{eqb-true, ne_eqb, ltb-true}
use Rattle.kinds.specs.declared.access.Access.{Access}
use Rattle.kinds.specs.declared.deed.Deed.{Deed}
use Rattle.kinds.specs.declared.holding.Holding.{Holding}
use Rattle.kinds.specs.Kinds.{allows, asked}
use Rattle.order.specs.Questions.{
  Call,
  create,
  start,
  finish,
  wait,
  resume,
  release,
  step,
  look,
  ready,
  questions,
  accepted,
  newborn,
  change,
  after,
}
use Rattle.order.specs.Tasks.{Task, World, is_running, is_finished, count, state_of, holds}
use Rattle.order.proofs.Deeply.{holds_unfinished}
use Rattle.kinds.proofs.Every.{clash}
use Rattle.kinds.proofs.Laws.{strong_allows, covered_allows}
use Rattle.promise.specs.Program.{Step, Entry, took, refused, Reply, body, step_of}
use Rattle.promise.proofs.Kept.{yes_all, running_not_finished, permitted, put_same, old_hold, old_finished, same_cells}

-- each call that the history took was accepted
abbrev pub Allowed : {V : Type 0} → World → List (Entry V) → Type 0
Allowed w [] = Unit {0}
Allowed w (refused k was_open n ∷ h) = Allowed w h
Allowed w (took k given r ∷ h) = (accepted w k ≡ true) × Allowed (after w k) h

-- a running task is not the finished task t
other : (w : World) (u t : ℕ) → is_running (state_of w u) ≡ true → is_finished (state_of w t) ≡ true → eqb u t ≡ false
other w u t a e =
    ne_eqb u t (λ i. clash (sym (running_not_finished (state_of w u) a) ∙ subst (λ (x : ℕ). is_finished (state_of w x) ≡ true) (sym i) e))

-- the call keeps a finished task finished
still : (w : World) (k : Call) → accepted w k ≡ true → (t : ℕ) → t < count w → is_finished (state_of w t) ≡ true → is_finished (state_of (after w k) t) ≡ true
still w k a t l e = old_finished w (change k) (permitted w k a) t l e

module _ {V : Type 0} where
  pub idle :
      (h : List (Entry V)) (w : World) (t : ℕ) →
      t < count w →
      is_finished (state_of w t) ≡ true →
      Allowed w h →
      body t (count w) h ≡ []
  idle [] w t l e a = refl
  idle (refused k was_open n ∷ h) w t l e a = idle h w t l e a
  idle (took (create p waits list) given r ∷ h) w t l e a =
      let later = idle h (after w (create p waits list)) t (omega arith) (still w (create p waits list) a.0 t l e) a.1 in
      rw (other w p t (yes_all (questions w (create p waits list)) a.0).1.0 e) later
  idle (took (step d u c) given r ∷ h) w t l e a =
      rw (other w u t (yes_all (questions w (step d u c)) a.0).1.0 e) (idle h w t l e a.1)
  idle (took (start u) given r ∷ h) w t l e a = idle h (after w (start u)) t l (still w (start u) a.0 t l e) a.1
  idle (took (finish u) given r ∷ h) w t l e a = idle h (after w (finish u)) t l (still w (finish u) a.0 t l e) a.1
  idle (took (wait u) given r ∷ h) w t l e a = idle h (after w (wait u)) t l (still w (wait u) a.0 t l e) a.1
  idle (took (resume u) given r ∷ h) w t l e a = idle h (after w (resume u)) t l (still w (resume u) a.0 t l e) a.1
  idle (took (release u lo hi) given r ∷ h) w t l e a = idle h (after w (release u lo hi)) t l (still w (release u lo hi) a.0 t l e) a.1
  idle (took (look c) given r ∷ h) w t l e a = idle h w t l e a.1
  idle (took (ready places) given r ∷ h) w t l e a = idle h w t l e a.1

  -- the step is one that t's holding, as far as not released, allows
  abbrev pub Fits : World → ℕ → Step V → Type 0
  Fits w t x = (x.cell < w.cells) × (allows ((w.task t).hold x.cell) x.deed ≡ true)

  own_fits :
      (w : World) (d : Deed) (u c : ℕ) (given : V) (r : Reply V) →
      accepted w (step d u c) ≡ true →
      (t : ℕ) →
      All (Fits w t) (cond (eqb u t) (step_of d c given r ∷ []) [])
  own_fits w d u c given r a t = go (eqb u t) refl
    where
      q : All (λ q. q.answer ≡ true) (questions w (step d u c))
      q = yes_all (questions w (step d u c)) a

      mine : allows ((w.task u).hold c) d ≡ true
      mine =
          subst (λ (h : Option Holding). allows h d ≡ true) (holds_unfinished w u (running_not_finished (state_of w u) q.1.0) c)
          (strong_allows (holds w u c) d q.1.1.1.0)

      go : (b : Bool) → eqb u t ≡ b → All (Fits w t) (cond b (step_of d c given r ∷ []) [])
      go true e = ((ltb-true c w.cells q.1.1.0, subst (λ (x : ℕ). allows ((w.task x).hold c) d ≡ true) (eqb-true u t e) mine), tt)
      go false e = tt

  -- what a new task may do, its parent may do
  child_within :
      (w : World) (p : ℕ) (waits : Bool) (list : List Access) →
      accepted w (create p waits list) ≡ true →
      (x : Step V) →
      Fits (after w (create p waits list)) (count w) x →
      Fits w p x
  child_within w p waits list a x fx =
      let has : allows (asked list x.cell) x.deed ≡ true =
      subst (λ (k : Task). allows (k.hold x.cell) x.deed ≡ true) (put_same w.task (count w) (newborn waits (asked list))) fx.1 in (
        fx.0,
        covered_allows ((w.task p).hold x.cell) (asked list x.cell) x.deed ((permitted w (create p waits list) a).covered x.cell fx.0) has,
      )

  child_fits :
      (w : World) (p : ℕ) (waits : Bool) (list : List Access) (xs : List (Step V)) →
      accepted w (create p waits list) ≡ true →
      (t : ℕ) →
      All (Fits (after w (create p waits list)) (count w)) xs →
      All (Fits w t) (cond (eqb p t) xs [])
  child_fits w p waits list xs a t all = go (eqb p t) refl
    where
      go : (b : Bool) → eqb p t ≡ b → All (Fits w t) (cond b xs [])
      go true e =
          All-weaker (Fits (after w (create p waits list)) (count w)) (Fits w t)
          (λ x fx. subst (λ (y : ℕ). Fits w y x) (eqb-true p t e) (child_within w p waits list a x fx)) xs all
      go false e = tt

  -- what fits a task after a call fitted it before
  before_fits : (w : World) (k : Call) (t : ℕ) → t < count w → (xs : List (Step V)) → All (Fits (after w k) t) xs → All (Fits w t) xs
  before_fits w k t l xs all = All-weaker (Fits (after w k) t) (Fits w t) one xs all
    where
      one : (x : Step V) → Fits (after w k) t x → Fits w t x
      one x fx = (subst (λ (n : ℕ). x.cell < n) (same_cells w (change k)) fx.0, go (old_hold w (change k) t l x.cell))
        where
          go :
              (((after w k).task t).hold x.cell ≡ (w.task t).hold x.cell) ⊎ (((after w k).task t).hold x.cell ≡ None) →
              allows ((w.task t).hold x.cell) x.deed ≡ true
          go (inl e) = subst (λ (g : Option Holding). allows g x.deed ≡ true) e fx.1
          go (inr e) = clash (subst (λ (g : Option Holding). allows g x.deed ≡ true) e fx.1)

  pub fits_all :
      (h : List (Entry V)) (w : World) (t : ℕ) →
      t < count w →
      Allowed w h →
      All (Fits w t) (body t (count w) h)
  fits_all [] w t l a = tt
  fits_all (refused k was_open n ∷ h) w t l a = fits_all h w t l a
  fits_all (took (create p waits list) given r ∷ h) w t l a =
      All-append (Fits w t) (cond (eqb p t) (body (count w) (suc (count w)) h) []) (body t (suc (count w)) h)
      (
      child_fits w p waits list (body (count w) (suc (count w)) h) a.0 t
      (fits_all h (after w (create p waits list)) (count w) (omega arith) a.1)
      )
      (
      before_fits w (create p waits list) t l (body t (suc (count w)) h)
      (fits_all h (after w (create p waits list)) t (omega arith) a.1)
      )
  fits_all (took (step d u c) given r ∷ h) w t l a =
      All-append (Fits w t) (cond (eqb u t) (step_of d c given r ∷ []) []) (body t (count w) h)
      (own_fits w d u c given r a.0 t) (fits_all h w t l a.1)
  fits_all (took (start u) given r ∷ h) w t l a =
      before_fits w (start u) t l (body t (count w) h) (fits_all h (after w (start u)) t l a.1)
  fits_all (took (finish u) given r ∷ h) w t l a =
      before_fits w (finish u) t l (body t (count w) h) (fits_all h (after w (finish u)) t l a.1)
  fits_all (took (wait u) given r ∷ h) w t l a =
      before_fits w (wait u) t l (body t (count w) h) (fits_all h (after w (wait u)) t l a.1)
  fits_all (took (resume u) given r ∷ h) w t l a =
      before_fits w (resume u) t l (body t (count w) h) (fits_all h (after w (resume u)) t l a.1)
  fits_all (took (release u lo hi) given r ∷ h) w t l a =
      before_fits w (release u lo hi) t l (body t (count w) h) (fits_all h (after w (release u lo hi)) t l a.1)
  fits_all (took (look c) given r ∷ h) w t l a = fits_all h w t l a.1
  fits_all (took (ready places) given r ∷ h) w t l a = fits_all h w t l a.1
