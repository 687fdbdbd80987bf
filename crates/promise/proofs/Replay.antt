-- The steps in program order give what they gave in time.
-- Assumes nothing.
use Rattle.std.proofs.Common.{◌≡◌, ℕ, ◌<◌, true, false, not, ◌||◌, ◌⊎◌, List, [], ◌∷◌, ◌++◌, length, Option, sym, refl, ap, subst, inl, inr, append-nil}
use Rattle.std.specs.List.{AllByRecursion as All}
use Rattle.std.proofs.ByRecursion.{All-weaker}
use Rattle.std.proofs.lemmas.Bool.{and_parts, and_from, not-true, ltb-true}
use Rattle.kinds.specs.declared.deed.Deed.{Deed}
use Rattle.kinds.specs.declared.deed.Deed.TheVariants.{Reading, Writing, Updating}
use Rattle.kinds.specs.declared.holding.Holding.{Holding}
use Rattle.kinds.specs.Kinds.{kind_of, strongly, meets, if_strong, allows}
use Rattle.order.specs.Questions.{
  Call,
  create,
  start,
  finish,
  wait,
  resume,
  release,
  step,
  look,
  ready,
  Question,
  all_yes,
  questions,
  accepted,
  change,
  after,
}
use Rattle.order.specs.Tasks.{World, is_finished, count, state_of, path, above, parts_lower, ancestor, holds, new}
use Rattle.order.proofs.Deeply.{holds_unfinished, finished_or_holds}
use Rattle.kinds.proofs.Every.{then}
use Rattle.order.proofs.Bounded.{every_at}
use Rattle.kinds.proofs.Laws.{may_swap, below_step, beside_step}
use Rattle.order.proofs.Paths.{ends, ends_cases}
use Rattle.promise.specs.Program.{Step, Entry, took, refused, Reply, answered, step_value, step_of, body, do_step, Finds, Replays}
use Rattle.promise.specs.Promise.{Commutes, InProgramOrder}
use Rattle.promise.specs.Runs.{store_questions, Replied, Runs}
use Rattle.promise.proofs.EndOrder.{In, all_in, insert}
use Rattle.promise.proofs.Invariant.{Good, Clear, line_after, good_changed, good_new}
use Rattle.promise.proofs.Kept.{yes_all, running_not_finished, running_begun, permitted}
use Rattle.promise.proofs.Line.{line, line_none, line_every, line_create, line_step, Placed}
use Rattle.promise.proofs.Swapping.{Apart, goes_past}
use Rattle.promise.proofs.Within.{Allowed, Fits, fits_all, idle}

-- a call that is taken is accepted by the order rules
pub taken_accepted : (w : World) (k : Call) → all_yes (questions w k ++ store_questions true k) ≡ true → accepted w k ≡ true
taken_accepted w k e = front (questions w k) (store_questions true k) e
  where
    front : (qs more : List Question) → all_yes (qs ++ more) ≡ true → all_yes qs ≡ true
    front [] more x = refl
    front (q ∷ qs) more x =
        let p = and_parts q.answer (all_yes (qs ++ more)) x in
        and_from q.answer (all_yes qs) p.0 (front qs more p.1)

-- a good world stays good
pub good_taken : (w : World) (k : Call) (line : List ℕ) → accepted w k ≡ true → Good w line → Good (after w k) (line_after w (change k) line)
good_taken w k line a g = good_changed w (change k) (permitted w k a) line g

module _ {V : Type 0} (rest : V) (updated : V → V → V) where
  runs_allowed : (h : List (Entry V)) (w : World) (s f : List V) → Runs rest updated w s h f → Allowed w h
  runs_allowed [] w s f r = tt
  runs_allowed (refused k was_open n ∷ h) w s f r = runs_allowed h w s f r.2
  runs_allowed (took k given a ∷ h) w s f r = (taken_accepted w k r.0, runs_allowed h (after w k) _ f r.2)

  -- what a task that ends before u does from here on stands apart from a step that u makes now
  step_apart :
      (h : List (Entry V)) (w : World) (ts : List ℕ) (x : Step V) (u : ℕ) →
      Good w ts →
      Allowed w h →
      All (λ q. q.answer ≡ true) (questions w (step x.deed u x.cell)) →
      (t : ℕ) →
      In t ts →
      ends (path w.tree t) (path w.tree u) ≡ true →
      All (Apart x) (body t (count w) h)
  step_apart h w ts x u g a q t i e = go (ends_cases (path w.tree t) (path w.tree u) e)
    where
      ht : t < count w
      ht = all_in (λ y. y < count w) ts t g.small i

      hu : u < count w
      hu = ltb-true u (count w) q.0

      hc : x.cell < w.cells
      hc = ltb-true x.cell w.cells q.1.1.0

      -- a finished task does nothing more
      quiet : is_finished (state_of w t) ≡ true → All (Apart x) (body t (count w) h)
      quiet f = subst (All (Apart x)) (sym (idle h w t ht f a)) tt

      -- of any other its holding tells
      told :
          ((y : Step V) → allows ((w.task t).hold x.cell) y.deed ≡ true → may_swap x.deed y.deed ≡ true) →
          All (Apart x) (body t (count w) h)
      told k =
          All-weaker (Fits w t) (Apart x)
          (λ y fy one. k y (subst (λ (c : ℕ). allows ((w.task t).hold c) y.deed ≡ true) (sym one) fy.1))
          (body t (count w) h) (fits_all h w t ht a)

      below : above (path w.tree u) (path w.tree t) ≡ true → All (Apart x) (body t (count w) h)
      below n = pick (finished_or_holds w t)
        where
          apart : meets (holds w t x.cell) (strongly (kind_of x.deed)) ≡ false
          apart =
              not-true (meets (holds w t x.cell) (strongly (kind_of x.deed)))
              (
              then (ancestor w u t) (not (meets (holds w t x.cell) (strongly (kind_of x.deed))))
              (every_at (count w) (λ v. not (ancestor w u v) || not (meets (holds w v x.cell) (strongly (kind_of x.deed)))) q.1.1.1.1.0 t ht)
              n
              )

          pick : (is_finished (state_of w t) ≡ true) ⊎ ((c : ℕ) → holds w t c ≡ (w.task t).hold c) → All (Apart x) (body t (count w) h)
          pick (inl f) = quiet f
          pick (inr same) =
              told
              (
              λ y.
              below_step ((w.task t).hold x.cell) x.deed y.deed
              (subst (λ (k : Option Holding). meets k (strongly (kind_of x.deed)) ≡ false) (same x.cell) apart)
              )

      beside : parts_lower (path w.tree t) (path w.tree u) ≡ true → All (Apart x) (body t (count w) h)
      beside n = pick (g.cleared t u ht hu n (running_begun (state_of w u) q.1.0))
        where
          mine : allows (if_strong ((w.task u).hold x.cell)) x.deed ≡ true
          mine =
              subst (λ (k : Option Holding). allows (if_strong k) x.deed ≡ true)
              (holds_unfinished w u (running_not_finished (state_of w u) q.1.0) x.cell) q.1.1.1.0

          pick : Clear w t u → All (Apart x) (body t (count w) h)
          pick (inl f) = quiet f
          pick (inr m) =
              told (λ y. beside_step ((w.task t).hold x.cell) ((w.task u).hold x.cell) x.deed y.deed (m x.cell hc) mine)

      go :
          (above (path w.tree u) (path w.tree t) ≡ true) ⊎ (parts_lower (path w.tree t) (path w.tree u) ≡ true) →
          All (Apart x) (body t (count w) h)
      go (inl n) = below n
      go (inr n) = beside n

  -- a read answered what it finds, and a step does to the cells what its call did
  reply_found :
      (w : World) (s : List V) (d : Deed) (u c : ℕ) (given : V) (a : Reply V) →
      Replied rest updated w s (step d u c) a →
      Finds rest updated d c (step_value d given a) s
  reply_found w s Reading u c given a r = sym (ap (answered given) r)
  reply_found w s Writing u c given a r = tt
  reply_found w s Updating u c given a r = tt

  step_done : (d : Deed) (c : ℕ) (given : V) (a : Reply V) (s : List V) → do_step rest updated d c given s ≡ do_step rest updated d c (step_value d given a) s
  step_done Reading c given a s = refl
  step_done Writing c given a s = refl
  step_done Updating c given a s = refl

  module _ (commutes : Commutes updated) where
    -- a step, made now, goes to its place
    placed :
        (x : Step V) (now then : List (Step V)) (s f : List V) →
        Placed x now then →
        Finds rest updated x.deed x.cell x.value s →
        Replays rest updated (do_step rest updated x.deed x.cell x.value s) then f →
        Replays rest updated s now f
    placed x now then s f p a r =
        subst (λ (l : List (Step V)). Replays rest updated s l f) (sym p.now_is)
        (
        goes_past rest updated commutes x p.front p.back s f p.apart
        (a, subst (λ (l : List (Step V)). Replays rest updated (do_step rest updated x.deed x.cell x.value s) l f) p.then_is r)
        )

    pub replays :
        (h : List (Entry V)) (w : World) (ts : List ℕ) (s f : List V) →
        Good w ts →
        Runs rest updated w s h f →
        Replays rest updated s (line ts (count w) h) f
    replays [] w ts s f g r = rw (line_none {V = V} ts (count w)) r
    replays (refused k was_open n ∷ h) w ts s f g r =
        rw (line_every ts (count w) (count w) (refused k was_open n ∷ h) h (λ t. refl)) (replays h w ts s f g r.2)
    replays (took (create p waits list) given a ∷ h) w ts s f g r =
        let y = taken_accepted w (create p waits list) r.0 in
        rw (line_create w.tree ts (count w) p waits list given a h (g.full p (permitted w (create p waits list) y).known) g.sorted)
        (replays h (after w (create p waits list)) (insert (count w) p ts) s f (good_taken w (create p waits list) ts y g) r.2)
    replays (took (step d u c) given a ∷ h) w ts s f g r =
        let x : Step V = step_of d c given a in
        let q = yes_all (questions w (step d u c)) (taken_accepted w (step d u c) r.0) in
        let left : Runs rest updated w (do_step rest updated d c (step_value d given a) s) h f =
        subst (λ (z : List V). Runs rest updated w z h f) (step_done d c given a s) r.2 in
        let al = runs_allowed h w (do_step rest updated d c (step_value d given a) s) f left in
        placed x (line ts (count w) (took (step d u c) given a ∷ h)) (line ts (count w) h) s f
        (line_step w.tree ts (count w) u x (took (step d u c) given a) h (λ t. refl) (step_apart h w ts x u g al q) (g.full u (ltb-true u (count w) q.0)) g.sorted)
        (reply_found w s d u c given a r.1)
        (replays h w ts (do_step rest updated d c (step_value d given a) s) f g left)
    replays (took (start u) given a ∷ h) w ts s f g r =
        rw (line_every ts (count w) (count w) (took (start u) given a ∷ h) h (λ t. refl))
        (replays h (after w (start u)) ts s f (good_taken w (start u) ts (taken_accepted w (start u) r.0) g) r.2)
    replays (took (finish u) given a ∷ h) w ts s f g r =
        rw (line_every ts (count w) (count w) (took (finish u) given a ∷ h) h (λ t. refl))
        (replays h (after w (finish u)) ts s f (good_taken w (finish u) ts (taken_accepted w (finish u) r.0) g) r.2)
    replays (took (wait u) given a ∷ h) w ts s f g r =
        rw (line_every ts (count w) (count w) (took (wait u) given a ∷ h) h (λ t. refl))
        (replays h (after w (wait u)) ts s f (good_taken w (wait u) ts (taken_accepted w (wait u) r.0) g) r.2)
    replays (took (resume u) given a ∷ h) w ts s f g r =
        rw (line_every ts (count w) (count w) (took (resume u) given a ∷ h) h (λ t. refl))
        (replays h (after w (resume u)) ts s f (good_taken w (resume u) ts (taken_accepted w (resume u) r.0) g) r.2)
    replays (took (release u lo hi) given a ∷ h) w ts s f g r =
        rw (line_every ts (count w) (count w) (took (release u lo hi) given a ∷ h) h (λ t. refl))
        (replays h (after w (release u lo hi)) ts s f (good_taken w (release u lo hi) ts (taken_accepted w (release u lo hi) r.0) g) r.2)
    replays (took (look c) given a ∷ h) w ts s f g r =
        rw (line_every ts (count w) (count w) (took (look c) given a ∷ h) h (λ t. refl)) (replays h w ts s f g r.2)
    replays (took (ready places) given a ∷ h) w ts s f g r =
        rw (line_every ts (count w) (count w) (took (ready places) given a ∷ h) h (λ t. refl)) (replays h w ts s f g r.2)

    pub in_program_order : InProgramOrder rest updated
    in_program_order s f h r = rw append-nil at (replays h (new (length s)) (0 ∷ []) s f (good_new (length s)) r)
