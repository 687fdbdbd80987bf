-- The calls of one life are accepted where nothing else holds the cell.
-- Assumes nothing.
use Rattle.std.proofs.Common.{◌≡◌, ℕ, suc, ◌+◌, ◌<◌, ◌≤◌, Bool, true, false, cond, not, ◌&&◌, ◌||◌, eqb, ltb, leb, ◌⊎◌, List, [], ◌∷◌, length, Some, None, Option, sym, refl, ap, ◌∙◌, subst, inl, inr, arith}
use Rattle.std.proofs.lemmas.Bool.{and_from, or_right, cases_eq, ne_eqb, cond-true, cond-false, lt-ltb, le-ltb, le-leb, lt-leb, not_from_false, and_right, cases_lt}
use Rattle.kinds.specs.declared.deed.Deed.TheVariants.{Updating}
use Rattle.kinds.specs.declared.holding.Holding.{Holding}
use Rattle.kinds.specs.declared.kind.Kind.TheVariants.{Inout, Concurrent}
use Rattle.order.specs.declared.state.State.{State}
use Rattle.order.specs.declared.state.State.TheVariants.{Created, Running, Finished}
use Rattle.kinds.specs.Kinds.{strongly, covers, meets, if_strong, allows, covered_by, is_commutative, within, asked, combine_held}
use Rattle.order.specs.Questions.{create, start, finish, step, all_yes, after, newborn, turned, put_task, no_earlier_conflict, commutative_free, no_descendant_conflict, most_tasks}
use Rattle.order.specs.Tasks.{Task, World, is_created, is_running, is_finished, count, state_of, path, above, parts_lower, ancestor, earlier, holds, let_go, every_cell, deeply_complete, new}
use Rattle.order.specs.View.{root}
use Rattle.order.proofs.Deeply.{holds_unfinished}
use Rattle.kinds.proofs.Every.{clash, then_from}
use Rattle.order.proofs.Bounded.{every_from}
use Rattle.order.proofs.Paths.{above_ends, lower_ends, ends_not_self}
use Rattle.promise.specs.Runs.{all_questions}
use Rattle.promise.proofs.Kept.{all_from, put_same, put_other, put_at}
use Rattle.lives.specs.Crowd.{one_cell, born, Apart, Calm}

-- what one access holds: its cell as strong inout, and nothing else
asked_there : (c d : ℕ) → (d ≡ c → ⊥) → asked (one_cell c ∷ []) d ≡ None
asked_there c d n = ap (λ b. combine_held (cond b (strongly Inout) None) None) (outside (cases_lt d c))
  where
    outside : (d < c) ⊎ (c ≤ d) → within c (c + 1) d ≡ false
    outside (inl h) = ap (λ b. b && ltb d (c + 1)) (lt-leb c d h)
    outside (inr h) = and_right (leb c d) (ltb d (c + 1)) (le-ltb d (c + 1) (omega arith))

asked_here : (c : ℕ) → asked (one_cell c ∷ []) c ≡ strongly Inout
asked_here c =
    ap (λ b. combine_held (cond b (strongly Inout) None) None)
    (and_from (leb c c) (ltb c (c + 1)) (le-leb c c (omega arith)) (lt-ltb c (c + 1) (omega arith)))

-- it is nowhere commutative
asked_plain : (c d : ℕ) → is_commutative (asked (one_cell c ∷ []) d) ≡ false
asked_plain c d = go (within c (c + 1) d)
  where
    go : (b : Bool) → is_commutative (combine_held (cond b (strongly Inout) None) None) ≡ false
    go true = refl
    go false = refl

meets_none : (h : Option Holding) → meets h None ≡ false
meets_none None = refl
meets_none (Some a) = refl

path_root : (tree : List ℕ) → path tree 0 ≡ []
path_root [] = refl
path_root (p ∷ tree) = cond-false (eqb 0 (suc (length tree))) _ _ (ne_eqb 0 (suc (length tree)) (λ e. omega arith)) ∙ path_root tree

above_nothing : (p : List ℕ) → above p [] ≡ false
above_nothing [] = refl
above_nothing (x ∷ p) = refl

-- a task in its life: it has the cell c alone, and nobody else has it
abbrev own : State → ℕ → Task
own s c = record { waits = false; state = s; hold = asked (one_cell c ∷ []) }

pub record Living (s : State) (c t : ℕ) (w : World) : Type 0 where
  pub calm : Calm c t w
  pub later : 0 < t
  pub known : t < count w
  pub itself : w.task t ≡ own s c

-- in a new world of more than c cells there is no other task
pub new_calm : (w : World) (n c : ℕ) → w ≡ new n → c < n → Calm c 0 w
new_calm w n c e h =
    subst (Calm c 0) (sym e) (record { rooted = refl; exists = h; apart = λ u a b m. absurd (omega arith) })

module _ (w : World) where
  -- what task 0 holds
  root_holds : w.task 0 ≡ root w.cells → (d : ℕ) → holds w 0 d ≡ cond (ltb d w.cells) (strongly Inout) None
  root_holds e d = holds_unfinished w 0 (ap (λ k. is_finished k.state) e) d ∙ ap (λ k. k.hold d) e

  -- a task that stands apart from the cell holds nothing of it
  apart_holds : (c u : ℕ) → Apart c (w.task u) → holds w u c ≡ None
  apart_holds c u (inl e) = go (let_go w u)
    where
      go : (b : Bool) → cond b None ((w.task u).hold c) ≡ None
      go true = refl
      go false = e
  apart_holds c u (inr e) =
      cond-true (let_go w u) None ((w.task u).hold c)
      (and_from (is_finished (state_of w u)) (not (w.task u).waits || deeply_complete w u) e.0 (ap (λ b. not b || deeply_complete w u) e.1))

  -- task 0 may create a task with the cell
  pub create_yes :
      (c : ℕ) →
      w.task 0 ≡ root w.cells →
      count w < 64 →
      c < w.cells →
      all_yes (all_questions w true (create 0 false (one_cell c ∷ []))) ≡ true
  unfolding covers
  create_yes c e few h =
      all_from (all_questions w true (create 0 false (one_cell c ∷ []))) (
        lt-ltb 0 (count w) (omega arith),
        (
          ap (λ k. is_running k.state) e,
          (
            lt-ltb (count w) most_tasks few,
            (
              refl,
              (
                and_from _ _ (and_from (ltb c (c + 1)) (leb (c + 1) w.cells) (lt-ltb c (c + 1) (omega arith)) (le-leb (c + 1) w.cells (omega arith))) refl,
                (
                  refl,
                  (
                    every_from w.cells _ (λ d k. not_from_false (is_commutative (holds w 0 d)) (ap is_commutative (root_holds e d) ∙ plain (ltb d w.cells))),
                    (
                      every_from w.cells _ (λ d k. covered d k (cases_eq d c)),
                      tt,
                    ),
                  ),
                ),
              ),
            ),
          ),
        ),
      )
    where
      plain : (b : Bool) → is_commutative (cond b (strongly Inout) None) ≡ false
      plain true = refl
      plain false = refl

      covered : (d : ℕ) → d < w.cells → (d ≡ c) ⊎ (d ≡ c → ⊥) → covered_by (holds w 0 d) (asked (one_cell c ∷ []) d) ≡ true
      covered d k (inl q) =
          ap (λ g. covered_by g (asked (one_cell c ∷ []) d)) (root_holds e d ∙ cond-true (ltb d w.cells) (strongly Inout) None (lt-ltb d w.cells k))
          ∙ ap (covered_by (strongly Inout)) (ap (asked (one_cell c ∷ [])) q ∙ asked_here c)
      covered d k (inr n) = ap (covered_by (holds w 0 d)) (asked_there c d n)

  -- a new task on another cell stands apart
  pub born_calm : (c d : ℕ) → (c ≡ d → ⊥) → Calm c 0 w → Calm c 0 (born d w)
  born_calm c d n calm =
      record {
        rooted = put_other w.task (count w) (newborn false (asked (one_cell d ∷ []))) 0 (λ e. omega arith) ∙ calm.rooted;
        exists = calm.exists;
        apart =
            λ u h k m.
            put_at (λ x t. Apart c t) w.task (count w) (newborn false (asked (one_cell d ∷ []))) u (inl (asked_there d c n))
            (λ other. calm.apart u h (omega arith) m);
      }

  -- a new task on the cell itself is the one that has it
  pub born_living : (c : ℕ) → Calm c 0 w → Living Created c (count w) (born c w)
  born_living c calm =
      record {
        calm =
            record {
              rooted = put_other w.task (count w) (newborn false (asked (one_cell c ∷ []))) 0 (λ e. omega arith) ∙ calm.rooted;
              exists = calm.exists;
              apart =
                  λ u h k m.
                  subst (Apart c) (sym (put_other w.task (count w) (newborn false (asked (one_cell c ∷ []))) u m))
                  (calm.apart u h (omega arith) (λ e. omega arith));
            };
        later = omega arith;
        known = omega arith;
        itself = put_same w.task (count w) (newborn false (asked (one_cell c ∷ [])));
      }

  module _ (s : State) (c t : ℕ) (life : Living s c t w) where
    -- another task, if it is not task 0, holds nothing of the cell
    others : (u : ℕ) → u < count w → (u ≡ t → ⊥) → (u ≡ 0 → ⊥) → holds w u c ≡ None
    others u h n m = apart_holds c u (life.calm.apart u (omega arith) h n)

    -- what the task holds, as long as it is not finished
    mine : is_finished s ≡ false → (d : ℕ) → holds w t d ≡ asked (one_cell c ∷ []) d
    mine f d = holds_unfinished w t (ap (λ k. is_finished k.state) life.itself ∙ f) d ∙ ap (λ k. k.hold d) life.itself

    exists_yes : ltb t (count w) ≡ true
    exists_yes = lt-ltb t (count w) life.known

    in_order : is_finished s ≡ false → no_earlier_conflict w t ≡ true
    in_order f = every_from (count w) _ (λ u h. then_from (earlier w u t) (every_cell w (λ d. not (meets (holds w u d) (if_strong (holds w t d))))) (λ e. go u h e (cases_eq u t) (cases_eq u 0)))
      where
        cell : (u : ℕ) → holds w u c ≡ None → (d : ℕ) → (d ≡ c) ⊎ (d ≡ c → ⊥) → meets (holds w u d) (if_strong (holds w t d)) ≡ false
        cell u e d (inl q) = ap (λ g. meets g (if_strong (holds w t d))) (ap (holds w u) q ∙ e)
        cell u e d (inr n) = ap (λ g. meets (holds w u d) (if_strong g)) (mine f d ∙ asked_there c d n) ∙ meets_none (holds w u d)

        go :
            (u : ℕ) →
            u < count w →
            earlier w u t ≡ true →
            (u ≡ t) ⊎ (u ≡ t → ⊥) →
            (u ≡ 0) ⊎ (u ≡ 0 → ⊥) →
            every_cell w (λ d. not (meets (holds w u d) (if_strong (holds w t d)))) ≡ true
        go u h e (inl q) z =
            absurd (ends_not_self (path w.tree t) (lower_ends (path w.tree t) (path w.tree t) (subst (λ (x : ℕ). earlier w x t ≡ true) q e)))
        go u h e (inr n) (inl q) =
            clash (sym (ap (λ p. parts_lower p (path w.tree t)) (ap (path w.tree) q ∙ path_root w.tree)) ∙ e)
        go u h e (inr n) (inr m) =
            every_from w.cells _ (λ d k. not_from_false (meets (holds w u d) (if_strong (holds w t d))) (cell u (others u h n m) d (cases_eq d c)))

    in_turn : is_finished s ≡ false → commutative_free w t ≡ true
    in_turn f =
        every_from (count w) _
        (
        λ u h.
        or_right (eqb u t || is_created (state_of w u)) _
        (
        every_from w.cells _
        (
        λ d k.
        not_from_false (is_commutative (holds w u d) && is_commutative (holds w t d))
        (and_right (is_commutative (holds w u d)) (is_commutative (holds w t d)) (ap is_commutative (mine f d) ∙ asked_plain c d))
        )
        )
        )

    no_descendants : no_descendant_conflict w Updating t c ≡ true
    no_descendants =
        every_from (count w) _ (λ u h. then_from (ancestor w t u) (not (meets (holds w u c) (strongly Concurrent))) (λ e. go u h e (cases_eq u t) (cases_eq u 0)))
      where
        go :
            (u : ℕ) →
            u < count w →
            ancestor w t u ≡ true →
            (u ≡ t) ⊎ (u ≡ t → ⊥) →
            (u ≡ 0) ⊎ (u ≡ 0 → ⊥) →
            not (meets (holds w u c) (strongly Concurrent)) ≡ true
        go u h e (inl q) z =
            absurd (ends_not_self (path w.tree t) (above_ends (path w.tree t) (path w.tree t) (subst (λ (x : ℕ). ancestor w t x ≡ true) q e)))
        go u h e (inr n) (inl q) =
            clash (sym (ap (above (path w.tree t)) (ap (path w.tree) q ∙ path_root w.tree) ∙ above_nothing (path w.tree t)) ∙ e)
        go u h e (inr n) (inr m) = ap (λ g. not (meets g (strongly Concurrent))) (others u h n m)

    -- the task in another state, and the others as they were
    turned_living : (r : State) → Living r c t (put_task w t (turned (w.task t) r))
    turned_living r =
        record {
          calm =
              record {
                rooted = put_other w.task t (turned (w.task t) r) 0 (λ e. omega (arith, life.later)) ∙ life.calm.rooted;
                exists = life.calm.exists;
                apart =
                    λ u h k m.
                    subst (Apart c) (sym (put_other w.task t (turned (w.task t) r) u m)) (life.calm.apart u h k m);
              };
          later = life.later;
          known = life.known;
          itself = put_same w.task t (turned (w.task t) r) ∙ ap (λ k. turned k r) life.itself;
        }

  module _ (c t : ℕ) where
    pub start_yes : Living Created c t w → all_yes (all_questions w true (start t)) ≡ true
    start_yes life =
        all_from (all_questions w true (start t)) (
          exists_yes Created c t life,
          (ap (λ k. is_created k.state) life.itself, (in_order Created c t life refl, (in_turn Created c t life refl, tt))),
        )

    pub started : Living Created c t w → Living Running c t (after w (start t))
    started life = turned_living Created c t life Running

    pub step_yes : Living Running c t w → all_yes (all_questions w true (step Updating t c)) ≡ true
    step_yes life =
        all_from (all_questions w true (step Updating t c)) (
          exists_yes Running c t life,
          (
            ap (λ k. is_running k.state) life.itself,
            (
              lt-ltb c w.cells life.calm.exists,
              (ap (λ h. allows (if_strong h) Updating) (mine Running c t life refl c ∙ asked_here c), (no_descendants Running c t life, (refl, tt))),
            ),
          ),
        )

    pub finish_yes : Living Running c t w → all_yes (all_questions w true (finish t)) ≡ true
    finish_yes life =
        all_from (all_questions w true (finish t)) (exists_yes Running c t life, (ap (λ k. is_running k.state) life.itself, tt))

    -- a finished task stands apart, as all others do
    pub finished : Living Running c t w → Calm c 0 (after w (finish t))
    finished life =
        let over : Living Finished c t (after w (finish t)) = turned_living Running c t life Finished in
        record {
          rooted = over.calm.rooted;
          exists = over.calm.exists;
          apart = λ u h k m. go over u h k (cases_eq u t);
        }
      where
        go : Living Finished c t (after w (finish t)) → (u : ℕ) → 0 < u → u < count w → (u ≡ t) ⊎ (u ≡ t → ⊥) → Apart c ((after w (finish t)).task u)
        go over u h k (inl q) =
            subst (λ (x : ℕ). Apart c ((after w (finish t)).task x)) (sym q)
            (inr (ap (λ e. is_finished e.state) over.itself, ap (λ e. e.waits) over.itself))
        go over u h k (inr n) = over.calm.apart u h k n
