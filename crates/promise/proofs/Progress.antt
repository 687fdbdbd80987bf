-- Until task 0 is deeply complete, some task can start, finish or resume.
-- Assumes nothing.
use Rattle.std.proofs.Common.{◌≡◌, ℕ, ◌<◌, Bool, true, false, not, ◌&&◌, ◌||◌, eqb, ◌⊎◌, List, [], ◌∷◌, length, None, Option, sym, refl, ap, ◌∙◌, subst, inl, inr, arith}
use Rattle.std.specs.List.{AllByRecursion as All}
use Rattle.std.proofs.lemmas.Bool.{and_parts, or_parts, not-false, cases_Bool, lt-ltb}
use Rattle.kinds.specs.declared.holding.Holding.{Holding}
use Rattle.order.specs.declared.state.State.{State}
use Rattle.order.specs.declared.state.State.TheVariants.{Created, Running, Waiting, Finished}
use Rattle.kinds.specs.Kinds.{meets, if_strong, is_commutative}
use Rattle.order.specs.Questions.{start, finish, resume, questions, no_earlier_conflict, commutative_free, change, after}
use Rattle.order.specs.Tasks.{
  World,
  is_created,
  is_running,
  is_waiting,
  is_finished,
  count,
  state_of,
  every_cell,
  path,
  ancestor,
  earlier,
  child,
  deeply_complete,
  holds,
  new,
}
use Rattle.order.proofs.Deeply.{deep_by_children, deep_from, deep_holds_none, holds_or_none, child_ancestor}
use Rattle.kinds.proofs.Every.{clash, then_from}
use Rattle.order.proofs.Bounded.{every_from, every_fails}
use Rattle.order.proofs.Paths.{ends, above_ends, lower_ends, ends_not_self, ends_trans, above_earlier, above_trans}
use Rattle.promise.specs.Program.{Entry, took, refused}
use Rattle.promise.specs.Promise.{CompleteByChildren, GoesOn, NeverStuck}
use Rattle.promise.specs.Runs.{world, Runs}
use Rattle.promise.proofs.EndOrder.{In, all_in, Sorted}
use Rattle.promise.proofs.Invariant.{Good, line_after, good_new}
use Rattle.promise.proofs.Kept.{all_from}
use Rattle.promise.proofs.Replay.{taken_accepted, good_taken}

-- a task of the line that is not finished, with all finished that end before it
record First (w : World) (line : List ℕ) : Type 0 where
  pub task : ℕ
  pub listed : In task line
  pub unfinished : is_finished (state_of w task) ≡ false
  pub before : (v : ℕ) → In v line → ends (path w.tree v) (path w.tree task) ≡ true → is_finished (state_of w v) ≡ true

first : (w : World) (line : List ℕ) → Sorted w.tree line → All (λ t. is_finished (state_of w t) ≡ true) line ⊎ First w line
first w [] s = inl tt
first w (t ∷ ts) s = go (cases_Bool (is_finished (state_of w t))) (first w ts s.1)
  where
    -- nothing of the line ends before its head
    head : (v : ℕ) → (v ≡ t) ⊎ In v ts → ends (path w.tree v) (path w.tree t) ≡ true → is_finished (state_of w v) ≡ true
    head v (inl i) e = absurd (ends_not_self (path w.tree t) (subst (λ (x : ℕ). ends (path w.tree x) (path w.tree t) ≡ true) i e))
    head v (inr i) e =
        absurd
        (
        ends_not_self (path w.tree v)
        (
        ends_trans (path w.tree v) (path w.tree t) (path w.tree v) e
        (all_in (λ y. ends (path w.tree t) (path w.tree y) ≡ true) ts v s.0 i)
        )
        )

    go :
        (is_finished (state_of w t) ≡ true) ⊎ (is_finished (state_of w t) ≡ false) →
        All (λ u. is_finished (state_of w u) ≡ true) ts ⊎ First w ts →
        All (λ u. is_finished (state_of w u) ≡ true) (t ∷ ts) ⊎ First w (t ∷ ts)
    go (inr n) rest = inr (record { task = t; listed = inl refl; unfinished = n; before = head })
    go (inl y) (inl all) = inl (y, all)
    go (inl y) (inr m) = inr (record { task = m.task; listed = inr m.listed; unfinished = m.unfinished; before = before })
      where
        before : (v : ℕ) → (v ≡ t) ⊎ In v ts → ends (path w.tree v) (path w.tree m.task) ≡ true → is_finished (state_of w v) ≡ true
        before v (inl i) e = subst (λ (x : ℕ). is_finished (state_of w x) ≡ true) (sym i) y
        before v (inr i) e = m.before v i e

module _ (w : World) (line : List ℕ) (g : Good w line) where
  finishes : (t : ℕ) → t < count w → state_of w t ≡ Running → GoesOn w
  finishes t h e = (t, inr (inl (all_from (questions w (finish t)) (lt-ltb t (count w) h, (ap is_running e, tt)))))

  resumes :
      (t : ℕ) →
      t < count w →
      state_of w t ≡ Waiting →
      ((v : ℕ) → v < count w → ancestor w t v ≡ true → deeply_complete w v ≡ true) →
      GoesOn w
  resumes t h e below =
      let complete =
      every_from (count w) (λ v. not (child w t v) || deeply_complete w v)
      (λ v hv. then_from (child w t v) (deeply_complete w v) (λ i. below v hv (child_ancestor w g.well t v hv i))) in
      (t, inr (inr (all_from (questions w (resume t)) (lt-ltb t (count w) h, (ap is_waiting e, (complete, tt))))))

  -- a task that has begun and holds a commutative cell has no children: it can finish or resume
  holder_goes : (u c : ℕ) → u < count w → c < w.cells → is_created (state_of w u) ≡ false → is_commutative (holds w u c) ≡ true → GoesOn w
  holder_goes u c hu hc b m = go (state_of w u) refl
    where
      asked : is_commutative ((w.task u).hold c) ≡ true
      asked = pick (holds_or_none w u c)
        where
          pick : (holds w u c ≡ (w.task u).hold c) ⊎ (holds w u c ≡ None) → is_commutative ((w.task u).hold c) ≡ true
          pick (inl e) = sym (ap is_commutative e) ∙ m
          pick (inr e) = clash (sym (ap is_commutative e) ∙ m)

      childless : (v : ℕ) → v < count w → ancestor w u v ≡ true → ⊥
      childless v hv e = clash (sym (g.bare u v hu hv e c hc) ∙ asked)

      go : (s : State) → state_of w u ≡ s → GoesOn w
      go Created e = clash (sym b ∙ ap is_created e)
      go Running e = finishes u hu e
      go Waiting e = resumes u hu e (λ v hv i. absurd (childless v hv i))
      go Finished e =
          let f = ap is_finished e in
          clash (sym (ap is_commutative (deep_holds_none w u f (deep_from w u f (λ v hv i. absurd (childless v hv i))) c)) ∙ m)

  -- the first task that is not finished can go on, or one that bars its start can
  first_goes : First w line → GoesOn w
  first_goes m = on (state_of w r) refl
    where
      r : ℕ
      r = m.task

      hr : r < count w
      hr = all_in (λ t. t < count w) line r g.small m.listed

      before : (v : ℕ) → v < count w → ends (path w.tree v) (path w.tree r) ≡ true → is_finished (state_of w v) ≡ true
      before v hv e = m.before v (g.full v hv) e

      below : (v : ℕ) → v < count w → ancestor w r v ≡ true → deeply_complete w v ≡ true
      below v hv a =
          deep_from w v (before v hv (above_ends (path w.tree v) (path w.tree r) a))
          (λ x hx b. before x hx (above_ends (path w.tree x) (path w.tree r) (above_trans (path w.tree r) (path w.tree v) (path w.tree x) a b)))

      beside : (u : ℕ) → u < count w → earlier w u r ≡ true → (c : ℕ) → holds w u c ≡ None
      beside u hu a =
          let f = before u hu (lower_ends (path w.tree u) (path w.tree r) a) in
          deep_holds_none w u f
          (
          deep_from w u f
          (λ x hx b. before x hx (lower_ends (path w.tree x) (path w.tree r) (above_earlier (path w.tree u) (path w.tree x) (path w.tree r) b a)))
          )

      none_earlier : no_earlier_conflict w r ≡ true
      none_earlier =
          every_from (count w) (λ u. not (earlier w u r) || every_cell w (λ c. not (meets (holds w u c) (if_strong (holds w r c)))))
          (
          λ u hu.
          then_from (earlier w u r) (every_cell w (λ c. not (meets (holds w u c) (if_strong (holds w r c)))))
          (
          λ a.
          every_from w.cells (λ c. not (meets (holds w u c) (if_strong (holds w r c))))
          (λ c hc. ap (λ (h : Option Holding). not (meets h (if_strong (holds w r c)))) (beside u hu a c))
          )
          )

      starts : (b : Bool) → commutative_free w r ≡ b → is_created (state_of w r) ≡ true → GoesOn w
      starts true q s = (r, inl (all_from (questions w (start r)) (lt-ltb r (count w) hr, (s, (none_earlier, (q, tt))))))
      starts false q s =
          let k =
          every_fails (count w)
          (λ u. (eqb u r || is_created (state_of w u)) || every_cell w (λ c. not (is_commutative (holds w u c) && is_commutative (holds w r c))))
          q in
          let u = k.0 in
          let parts = or_parts (eqb u r || is_created (state_of w u)) (every_cell w (λ c. not (is_commutative (holds w u c) && is_commutative (holds w r c)))) k.2 in
          let begun = (or_parts (eqb u r) (is_created (state_of w u)) parts.0).1 in
          let at_cell = every_fails w.cells (λ c. not (is_commutative (holds w u c) && is_commutative (holds w r c))) parts.1 in
          let both = not-false (is_commutative (holds w u at_cell.0) && is_commutative (holds w r at_cell.0)) at_cell.2 in
          holder_goes u at_cell.0 k.1 at_cell.1 begun (and_parts (is_commutative (holds w u at_cell.0)) (is_commutative (holds w r at_cell.0)) both).0

      on : (s : State) → state_of w r ≡ s → GoesOn w
      on Created e = starts (commutative_free w r) refl (ap is_created e)
      on Running e = finishes r hr e
      on Waiting e = resumes r hr e below
      on Finished e = clash (sym m.unfinished ∙ ap is_finished e)

  pub goes : deeply_complete w 0 ≡ false → GoesOn w
  goes d = go (first w line g.sorted)
    where
      go : All (λ t. is_finished (state_of w t) ≡ true) line ⊎ First w line → GoesOn w
      go (inl all) = clash (sym d ∙ deep_from w 0 (finished 0 (omega arith)) (λ v hv i. finished v hv))
        where
          finished : (v : ℕ) → v < count w → is_finished (state_of w v) ≡ true
          finished v hv = all_in (λ t. is_finished (state_of w t) ≡ true) line v all (g.full v hv)
      go (inr m) = first_goes m

module _ {V : Type 0} (rest : V) (updated : V → V → V) where
  -- the tasks are good after every history
  pub good_after :
      (h : List (Entry V)) (w : World) (line : List ℕ) (s f : List V) →
      Good w line →
      Runs rest updated w s h f →
      (ts : List ℕ) × Good (world w h) ts
  good_after [] w line s f g r = (line, g)
  good_after (refused k was_open n ∷ h) w line s f g r = good_after h w line s f g r.2
  good_after (took k given a ∷ h) w line s f g r =
      good_after h (after w k) (line_after w (change k) line) _ f (good_taken w k line (taken_accepted w k r.0) g) r.2

  pub never_stuck : NeverStuck rest updated
  never_stuck s f h r d =
      let g = good_after h (new (length s)) (0 ∷ []) s f (good_new (length s)) r in
      goes (world (new (length s)) h) g.0 g.1 d

  pub complete_by_children : CompleteByChildren rest updated
  complete_by_children s f h r t l =
      let g = good_after h (new (length s)) (0 ∷ []) s f (good_new (length s)) r in
      deep_by_children (world (new (length s)) h) g.1.well t l
