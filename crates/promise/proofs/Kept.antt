-- What the questions say of the change that an accepted call makes, and what such a change keeps of the tasks that exist.
-- Assumes nothing.
use Rattle.std.proofs.Common.{◌≡◌, ℕ, ◌<◌, Bool, true, false, cond, not, eqb, ◌⊎◌, List, [], ◌∷◌, None, Option, sym, refl, ap, ◌∙◌, subst, inl, inr, arith}
use Rattle.std.specs.List.{AllByRecursion as All}
use Rattle.std.proofs.lemmas.Bool.{and_parts, and_from, not-true, cases_eq, eq-eqb, ne_eqb, cond-true, cond-false, ltb-true}
use Rattle.kinds.specs.declared.holding.Holding.{Holding}
use Rattle.order.specs.declared.state.State.{State}
use Rattle.order.specs.declared.state.State.TheVariants.{Created, Running, Waiting, Finished}
use Rattle.kinds.specs.Kinds.{is_commutative, covered_by, within, asked}
use Rattle.order.specs.Questions.{Call, create, start, finish, wait, resume, release, step, look, ready, no_earlier_conflict, Question, all_yes, questions, accepted, Change, birth, turn, letting_go, nothing, change, put, newborn, turned, lightened, changed}
use Rattle.order.specs.Tasks.{
  Task,
  World,
  is_created,
  is_running,
  is_waiting,
  is_finished,
  count,
  state_of,
  path,
  holds,
}
use Rattle.order.proofs.Deeply.{holds_unfinished}
use Rattle.kinds.proofs.Every.{clash}
use Rattle.order.proofs.Bounded.{every_at}
use Rattle.order.proofs.Paths.{path_old}

-- the questions one by one
pub yes_all : (qs : List Question) → all_yes qs ≡ true → All (λ q. q.answer ≡ true) qs
yes_all [] e = tt
yes_all (q ∷ qs) e = let k = and_parts q.answer (all_yes qs) e in (k.0, yes_all qs k.1)

pub all_from : (qs : List Question) → All (λ q. q.answer ≡ true) qs → all_yes qs ≡ true
all_from [] a = refl
all_from (q ∷ qs) a = and_from q.answer (all_yes qs) a.0 (all_from qs a.1)

pub running_not_finished : (s : State) → is_running s ≡ true → is_finished s ≡ false
running_not_finished Created a = refl
running_not_finished Running a = refl
running_not_finished Waiting a = refl
running_not_finished Finished a = clash a

pub running_begun : (s : State) → is_running s ≡ true → is_created s ≡ false
running_begun Created a = clash a
running_begun Running a = refl
running_begun Waiting a = refl
running_begun Finished a = refl

waiting_not_finished : (s : State) → is_waiting s ≡ true → is_finished s ≡ false
waiting_not_finished Created a = refl
waiting_not_finished Running a = refl
waiting_not_finished Waiting a = refl
waiting_not_finished Finished a = clash a

waiting_begun : (s : State) → is_waiting s ≡ true → is_created s ≡ false
waiting_begun Created a = clash a
waiting_begun Running a = refl
waiting_begun Waiting a = refl
waiting_begun Finished a = refl

created_not_finished : (s : State) → is_created s ≡ true → is_finished s ≡ false
created_not_finished Created a = refl
created_not_finished Running a = refl
created_not_finished Waiting a = refl
created_not_finished Finished a = clash a

-- a task is born to a running parent without commutative cells that covers what it holds
pub record Birth (w : World) (p : ℕ) (hold : ℕ → Option Holding) : Type 0 where
  pub known : p < count w
  pub running : is_running (state_of w p) ≡ true
  pub bare : (c : ℕ) → c < w.cells → is_commutative ((w.task p).hold c) ≡ false
  pub covered : (c : ℕ) → c < w.cells → covered_by ((w.task p).hold c) (hold c) ≡ true

-- a task that turns is not finished, and has begun before or has no earlier task in its way
pub record Turn (w : World) (t : ℕ) : Type 0 where
  pub unfinished : is_finished (state_of w t) ≡ false
  pub begun : (is_created (state_of w t) ≡ false) ⊎ (no_earlier_conflict w t ≡ true)

abbrev pub Permitted : World → Change → Type 0
Permitted w (birth p waits hold) = Birth w p hold
Permitted w (turn t s) = Turn w t
Permitted w (letting_go t lo hi) = Unit {0}
Permitted w nothing = Unit {0}

pub permitted : (w : World) (k : Call) → accepted w k ≡ true → Permitted w (change k)
permitted w (create p waits list) a =
    let q = yes_all (questions w (create p waits list)) a in
    let now = holds_unfinished w p (running_not_finished (state_of w p) q.1.0) in
    record {
      known = ltb-true p (count w) q.0;
      running = q.1.0;
      bare =
          λ c hc.
          subst (λ (h : Option Holding). is_commutative h ≡ false) (now c)
          (not-true (is_commutative (holds w p c)) (every_at w.cells (λ d. not (is_commutative (holds w p d))) q.1.1.1.1.1.1.0 c hc));
      covered =
          λ c hc.
          subst (λ (h : Option Holding). covered_by h (asked list c) ≡ true) (now c)
          (every_at w.cells (λ d. covered_by (holds w p d) (asked list d)) q.1.1.1.1.1.1.1.0 c hc);
    }
permitted w (start t) a =
    let q = yes_all (questions w (start t)) a in
    record { unfinished = created_not_finished (state_of w t) q.1.0; begun = inr q.1.1.0 }
permitted w (finish t) a =
    let q = yes_all (questions w (finish t)) a in
    record { unfinished = running_not_finished (state_of w t) q.1.0; begun = inl (running_begun (state_of w t) q.1.0) }
permitted w (wait t) a =
    let q = yes_all (questions w (wait t)) a in
    record { unfinished = running_not_finished (state_of w t) q.1.0; begun = inl (running_begun (state_of w t) q.1.0) }
permitted w (resume t) a =
    let q = yes_all (questions w (resume t)) a in
    record { unfinished = waiting_not_finished (state_of w t) q.1.0; begun = inl (waiting_begun (state_of w t) q.1.0) }
permitted w (release t lo hi) a = tt
permitted w (step d t c) a = tt
permitted w (look c) a = tt
permitted w (ready places) a = tt

pub put_same : {A : Type 0} (f : ℕ → A) (t : ℕ) (a : A) → put f t a t ≡ a
put_same f t a = cond-true (eqb t t) a (f t) (eq-eqb t t refl)

pub put_other : {A : Type 0} (f : ℕ → A) (t : ℕ) (a : A) (x : ℕ) → (x ≡ t → ⊥) → put f t a x ≡ f x
put_other f t a x n = cond-false (eqb x t) a (f x) (ne_eqb x t n)

-- what holds of the new value at t, and of the old one elsewhere, holds at x
pub put_at : {A : Type 0} (P : ℕ → A → Type 0) (f : ℕ → A) (t : ℕ) (a : A) (x : ℕ) → P t a → ((x ≡ t → ⊥) → P x (f x)) → P x (put f t a x)
put_at P f t a x new old = go (cases_eq x t)
  where
    go : (x ≡ t) ⊎ (x ≡ t → ⊥) → P x (put f t a x)
    go (inl e) = subst (λ (y : ℕ). P y (put f t a y)) (sym e) (subst (P t) (sym (put_same f t a)) new)
    go (inr n) = subst (P x) (sym (put_other f t a x n)) (old n)

module _ (w : World) where
  -- a change leaves what a task holds of a cell, or takes it away
  pub old_hold :
      (ch : Change) (t : ℕ) →
      t < count w →
      (c : ℕ) →
      (((changed w ch).task t).hold c ≡ (w.task t).hold c) ⊎ (((changed w ch).task t).hold c ≡ None)
  old_hold (birth p waits hold) t h c = inl (ap (λ (k : Task). k.hold c) (put_other w.task (count w) (newborn waits hold) t (λ e. omega arith)))
  old_hold (turn u s) t h c =
      put_at (λ x k. (k.hold c ≡ (w.task x).hold c) ⊎ (k.hold c ≡ None)) w.task u (turned (w.task u) s) t (inl refl) (λ n. inl refl)
  old_hold (letting_go u lo hi) t h c =
      put_at (λ x k. (k.hold c ≡ (w.task x).hold c) ⊎ (k.hold c ≡ None)) w.task u (lightened (w.task u) lo hi) t (two (within lo hi c)) (λ n. inl refl)
    where
      two : (b : Bool) → (cond b None ((w.task u).hold c) ≡ (w.task u).hold c) ⊎ (cond b None ((w.task u).hold c) ≡ None)
      two true = inr refl
      two false = inl refl
  old_hold nothing t h c = inl refl

  -- a finished task stays finished
  pub old_finished :
      (ch : Change) →
      Permitted w ch →
      (t : ℕ) →
      t < count w →
      is_finished (state_of w t) ≡ true →
      is_finished (state_of (changed w ch) t) ≡ true
  old_finished (birth p waits hold) a t h e =
      ap (λ (k : Task). is_finished k.state) (put_other w.task (count w) (newborn waits hold) t (λ i. omega arith)) ∙ e
  old_finished (turn u s) a t h e =
      put_at (λ x k. is_finished (state_of w x) ≡ true → is_finished k.state ≡ true) w.task u (turned (w.task u) s) t
      (λ f. clash (sym a.unfinished ∙ f)) (λ n f. f) e
  old_finished (letting_go u lo hi) a t h e =
      put_at (λ x k. is_finished (state_of w x) ≡ true → is_finished k.state ≡ true) w.task u (lightened (w.task u) lo hi) t
      (λ f. f) (λ n f. f) e
  old_finished nothing a t h e = e

  -- a task that has begun had begun before, or starts now with no earlier task in its way
  pub old_begun :
      (ch : Change) →
      Permitted w ch →
      (t : ℕ) →
      t < count w →
      is_created (state_of (changed w ch) t) ≡ false →
      (is_created (state_of w t) ≡ false) ⊎ ((no_earlier_conflict w t ≡ true) × (is_finished (state_of w t) ≡ false))
  old_begun (birth p waits hold) a t h e =
      inl (sym (ap (λ (k : Task). is_created k.state) (put_other w.task (count w) (newborn waits hold) t (λ i. omega arith))) ∙ e)
  old_begun (turn u s) a t h e =
      put_at
      (λ x k. is_created k.state ≡ false → (is_created (state_of w x) ≡ false) ⊎ ((no_earlier_conflict w x ≡ true) × (is_finished (state_of w x) ≡ false)))
      w.task u (turned (w.task u) s) t
      (λ f. pick a.begun) (λ n f. inl f) e
    where
      pick :
          (is_created (state_of w u) ≡ false) ⊎ (no_earlier_conflict w u ≡ true) →
          (is_created (state_of w u) ≡ false) ⊎ ((no_earlier_conflict w u ≡ true) × (is_finished (state_of w u) ≡ false))
      pick (inl b) = inl b
      pick (inr q) = inr (q, a.unfinished)
  old_begun (letting_go u lo hi) a t h e =
      put_at
      (λ x k. is_created k.state ≡ false → (is_created (state_of w x) ≡ false) ⊎ ((no_earlier_conflict w x ≡ true) × (is_finished (state_of w x) ≡ false)))
      w.task u (lightened (w.task u) lo hi) t
      (λ f. inl f) (λ n f. inl f) e
  old_begun nothing a t h e = inl e

  pub old_path : (ch : Change) (t : ℕ) → t < count w → path (changed w ch).tree t ≡ path w.tree t
  old_path (birth p waits hold) t h = path_old p w.tree t h
  old_path (turn u s) t h = refl
  old_path (letting_go u lo hi) t h = refl
  old_path nothing t h = refl

  pub same_cells : (ch : Change) → (changed w ch).cells ≡ w.cells
  same_cells (birth p waits hold) = refl
  same_cells (turn u s) = refl
  same_cells (letting_go u lo hi) = refl
  same_cells nothing = refl
