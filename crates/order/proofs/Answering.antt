-- Questions asked one after the other: the first no is the answer.
-- Assumes nothing.
use Rattle.std.proofs.Common.{◌≡◌, ℕ, ◌<◌, ◌≤◌, Bool, true, false, ◌&&◌, ltb, leb, ◌⊎◌, List, [], ◌∷◌, ◌++◌, Ok, Err, Result, sym, refl, ap, ◌∙◌, subst, inl, inr, arith, lit<, MatchResult}
use Rattle.std.proofs.lemmas.Bool.{and_from, and_parts, cases_Bool, leb-true, cond-true, cond-false}
use Rattle.order.specs.declared.refusal.Refusal.{Refusal}
use Rattle.order.specs.declared.refusal.Refusal.TheVariants.{
  NoSuchTask,
  WrongState,
  TooManyTasks,
  TooManyAccesses,
  BadRegion,
  UnknownKind,
  CommutativeParent,
  NotCovered,
  EarlierConflict,
  CommutativeBusy,
  ChildrenOpen,
  NotHeld,
  TooManyRuns,
  NoSuchCell,
  NoFittingHolding,
  DescendantConflict,
  ShortList,
}
use Rattle.order.specs.Asked.{running_questions}
use Rattle.order.specs.Questions.{Question, Call, create, start, finish, wait, resume, release, step, look, ready, ask, all_yes, first_number, questions, accepted, first_no, after, task_exists, region_lies}
use Rattle.order.specs.Refusals.{refusal_number}
use Rattle.order.specs.Tasks.{World, is_running, state_of}
use Rattle.order.specs.View.{Did, answer_number}

pub at_no : (why : Refusal) (b : Bool) (more : List Question) → b ≡ false → refusal_number why ≡ first_number (ask why b ∷ more)
at_no why b more e = sym (cond-false b (first_number more) (refusal_number why) e)

pub past_yes : (why : Refusal) (b : Bool) (more : List Question) (n : ℕ) → b ≡ true → n ≡ first_number more → n ≡ first_number (ask why b ∷ more)
past_yes why b more n e a = a ∙ sym (cond-true b (first_number more) (refusal_number why) e)

pub number_positive : (why : Refusal) → 0 < refusal_number why
number_positive NoSuchTask = lit< tt
number_positive WrongState = lit< tt
number_positive TooManyTasks = lit< tt
number_positive TooManyAccesses = lit< tt
number_positive BadRegion = lit< tt
number_positive UnknownKind = lit< tt
number_positive CommutativeParent = lit< tt
number_positive NotCovered = lit< tt
number_positive EarlierConflict = lit< tt
number_positive CommutativeBusy = lit< tt
number_positive ChildrenOpen = lit< tt
number_positive NotHeld = lit< tt
number_positive TooManyRuns = lit< tt
number_positive NoSuchCell = lit< tt
number_positive NoFittingHolding = lit< tt
number_positive DescendantConflict = lit< tt
number_positive ShortList = lit< tt

-- a no has a number
abbrev Positive : List Question → Type 0
Positive [] = Unit {0}
Positive (q ∷ more) = (0 < q.number) × Positive more

none_no : (qs : List Question) → Positive qs → first_number qs ≡ 0 → all_yes qs ≡ true
none_no [] p e = refl
none_no (q ∷ more) p e = go (cases_Bool q.answer) (none_no more p.1)
  where
    go : (q.answer ≡ true) ⊎ (q.answer ≡ false) → (first_number more ≡ 0 → all_yes more ≡ true) → (q.answer && all_yes more) ≡ true
    go (inl y) ih = and_from q.answer (all_yes more) y (ih (sym (cond-true q.answer (first_number more) q.number y) ∙ e))
    go (inr n) ih = let z = cond-false q.answer (first_number more) q.number n in let k = p.0 in absurd (omega arith)

positive : (w : World) (k : Call) → Positive (questions w k)
positive w (create p waits list) = (lit< tt, (lit< tt, (lit< tt, (lit< tt, (lit< tt, (lit< tt, (lit< tt, (lit< tt, tt))))))))
positive w (start t) = (lit< tt, (lit< tt, (lit< tt, (lit< tt, tt))))
positive w (finish t) = (lit< tt, (lit< tt, tt))
positive w (wait t) = (lit< tt, (lit< tt, tt))
positive w (resume t) = (lit< tt, (lit< tt, (lit< tt, tt)))
positive w (release t lo hi) = (lit< tt, (lit< tt, (lit< tt, (lit< tt, (lit< tt, tt)))))
positive w (step d t c) = (lit< tt, (lit< tt, (lit< tt, (lit< tt, (lit< tt, tt)))))
positive w (look c) = (lit< tt, tt)
positive w (ready places) = (lit< tt, tt)

-- questions asked before others
pub front_no : (qs more : List Question) (n : ℕ) → 0 < n → n ≡ first_number qs → n ≡ first_number (qs ++ more)
front_no [] more n h e = absurd (omega arith)
front_no (q ∷ qs) more n h e = go (cases_Bool q.answer) (front_no qs more n h)
  where
    go : (q.answer ≡ true) ⊎ (q.answer ≡ false) → (n ≡ first_number qs → n ≡ first_number (qs ++ more)) → n ≡ first_number (q ∷ qs ++ more)
    go (inl y) ih =
        ih (e ∙ cond-true q.answer (first_number qs) q.number y) ∙ sym (cond-true q.answer (first_number (qs ++ more)) q.number y)
    go (inr f) ih =
        e ∙ (cond-false q.answer (first_number qs) q.number f ∙ sym (cond-false q.answer (first_number (qs ++ more)) q.number f))

all_front : (qs more : List Question) (n : ℕ) → all_yes qs ≡ true → n ≡ first_number more → n ≡ first_number (qs ++ more)
all_front [] more n a e = e
all_front (q ∷ qs) more n a e =
    let k = and_parts q.answer (all_yes qs) a in
    all_front qs more n k.1 e ∙ sym (cond-true q.answer (first_number (qs ++ more)) q.number k.0)

none_said : (qs : List Question) → all_yes qs ≡ true → first_number qs ≡ 0
none_said [] e = refl
none_said (q ∷ more) e =
    let k = and_parts q.answer (all_yes more) e in cond-true q.answer (first_number more) q.number k.0 ∙ none_said more k.1

pub all_accepted : (w : World) (k : Call) → 0 ≡ first_no w k → accepted w k ≡ true
all_accepted w k e = none_no (questions w k) (positive w k) (sym e)

-- an answer with the first no's number, and the world it leaves
pub did :
    {U : Type 0} (w v : World) (k : Call) (r : Result U Refusal) →
    answer_number r ≡ first_no w k →
    MatchResult r (λ _. v ≡ after w k) (λ _. v ≡ w) →
    Did w k r v
did w v k (Ok u) e c = (all_accepted w k e, c)
did w v k (Err why) e c = (go (cases_Bool (accepted w k)), e, c)
  where
    go : (accepted w k ≡ true) ⊎ (accepted w k ≡ false) → accepted w k ≡ false
    go (inl y) = let p = number_positive why in let z = none_said (questions w k) y in absurd (omega arith)
    go (inr n) = n

pub refused_number : {U : Type 0} (r : Result U Refusal) (e why : Refusal) → r ≡ Err e → e ≡ why → answer_number r ≡ refusal_number why
refused_number (Ok u) e why p q = let z : ◌≡◌ {A = ℕ} 0 1 = cc in absurd (omega arith)
refused_number {U = U} (Err x) e why p q = ap (answer_number {U = U}) p ∙ ap refusal_number q

pub err_is : {U : Type 0} (P : U → Type 0) (Q : Refusal → Type 0) (r : Result U Refusal) (e : Refusal) → r ≡ Err e → Q e → MatchResult r P Q
err_is P Q r e p h = subst (λ x. MatchResult x P Q) (sym p) h

-- a refused call whose number is known
pub refused_did :
    {U : Type 0} (w : World) (k : Call) (r : Result U Refusal) (e why : Refusal) →
    r ≡ Err e →
    e ≡ why →
    refusal_number why ≡ first_no w k →
    Did w k r w
refused_did w k (Ok u) e why p q n = let z : ◌≡◌ {A = ℕ} 0 1 = cc in absurd (omega arith)
refused_did {U = U} w k (Err x) e why p q n = did {U = U} w w k (Err x) (refused_number {U = U} (Err x) e why p q ∙ n) refl

-- t is there and running, and so the others decide
pub past_running : (w : World) (t : ℕ) (more : List Question) (n : ℕ) → 0 ≡ first_number (running_questions w t) → n ≡ first_number more → n ≡ first_number (running_questions w t ++ more)
past_running w t more n z e = all_front (running_questions w t) more n (none_no (running_questions w t) (lit< tt, (lit< tt, tt)) (sym z)) e

pub running_parts : (w : World) (t : ℕ) → 0 ≡ first_number (running_questions w t) → (task_exists w t ≡ true) × (is_running (state_of w t) ≡ true)
running_parts w t z =
    let a = and_parts (task_exists w t) (is_running (state_of w t) && true) (none_no (running_questions w t) (lit< tt, (lit< tt, tt)) (sym z)) in
    (a.0, (and_parts (is_running (state_of w t)) true a.1).0)

pub all_running_yes : (w : World) (t : ℕ) → task_exists w t ≡ true → is_running (state_of w t) ≡ true → 0 ≡ first_number (running_questions w t)
all_running_yes w t a b =
    past_yes NoSuchTask (task_exists w t) (ask WrongState (is_running (state_of w t)) ∷ []) 0 a (past_yes WrongState (is_running (state_of w t)) [] 0 b refl)

-- t is not there or not running, and so the answer stands whatever comes after
pub before_running :
    (w : World) (t : ℕ) (more : List Question) (why : Refusal) →
    refusal_number why ≡ first_number (running_questions w t) →
    refusal_number why ≡ first_number (running_questions w t ++ more)
before_running w t more why e = front_no (running_questions w t) more (refusal_number why) (number_positive why) e

pub region_end : (w : World) (lo hi : ℕ) → region_lies w lo hi ≡ true → hi ≤ w.cells
region_end w lo hi e = leb-true hi w.cells (and_parts (ltb lo hi) (leb hi w.cells) e).1
