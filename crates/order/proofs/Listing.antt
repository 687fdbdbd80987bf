-- A list of the tasks that may start, made by looking at one task after the other.
-- Assumes nothing.
use Rattle.std.proofs.Common.{◌≡◌, ℕ, suc, ◌+◌, ◌<◌, ◌≤◌, Bool, true, false, cond, ◌&&◌, eqb, ltb, ◌⊎◌, List, [], ◌∷◌, ◌++◌, length, is_ok, Ok, Err, Result, sym, refl, ap, ◌∙◌, subst, inl, inr, add-one, arith, length-append}
use Rattle.std.specs.List.{AllByRecursion as All}
use Rattle.std.proofs.lemmas.Bool.{and_right, cases_eq, cases_lt, cond-true, cond-false, eq-eqb, ne_eqb, lt-ltb, le-ltb}
use Rattle.order.specs.declared.refusal.Refusal.{Refusal}
use Rattle.order.specs.declared.refusal.Refusal.TheVariants.{NoSuchTask, WrongState, EarlierConflict, CommutativeBusy}
use Rattle.order.specs.Questions.{Question, all_yes, first_number, accepted, first_no, start, questions}
use Rattle.order.specs.Ready.{times}
use Rattle.order.specs.Records.{tally}
use Rattle.order.specs.Refusals.{refusal_number}
use Rattle.order.specs.Tasks.{World}
use Rattle.order.specs.View.{answer_number}
use Rattle.order.proofs.Answering.{number_positive}

ok_zero : {U : Type 0} (r : Result U Refusal) → is_ok r ≡ eqb (answer_number r) 0
ok_zero (Ok u) = refl
ok_zero (Err why) = sym (ne_eqb (refusal_number why) 0 (λ e. omega (arith, number_positive why)))

yes_zero : (qs : List Question) → All (λ q. 0 < q.number) qs → all_yes qs ≡ eqb (first_number qs) 0
yes_zero [] a = refl
yes_zero (q ∷ more) a = go q.answer (yes_zero more a.1)
  where
    go : (b : Bool) → all_yes more ≡ eqb (first_number more) 0 → (b && all_yes more) ≡ eqb (cond b (first_number more) q.number) 0
    go true ih = ih
    go false ih = sym (ne_eqb q.number 0 (λ e. omega (arith, a.0)))

-- an answer is Ok exactly when the start is accepted
pub start_ok : {U : Type 0} (w : World) (t : ℕ) (r : Result U Refusal) → answer_number r ≡ first_no w (start t) → is_ok r ≡ accepted w (start t)
start_ok w t r e =
    ok_zero r
    ∙ (ap (λ (n : ℕ). eqb n 0) e
    ∙ sym (yes_zero (questions w (start t)) (number_positive NoSuchTask, (number_positive WrongState, (number_positive EarlierConflict, (number_positive CommutativeBusy, tt))))))

times_push : (s t : ℕ) (l : List ℕ) → times s (l ++ t ∷ []) ≡ times s l + cond (eqb t s) 1 0
times_push s t [] = go (eqb t s)
  where
    go : (b : Bool) → cond b 1 0 ≡ 0 + cond b 1 0
    go true = refl
    go false = refl
times_push s t (x ∷ l) = go (eqb x s) (times_push s t l)
  where
    go : (b : Bool) → times s (l ++ t ∷ []) ≡ times s l + cond (eqb t s) 1 0 → cond b (suc (times s (l ++ t ∷ []))) (times s (l ++ t ∷ [])) ≡ cond b (suc (times s l)) (times s l) + cond (eqb t s) 1 0
    go true ih = omega arith
    go false ih = ih

-- a test at one more number
more_below : (s t : ℕ) → (s ≡ t → ⊥) → ltb s (suc t) ≡ ltb s t
more_below s t n = go (cases_lt s t)
  where
    go : (s < t) ⊎ (t ≤ s) → ltb s (suc t) ≡ ltb s t
    go (inl l) = lt-ltb s (suc t) (omega arith) ∙ sym (lt-ltb s t l)
    go (inr l) = le-ltb s (suc t) (omega arith) ∙ sym (le-ltb s t l)

-- the numbers below t that pass the test are these, each once
abbrev pub SoFar : (ℕ → Bool) → ℕ → List ℕ → Type 0
SoFar f t xs = (length xs ≤ t) × (length xs ≡ tally t f) × ((s : ℕ) → times s xs ≡ cond (ltb s t && f s) 1 0)

module _ (f : ℕ → Bool) (t : ℕ) (xs : List ℕ) (so : SoFar f t xs) where
  pub so_far_skip : f t ≡ false → SoFar f (t + 1) xs
  so_far_skip e =
      subst (λ (x : ℕ). SoFar f x xs) (sym (add-one t))
      ((let le = so.0 in omega arith, so.1 ∙ sym (cond-false (f t) (suc (tally t f)) (tally t f) e), λ s. so.2 s ∙ ap (λ (b : Bool). cond b 1 0) (same s (cases_eq s t))))
    where
      same : (s : ℕ) → (s ≡ t) ⊎ (s ≡ t → ⊥) → (ltb s t && f s) ≡ (ltb s (suc t) && f s)
      same s (inl q) =
          ap (λ (b : Bool). ltb s t && b) (ap f q ∙ e) ∙ (and_right (ltb s t) false refl ∙ sym (ap (λ (b : Bool). ltb s (suc t) && b) (ap f q ∙ e) ∙ and_right (ltb s (suc t)) false refl))
      same s (inr q) = ap (λ (b : Bool). b && f s) (sym (more_below s t q))

  pub so_far_add : f t ≡ true → SoFar f (t + 1) (xs ++ t ∷ [])
  so_far_add e =
      subst (λ (x : ℕ). SoFar f x (xs ++ t ∷ [])) (sym (add-one t))
      ((let le = so.0 in rw longer (omega arith), counted, λ s. times_push s t xs ∙ (ap (λ (m : ℕ). m + cond (eqb t s) 1 0) (so.2 s) ∙ once s (cases_eq s t))))
    where
      longer : length (xs ++ t ∷ []) ≡ length xs + 1
      longer = length-append xs (t ∷ [])

      counted : length (xs ++ t ∷ []) ≡ cond (f t) (suc (tally t f)) (tally t f)
      counted = longer ∙ (add-one (length xs) ∙ (ap suc so.1 ∙ sym (cond-true (f t) (suc (tally t f)) (tally t f) e)))

      once : (s : ℕ) → (s ≡ t) ⊎ (s ≡ t → ⊥) → cond (ltb s t && f s) 1 0 + cond (eqb t s) 1 0 ≡ cond (ltb s (suc t) && f s) 1 0
      once s (inl q) = rw (le-ltb s t (omega arith), eq-eqb t s (sym q), lt-ltb s (suc t) (omega arith), ap f q ∙ e) refl
      once s (inr q) =
          ap (λ (m : ℕ). cond (ltb s t && f s) 1 0 + m) (cond-false (eqb t s) 1 0 (ne_eqb t s (λ p. q (sym p))))
          ∙ (plus_none ∙ ap (λ (b : Bool). cond (b && f s) 1 0) (sym (more_below s t q)))
        where
          plus_none : cond (ltb s t && f s) 1 0 + 0 ≡ cond (ltb s t && f s) 1 0
          plus_none = omega arith
