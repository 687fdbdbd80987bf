-- The order rules asked before the store.
-- Assumes nothing.
use Rattle.std.proofs.Common.{◌≡◌, Bool, true, false, cond, ◌&&◌, List, [], ◌∷◌, ◌++◌, None, Ok, Err, Result, sym, refl, ap, ◌∙◌, subst}
use Rattle.order.specs.declared.refusal.Refusal as order
use Rattle.order.specs.Questions as rules
use Rattle.order.specs.Questions.{Question, all_yes, first_number, questions, accepted, first_no, after}
use Rattle.order.specs.Tasks.{World}
use Rattle.order.specs.View.{answer_number, Did}
use Rattle.order.proofs.Answering.{did}
use Rattle.stores.specs.Fault.{Verdict}
use Rattle.promise.specs.Runs.{store_questions}
use Rattle.engine.specs.declared.refusal.Refusal.{Refusal}
use Rattle.engine.specs.declared.refusal.Refusal.TheVariants.{Rule}
use Rattle.engine.specs.Numbers.{number_of}
use Rattle.engine.specs.Run.{Blames, is_open}
use Rattle.engine.specs.Calls.{Admitted}

all_append : (qs more : List Question) → all_yes (qs ++ more) ≡ (all_yes qs && all_yes more)
all_append [] more = refl
all_append (q ∷ qs) more = go q.answer (all_append qs more)
  where
    go : (a : Bool) → all_yes (qs ++ more) ≡ (all_yes qs && all_yes more) → (a && all_yes (qs ++ more)) ≡ ((a && all_yes qs) && all_yes more)
    go true e = e
    go false e = refl

first_append : (qs more : List Question) → first_number (qs ++ more) ≡ cond (all_yes qs) (first_number more) (first_number qs)
first_append [] more = refl
first_append (q ∷ qs) more = go q.answer (first_append qs more)
  where
    go :
        (a : Bool) →
        first_number (qs ++ more) ≡ cond (all_yes qs) (first_number more) (first_number qs) →
        cond a (first_number (qs ++ more)) q.number ≡ cond (a && all_yes qs) (first_number more) (cond a (first_number qs) q.number)
    go true e = e
    go false e = refl

-- the call leaves the tasks as they are
abbrev Still : World → rules.Call → Type 0
Still w k = w ≡ after w k

did_still : {U : Type 0} (w : World) (k : rules.Call) (r : Result U order.Refusal) → answer_number r ≡ first_no w k → Still w k → Did w k r w
did_still {U} w k (Ok u) e still = did {U = U} w w k (Ok u) e still
did_still {U} w k (Err why) e still = did {U = U} w w k (Err why) e refl

pub then_store :
    {U : Type 0} (w : World) (v : Verdict) (k : rules.Call) (r : Result U order.Refusal) (u : U) →
    answer_number r ≡ first_no w k →
    Still w k →
    r ≡ Ok u →
    Admitted {U = U} w v k (Ok u)
then_store {U} w v k r u e still is =
    let P : Result U order.Refusal → Type 0 = λ a. Did w k a w in
    let all : accepted w k ≡ true = (subst P is (did_still w k r e still)).0 in
    let more = store_questions (is_open v) k in (
      all_append (questions w k) more ∙ ap (λ a. a && all_yes more) all,
      first_append (questions w k) more ∙ ap (λ a. cond a (first_number more) (first_no w k)) all,
    )

blames_none : (why : order.Refusal) (e : Refusal) → e ≡ Rule why → (v : Verdict) → Blames v e
blames_none why e is v = subst (λ (x : Refusal). Blames v x) (sym is) tt

pub by_rule :
    {U : Type 0} (w : World) (v : Verdict) (k : rules.Call) (r : Result U order.Refusal) (why : order.Refusal) (a : Result U Refusal) (e : Refusal) →
    answer_number r ≡ first_no w k →
    Still w k →
    r ≡ Err why →
    a ≡ Err e →
    e ≡ Rule why →
    Admitted {U = U} w v k a
by_rule {U} w v k r why a e same still is err rule =
    let P : Result U order.Refusal → Type 0 = λ x. Did w k x w in
    let Q : Result U Refusal → Type 0 = λ x. Admitted {U = U} w v k x in
    let no = subst P is (did_still w k r same still) in
    let more = store_questions (is_open v) k in
    let none : accepted w k ≡ false = no.0 in
    subst Q (sym err) (
      all_append (questions w k) more ∙ ap (λ x. x && all_yes more) none,
      first_append (questions w k) more
          ∙ ap (λ x. cond x (first_number more) (first_no w k)) none
          ∙ sym no.1
          ∙ ap number_of (sym rule),
      blames_none why e rule None,
      blames_none why e rule v,
    )
