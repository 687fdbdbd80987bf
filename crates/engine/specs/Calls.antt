-- What a single call says beside its entry of a run.
-- Assumes nothing.
use Rattle.std.specs.Prelude.{◌≡◌, ℕ, false, List, take, drop, None, Ok, Err, Result}
use Rattle.order.specs.Questions as rules
use Rattle.order.specs.Questions.{start, all_yes, first_number, accepted}
use Rattle.order.specs.Ready.{Startable}
use Rattle.order.specs.Records.{tally}
use Rattle.order.specs.Tasks.{World, count}
use Rattle.stores.specs.Fault.{Verdict}
use Rattle.promise.specs.Runs.{all_questions, store_questions}
use Rattle.engine.specs.declared.refusal.Refusal.{Refusal}
use Rattle.engine.specs.Numbers.{number_of}
use Rattle.engine.specs.Run.{is_open, Blames}

-- what ready makes of the caller's list: it fills as many places as there are tasks that may start and leaves the others, or
-- all of them where it is refused
abbrev pub Filled : World → List ℕ → Result ℕ Refusal → List ℕ → Type 0
Filled w before (Ok n) after =
    (n ≡ tally (count w) (λ t. accepted w (start t)))
    × Startable w (take n after)
    × (drop n after ≡ drop n before)
Filled w before (Err why) after = after ≡ before

-- the order rules were asked first, before a store with the verdict v: where they accept, what the store is asked decides; a
-- refusal is the first no, and blames no store
abbrev pub Admitted : {U : Type 0} → World → Verdict → rules.Call → Result U Refusal → Type 0
Admitted w v k (Ok u) =
    (all_yes (all_questions w (is_open v) k) ≡ all_yes (store_questions (is_open v) k))
    × (first_number (all_questions w (is_open v) k) ≡ first_number (store_questions (is_open v) k))
Admitted w v k (Err why) =
    (all_yes (all_questions w (is_open v) k) ≡ false)
    × (first_number (all_questions w (is_open v) k) ≡ number_of why)
    × Blames None why
    × Blames v why
