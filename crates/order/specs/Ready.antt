-- What a list of the tasks that may start holds.
use Rattle.std.specs.Prelude.{◌≡◌, ℕ, suc, true, false, cond, List, [], ◌∷◌, length, take, drop, Ok, Err, Result, ◌==◌}
use Rattle.order.specs.declared.refusal.Refusal.{Refusal}
use Rattle.order.specs.Questions.{accepted, first_no, ready, start}
use Rattle.order.specs.Records.{tally}
use Rattle.order.specs.Refusals.{refusal_number}
use Rattle.order.specs.Tasks.{World, count}

-- how often t stands in the list
abbrev pub times : ℕ → List ℕ → ℕ
times t [] = 0
times t (x ∷ more) = cond (x == t) (suc (times t more)) (times t more)

-- a list has each task once whose start would be accepted, and nothing else
abbrev pub Startable : World → List ℕ → Type 0
Startable w l = (t : ℕ) → times t l ≡ cond (accepted w (start t)) 1 0

-- a list was asked for and answered r: its first places hold each task that may start once and nothing else, in any order,
-- the others are as before; where it is too short it is left as it was
abbrev pub Listed : World → List ℕ → Result ℕ Refusal → List ℕ → Type 0
Listed w before (Ok n) after =
    (accepted w (ready (length before)) ≡ true)
    × (n ≡ tally (count w) (λ t. accepted w (start t)))
    × Startable w (take n after)
    × (drop n after ≡ drop n before)
Listed w before (Err why) after =
    (accepted w (ready (length before)) ≡ false) × (refusal_number why ≡ first_no w (ready (length before))) × (after ≡ before)
