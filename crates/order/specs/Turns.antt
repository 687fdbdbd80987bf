-- What the calls of one task do to its record.
use Rattle.std.specs.Prelude.{◌≡◌, ℕ, Bool, true, false, not, ◌||◌, List, [], ◌∷◌, Ok, Err, Result, MatchResult, ◌==◌, nat_le}
use Rattle.order.specs.declared.refusal.Refusal.{Refusal}
use Rattle.order.specs.declared.refusal.Refusal.TheVariants.{WrongState, ChildrenOpen, NotHeld, TooManyRuns}
use Rattle.order.specs.declared.state.State.{State}
use Rattle.order.specs.declared.state.State.TheVariants.{Running, Waiting, Finished}
use Rattle.order.specs.declared.task.Task.{Task}
use Rattle.order.specs.declared.turns.Turn.{Turn}
use Rattle.order.specs.declared.turns.Turn.TheVariants.{Start, Finish, Wait, Resume}
use Rattle.order.specs.declared.runs.Runs.{Runs}
use Rattle.order.specs.Holdings.{held, Reach}
use Rattle.kinds.specs.Kinds.{is_held, within}
use Rattle.order.specs.Questions.{Question, ask, first_number, most_runs, run_count, without}
use Rattle.order.specs.Tasks.{every, is_created, is_running, is_waiting}
use Rattle.order.specs.View.{answer_number}

-- the task stands where the call needs it
abbrev pub may_turn : Turn → State → Bool
may_turn Start s = is_created s
may_turn Finish s = is_running s
may_turn Wait s = is_running s
may_turn Resume s = is_waiting s

-- the state that follows
abbrev pub turns_to : Turn → State
turns_to Start = Running
turns_to Finish = Finished
turns_to Wait = Waiting
turns_to Resume = Running

-- the record in another state
abbrev pub in_state : Task → State → Task
in_state k s = record { parent = k.parent; waits = k.waits; state = s; «open» = k.open; runs = k.runs }

-- the record k was put the call, answered r and is now j
abbrev pub Turned : Task → Turn → Result (Unit {0}) Refusal → Task → Type 0
Turned k c (Ok u) j = (may_turn c k.state ≡ true) × (j ≡ in_state k (turns_to c))
Turned k c (Err why) j = (may_turn c k.state ≡ false) × (why ≡ WrongState) × (j ≡ k)

-- what a resume asks of the record
abbrev pub resume_questions : Task → List Question
resume_questions k = ask WrongState (is_waiting k.state) ∷ ask ChildrenOpen (k.open == 0) ∷ []

-- what a release asks of the record of a task in a world of n cells
abbrev pub release_questions : Task → ℕ → ℕ → ℕ → List Question
release_questions k lo hi n =
    ask NotHeld (every n (λ c. not (within lo hi c) || is_held (held k.runs c)))
    ∷ ask TooManyRuns (nat_le (run_count (without lo hi (held k.runs)) n) most_runs)
    ∷ []

-- the record with other runs
abbrev pub with_runs : Task → Runs → Task
with_runs k s = record { parent = k.parent; waits = k.waits; state = k.state; «open» = k.open; runs = s }

-- the record j has the runs of k but for the region, and all else of k
abbrev pub Lighter : Task → ℕ → ℕ → ℕ → Task → Type 0
Lighter k lo hi n j = (j ≡ with_runs k j.runs) × ((c : ℕ) → held j.runs c ≡ without lo hi (held k.runs) c) × Reach j.runs n

-- a release was put to the record k, answered r and left j
abbrev pub Released : Task → ℕ → ℕ → ℕ → Result (Unit {0}) Refusal → Task → Type 0
Released k lo hi n r j = (answer_number r ≡ first_number (release_questions k lo hi n)) × MatchResult r (λ _. Lighter k lo hi n j) (λ _. j ≡ k)
