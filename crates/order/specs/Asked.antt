-- The questions that begin several calls, and those of a create.
use Rattle.std.specs.Prelude.{◌≡◌, ℕ, false, List, [], ◌∷◌}
use Rattle.kinds.specs.declared.access.Access.{Access}
use Rattle.order.specs.declared.refusal.Refusal.TheVariants.{NoSuchTask, WrongState}
use Rattle.order.specs.declared.runs.Runs.{Runs}
use Rattle.order.specs.Holdings.{held, Reach}
use Rattle.kinds.specs.Kinds.{asked}
use Rattle.order.specs.Questions.{Question, ask, create, questions, task_exists}
use Rattle.order.specs.Tasks.{World, is_running, state_of}

-- t was created and is running
abbrev pub running_questions : World → ℕ → List Question
running_questions w t = ask NoSuchTask (task_exists w t) ∷ ask WrongState (is_running (state_of w t)) ∷ []

-- a create is asked nothing of its wait flag
abbrev pub create_questions : World → ℕ → List Access → List Question
create_questions w p list = questions w (create p false list)

-- the runs hold what the accesses ask for, within the cells
abbrev pub Asks : ℕ → List Access → Runs → Type 0
Asks cells list s = ((c : ℕ) → held s c ≡ asked list c) × Reach s cells
