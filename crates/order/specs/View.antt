-- A table read as the tasks of the rules, and what its calls answer and make of them.
use Rattle.std.specs.Prelude.{◌≡◌, ℕ, ◌<◌, true, false, cond, List, map, length, reverse, drop, None, Ok, Err, vec_items, Result, nat_lt, slice_index_or}
use Rattle.kinds.specs.declared.kind.Kind.TheVariants.{Inout}
use Rattle.order.specs.declared.refusal.Refusal.{Refusal}
use Rattle.order.specs.declared.state.State.TheVariants.{Running}
use Rattle.order.specs.declared.table.Table.{Table}
use Rattle.order.specs.declared.task.Task as code
use Rattle.kinds.specs.Kinds.{strongly}
use Rattle.order.specs.Refusals.{refusal_number}
use Rattle.order.specs.Tasks.{Task, World}
use Rattle.order.specs.Questions.{Call, accepted, first_no, after}
use Rattle.order.specs.Holdings.{held}

-- a record read as a task
abbrev pub task_of : code.Task → Task
task_of k = record { waits = k.waits; state = k.state; hold = held k.runs }

-- task 0 of a new table of n cells
abbrev pub root : ℕ → Task
root n = record { waits = false; state = Running; hold = λ c. cond (nat_lt c n) (strongly Inout) None }

-- the records read as a world: the parents of all but task 0, the newest first, and each task by its number
abbrev pub world_of : ℕ → List code.Task → World
world_of cells tasks =
    record {
      cells = cells;
      tree = reverse (drop 1 (map (λ k. k.parent) tasks));
      task = λ t. slice_index_or (map task_of tasks) t (root cells);
    }

abbrev pub view : Table → World
view b = world_of b.cells (vec_items b.tasks)

-- t is the number of a task in the table
abbrev pub Known : Table → ℕ → Type 0
Known b t = t < length (vec_items b.tasks)

-- k is the table's record of t
abbrev pub RecordOf : Table → ℕ → code.Task → Type 0
RecordOf b t k = k ≡ slice_index_or (vec_items b.tasks) t k

-- the number that an answer stands for: that of its refusal, or 0
abbrev pub answer_number : {U : Type 0} → Result U Refusal → ℕ
answer_number (Ok u) = 0
answer_number (Err why) = refusal_number why

-- a call in the world w was answered r by the rules and led to the world v:
-- accepted exactly when every question is answered yes, else the first no's number, and then nothing is altered
abbrev pub Did : {U : Type 0} → World → Call → Result U Refusal → World → Type 0
Did w k (Ok u) v = (accepted w k ≡ true) × (v ≡ after w k)
Did w k (Err why) v = (accepted w k ≡ false) × (refusal_number why ≡ first_no w k) × (v ≡ w)
