-- The calls, the questions that each is put, and what an accepted call makes of the tasks.
-- Assumes nothing.
use Rattle.std.specs.Prelude.{ℕ, zero, suc, Bool, true, false, cond, not, ◌&&◌, ◌||◌, List, [], ◌∷◌, length, Some, None, Option, ◌==◌, nat_le, nat_lt}
use Rattle.kinds.specs.declared.access.Access.{Access}
use Rattle.kinds.specs.declared.deed.Deed.{Deed}
use Rattle.kinds.specs.declared.holding.Holding.{Holding}
use Rattle.order.specs.declared.refusal.Refusal.{Refusal}
use Rattle.order.specs.declared.refusal.Refusal.TheVariants.{
  NoSuchTask,
  WrongState,
  TooManyTasks,
  TooManyAccesses,
  BadRegion,
  UnknownKind,
  CommutativeParent,
  NotCovered,
  EarlierConflict,
  CommutativeBusy,
  ChildrenOpen,
  NotHeld,
  TooManyRuns,
  NoSuchCell,
  NoFittingHolding,
  DescendantConflict,
  ShortList,
}
use Rattle.order.specs.declared.state.State.{State}
use Rattle.order.specs.declared.state.State.TheVariants.{Created, Running, Waiting, Finished}
use Rattle.kinds.specs.Kinds.{
  equal,
  strongly,
  kind_of,
  meets,
  if_strong,
  allows,
  covered_by,
  is_held,
  is_commutative,
  within,
  holding_of,
  asked,
}
use Rattle.order.specs.Refusals.{refusal_number}
use Rattle.order.specs.Tasks.{
  Task,
  World,
  is_created,
  is_running,
  is_waiting,
  count,
  state_of,
  every_task,
  every_cell,
  ancestor,
  earlier,
  child,
  deeply_complete,
  holds,
}

-- a call, without the value that a write sets or an update adds: no question looks at it
pub data Call : Type 0 where
  -- parent, wait flag, accesses
  create : ℕ → Bool → List Access → Call
  start : ℕ → Call
  finish : ℕ → Call
  wait : ℕ → Call
  resume : ℕ → Call
  -- task, first cell, first cell not released
  release : ℕ → ℕ → ℕ → Call
  -- what is done, by which task, to which cell
  step : Deed → ℕ → ℕ → Call
  look : ℕ → Call
  -- places in the caller's list
  ready : ℕ → Call

-- tasks ever created, and places that a ready list needs
abbrev pub most_tasks : ℕ
most_tasks = 64

-- accesses of one create
abbrev pub most_accesses : ℕ
most_accesses = 8

-- runs that a task holds after a release
abbrev pub most_runs : ℕ
most_runs = 16

-- the task was created
abbrev pub task_exists : World → ℕ → Bool
task_exists w t = nat_lt t (count w)

-- the cell is there
abbrev pub cell_exists : World → ℕ → Bool
cell_exists w c = nat_lt c w.cells

-- the region has a cell and ends at the last one at most
abbrev pub region_lies : World → ℕ → ℕ → Bool
region_lies w lo hi = nat_lt lo hi && nat_le hi w.cells

-- so do the regions of all accesses, whatever their codes
abbrev pub regions_lie : World → List Access → Bool
regions_lie w [] = true
regions_lie w (a ∷ more) = region_lies w a.lo a.hi && regions_lie w more

-- every code stands for a kind
abbrev pub kinds_known : List Access → Bool
kinds_known [] = true
kinds_known (a ∷ more) = is_held (holding_of a.code) && kinds_known more

-- t holds no cell as commutative
abbrev pub holds_no_commutative : World → ℕ → Bool
holds_no_commutative w t = every_cell w (λ c. not (is_commutative (holds w t c)))

-- the parent holds a covering kind on every cell of the combined accesses
abbrev pub covers_all : World → ℕ → List Access → Bool
covers_all w p list = every_cell w (λ c. covered_by (holds w p c) (asked list c))

-- no earlier task, in any state, holds a kind in conflict with what t holds strongly
abbrev pub no_earlier_conflict : World → ℕ → Bool
no_earlier_conflict w t =
    every_task w (λ u. not (earlier w u t) || every_cell w (λ c. not (meets (holds w u c) (if_strong (holds w t c)))))

-- no other task past Created holds commutative on a cell that t holds commutative
abbrev pub commutative_free : World → ℕ → Bool
commutative_free w t =
    every_task w
    (λ u. (u == t || is_created (state_of w u)) || every_cell w (λ c. not (is_commutative (holds w u c) && is_commutative (holds w t c))))

-- every child of t is deeply complete
abbrev pub children_complete : World → ℕ → Bool
children_complete w t = every_task w (λ u. not (child w t u) || deeply_complete w u)

-- t holds every cell of the region
abbrev pub holds_region : World → ℕ → ℕ → ℕ → Bool
holds_region w t lo hi = every_cell w (λ c. not (within lo hi c) || is_held (holds w t c))

-- what is left of holdings without a region
abbrev pub without : ℕ → ℕ → (ℕ → Option Holding) → ℕ → Option Holding
without lo hi hold c = cond (within lo hi c) None (hold c)

-- neither cell is held, or both are with one kind and strength
abbrev pub alike : Option Holding → Option Holding → Bool
alike None None = true
alike None (Some b) = false
alike (Some a) None = false
alike (Some a) (Some b) = equal a b

-- a run, a longest stretch of cells held alike, begins at the cell
abbrev pub run_begins : (ℕ → Option Holding) → ℕ → Bool
run_begins hold zero = is_held (hold 0)
run_begins hold (suc c) = is_held (hold (suc c)) && not (alike (hold c) (hold (suc c)))

-- how many runs begin below the cell n
abbrev pub run_count : (ℕ → Option Holding) → ℕ → ℕ
run_count hold zero = 0
run_count hold (suc c) = cond (run_begins hold c) (suc (run_count hold c)) (run_count hold c)

-- without the region t would hold few enough runs
abbrev pub few_runs_remain : World → ℕ → ℕ → ℕ → Bool
few_runs_remain w t lo hi = nat_le (run_count (without lo hi (holds w t)) w.cells) most_runs

-- t holds the cell strongly with a kind that fits the step
abbrev pub holds_fitting : World → Deed → ℕ → ℕ → Bool
holds_fitting w d t c = allows (if_strong (holds w t c)) d

-- no descendant of t, in any state, holds there a kind in conflict with the step
abbrev pub no_descendant_conflict : World → Deed → ℕ → ℕ → Bool
no_descendant_conflict w d t c =
    every_task w (λ u. not (ancestor w t u) || not (meets (holds w u c) (strongly (kind_of d))))

-- a question: the number that a call answers to a no, and the answer
pub record Question : Type 0 where
  pub number : ℕ
  pub answer : Bool

-- a question by the refusal that a no gives
abbrev pub ask : Refusal → Bool → Question
ask why answer = record { number = refusal_number why; answer = answer }

-- all questions are answered yes
abbrev pub all_yes : List Question → Bool
all_yes [] = true
all_yes (q ∷ more) = q.answer && all_yes more

-- the number of the first question answered no, 0 where there is none
abbrev pub first_number : List Question → ℕ
first_number [] = 0
first_number (q ∷ more) = cond q.answer (first_number more) q.number

-- the questions that a call is put, in their order
abbrev pub questions : World → Call → List Question
questions w (create p waits list) =
    ask NoSuchTask (task_exists w p)
    ∷ ask WrongState (is_running (state_of w p))
    ∷ ask TooManyTasks (nat_lt (count w) most_tasks)
    ∷ ask TooManyAccesses (nat_le (length list) most_accesses)
    ∷ ask BadRegion (regions_lie w list)
    ∷ ask UnknownKind (kinds_known list)
    ∷ ask CommutativeParent (holds_no_commutative w p)
    ∷ ask NotCovered (covers_all w p list)
    ∷ []
questions w (start t) =
    ask NoSuchTask (task_exists w t)
    ∷ ask WrongState (is_created (state_of w t))
    ∷ ask EarlierConflict (no_earlier_conflict w t)
    ∷ ask CommutativeBusy (commutative_free w t)
    ∷ []
questions w (finish t) = ask NoSuchTask (task_exists w t) ∷ ask WrongState (is_running (state_of w t)) ∷ []
questions w (wait t) = ask NoSuchTask (task_exists w t) ∷ ask WrongState (is_running (state_of w t)) ∷ []
questions w (resume t) =
    ask NoSuchTask (task_exists w t)
    ∷ ask WrongState (is_waiting (state_of w t))
    ∷ ask ChildrenOpen (children_complete w t)
    ∷ []
questions w (release t lo hi) =
    ask NoSuchTask (task_exists w t)
    ∷ ask WrongState (is_running (state_of w t))
    ∷ ask BadRegion (region_lies w lo hi)
    ∷ ask NotHeld (holds_region w t lo hi)
    ∷ ask TooManyRuns (few_runs_remain w t lo hi)
    ∷ []
questions w (step d t c) =
    ask NoSuchTask (task_exists w t)
    ∷ ask WrongState (is_running (state_of w t))
    ∷ ask NoSuchCell (cell_exists w c)
    ∷ ask NoFittingHolding (holds_fitting w d t c)
    ∷ ask DescendantConflict (no_descendant_conflict w d t c)
    ∷ []
questions w (look c) = ask NoSuchCell (cell_exists w c) ∷ []
questions w (ready places) = ask ShortList (nat_le most_tasks places) ∷ []

-- the order rules accept the call
abbrev pub accepted : World → Call → Bool
accepted w k = all_yes (questions w k)

-- what a call answers that the order rules refuse, 0 where they accept it
abbrev pub first_no : World → Call → ℕ
first_no w k = first_number (questions w k)

-- what an accepted call changes: a task is born with these holdings, turns to a state, lets go of a region, or nothing
pub data Change : Type 0 where
  birth : ℕ → Bool → (ℕ → Option Holding) → Change
  turn : ℕ → State → Change
  letting_go : ℕ → ℕ → ℕ → Change
  nothing : Change

-- what the call changes once it is accepted
abbrev pub change : Call → Change
change (create p waits list) = birth p waits (asked list)
change (start t) = turn t Running
change (finish t) = turn t Finished
change (wait t) = turn t Waiting
change (resume t) = turn t Running
change (release t lo hi) = letting_go t lo hi
change (step d t c) = nothing
change (look c) = nothing
change (ready places) = nothing

-- the function with the value a at t
abbrev pub put : {A : Type 0} → (ℕ → A) → ℕ → A → ℕ → A
put f t a x = cond (x == t) a (f x)

-- the world with another record for t, and every other as it was
abbrev pub put_task : World → ℕ → Task → World
put_task w t k = record { cells = w.cells; tree = w.tree; task = put w.task t k }

-- a task as it is created
abbrev pub newborn : Bool → (ℕ → Option Holding) → Task
newborn waits hold = record { waits = waits; state = Created; hold = hold }

-- the task in another state
abbrev pub turned : Task → State → Task
turned k s = record { waits = k.waits; state = s; hold = k.hold }

-- the task without what it holds of the region
abbrev pub lightened : Task → ℕ → ℕ → Task
lightened k lo hi = record { waits = k.waits; state = k.state; hold = without lo hi k.hold }

-- the tasks after the change; a new task gets the number of tasks before it
abbrev pub changed : World → Change → World
changed w (birth p waits hold) = record { cells = w.cells; tree = p ∷ w.tree; task = put w.task (count w) (newborn waits hold) }
changed w (turn t s) = put_task w t (turned (w.task t) s)
changed w (letting_go t lo hi) = put_task w t (lightened (w.task t) lo hi)
changed w nothing = w

-- what an accepted call makes of the tasks
abbrev pub after : World → Call → World
after w k = changed w (change k)
