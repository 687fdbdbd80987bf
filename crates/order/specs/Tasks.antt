-- The tasks: their tree, states and holdings; ancestors, program order between tasks, deep completion, and what is held now.
-- A task is a number; every task ever created stays.
-- Assumes nothing.
use Rattle.std.specs.Prelude.{ℕ, zero, suc, Bool, true, false, cond, not, ◌&&◌, ◌||◌, List, [], ◌∷◌, ◌++◌, length, None, Option, ◌==◌, nat_lt}
use Rattle.kinds.specs.declared.holding.Holding.{Holding}
use Rattle.kinds.specs.declared.kind.Kind.TheVariants.{Inout}
use Rattle.order.specs.declared.state.State.{State}
use Rattle.order.specs.declared.state.State.TheVariants.{Created, Running, Waiting, Finished}
use Rattle.kinds.specs.Kinds.{strongly}

-- a test for each state
abbrev pub is_created : State → Bool
is_created Created = true
is_created Running = false
is_created Waiting = false
is_created Finished = false

abbrev pub is_running : State → Bool
is_running Created = false
is_running Running = true
is_running Waiting = false
is_running Finished = false

abbrev pub is_waiting : State → Bool
is_waiting Created = false
is_waiting Running = false
is_waiting Waiting = true
is_waiting Finished = false

abbrev pub is_finished : State → Bool
is_finished Created = false
is_finished Running = false
is_finished Waiting = false
is_finished Finished = true

-- waits: whether its holdings last until it is deeply complete; hold: what was asked for and not released, cell by cell
pub record Task : Type 0 where
  pub waits : Bool
  pub state : State
  pub hold : ℕ → Option Holding

-- tree: the parent of each task but task 0, that of the newest first
pub record World : Type 0 where
  pub cells : ℕ
  pub tree : List ℕ
  pub task : ℕ → Task

-- how many tasks were ever created, task 0 among them; they are the numbers below it
abbrev pub count : World → ℕ
count w = suc (length w.tree)

-- the state of t
abbrev pub state_of : World → ℕ → State
state_of w t = (w.task t).state

-- the test holds of every number below n
abbrev pub every : ℕ → (ℕ → Bool) → Bool
every zero f = true
every (suc n) f = f n && every n f

-- the test holds of every task
abbrev pub every_task : World → (ℕ → Bool) → Bool
every_task w f = every (count w) f

-- the test holds of every cell
abbrev pub every_cell : World → (ℕ → Bool) → Bool
every_cell w f = every w.cells f

-- the parent of t; 0 for task 0, which has none
abbrev pub parent_of : List ℕ → ℕ → ℕ
parent_of [] t = 0
parent_of (p ∷ tree) t = cond (t == suc (length tree)) p (parent_of tree t)

-- the tasks that lead from below task 0 down to t, t last
abbrev pub path : List ℕ → ℕ → List ℕ
path [] t = []
path (p ∷ tree) t = cond (t == suc (length tree)) (path tree p ++ t ∷ []) (path tree t)

-- the first path lies above the second: the second begins with it and goes on
abbrev pub above : List ℕ → List ℕ → Bool
above [] [] = false
above [] (y ∷ q) = true
above (x ∷ p) [] = false
above (x ∷ p) (y ∷ q) = x == y && above p q

-- the paths part, and there the first has the lower number
abbrev pub parts_lower : List ℕ → List ℕ → Bool
parts_lower [] q = false
parts_lower (x ∷ p) [] = false
parts_lower (x ∷ p) (y ∷ q) = nat_lt x y || (x == y && parts_lower p q)

-- u is t's parent, or its parent's parent, and so on
abbrev pub ancestor : World → ℕ → ℕ → Bool
ancestor w u t = above (path w.tree u) (path w.tree t)

-- neither is an ancestor of the other, and below their nearest common ancestor the branch to u has the lower number
abbrev pub earlier : World → ℕ → ℕ → Bool
earlier w u t = parts_lower (path w.tree u) (path w.tree t)

-- t is a child of p
abbrev pub child : World → ℕ → ℕ → Bool
child w p t = nat_lt 0 t && parent_of w.tree t == p

-- it and all its descendants are finished
abbrev pub deeply_complete : World → ℕ → Bool
deeply_complete w t = is_finished (state_of w t) && every_task w (λ u. not (ancestor w t u) || is_finished (state_of w u))

-- its holdings have ended: it is finished, and does not wait for its descendants or has them all complete
abbrev pub let_go : World → ℕ → Bool
let_go w t = is_finished (state_of w t) && (not (w.task t).waits || deeply_complete w t)

-- what t holds of the cell c now
abbrev pub holds : World → ℕ → ℕ → Option Holding
holds w t c = cond (let_go w t) None ((w.task t).hold c)

-- a new world of n cells: task 0 alone, running, its wait flag 0, holding strong inout on every cell
abbrev pub new : ℕ → World
new n = record {
  cells = n;
  tree = [];
  task = λ t. record { waits = false; state = Running; hold = λ c. cond (nat_lt c n) (strongly Inout) None };
}
