-- A new task: the questions of a create in their order, and the records with one more.
-- Assumes nothing.
use Rattle.std.proofs.Common.{◌≡◌, ℕ, ◌<◌, Bool, true, false, not, ◌&&◌, ltb, leb, List, [], ◌∷◌, length, get_or, Option, sym, refl, ap, ◌∙◌, arith}
use mathlib.Core.Path.{fun_ext}
use Rattle.std.proofs.lemmas.List.Recursion.{same_from_clauses}
use Rattle.std.proofs.lemmas.Bool.{lt-ltb}
use Rattle.std.specs.List.{list_all}
use Rattle.kinds.specs.declared.access.Access.{Access}
use Rattle.kinds.specs.declared.holding.Holding.{Holding}
use Rattle.order.specs.declared.refusal.Refusal.TheVariants.{TooManyTasks, TooManyAccesses, BadRegion, UnknownKind, CommutativeParent, NotCovered}
use Rattle.order.specs.declared.runs.Runs.{Runs}
use Rattle.order.specs.declared.task.Task.{Task}
use Rattle.order.specs.Asked.{running_questions, create_questions, Asks}
use Rattle.order.specs.Holdings.{held, Reach}
use Rattle.kinds.specs.Kinds.{asked, covered_by, holding_of, is_commutative, is_held}
use Rattle.order.specs.Questions.{
  Question,
  ask,
  covers_all,
  first_number,
  holds_no_commutative,
  kinds_known,
  most_accesses,
  most_tasks,
  region_lies,
  regions_lie,
}
use Rattle.order.specs.Records.{Sound}
use Rattle.order.specs.Tasks.{World, count, every, holds}
use Rattle.order.specs.View.{world_of}
use Rattle.order.proofs.Answering.{at_no, past_yes, past_running, running_parts}
use Rattle.order.proofs.Turning.{holds_read, running_within, runs_reach}
use Rattle.order.proofs.Viewed.{count_of}

-- the tests of all accesses
pub known_all : (list : List Access) → list_all (λ a. is_held (holding_of a.code)) list ≡ kinds_known list
known_all = same_from_clauses _ kinds_known (λ a b. is_held (holding_of a.code) && b) refl (λ _ _. refl) (λ _ _. refl)

pub lie_all : (w : World) (list : List Access) → list_all (λ a. region_lies w a.lo a.hi) list ≡ regions_lie w list
lie_all w = same_from_clauses _ (regions_lie w) (λ a b. region_lies w a.lo a.hi && b) refl (λ _ _. refl) (λ _ _. refl)

-- the questions of a create from each on, after those of a running parent
abbrev eighth_on : World → ℕ → List Access → List Question
eighth_on w p list = ask NotCovered (covers_all w p list) ∷ []

abbrev seventh_on : World → ℕ → List Access → List Question
seventh_on w p list = ask CommutativeParent (holds_no_commutative w p) ∷ eighth_on w p list

abbrev sixth_on : World → ℕ → List Access → List Question
sixth_on w p list = ask UnknownKind (kinds_known list) ∷ seventh_on w p list

abbrev fifth_on : World → ℕ → List Access → List Question
fifth_on w p list = ask BadRegion (regions_lie w list) ∷ sixth_on w p list

abbrev fourth_on : World → ℕ → List Access → List Question
fourth_on w p list = ask TooManyAccesses (leb (length list) most_accesses) ∷ fifth_on w p list

abbrev third_on : World → ℕ → List Access → List Question
third_on w p list = ask TooManyTasks (ltb (count w) most_tasks) ∷ fourth_on w p list

-- the answer to each where those before are answered yes
module _ (w : World) (p : ℕ) (list : List Access) where
  module _ (running : 0 ≡ first_number (running_questions w p)) where
    third : (n : ℕ) → n ≡ first_number (third_on w p list) → n ≡ first_number (create_questions w p list)
    third n e = past_running w p (third_on w p list) n running e

    module _ (room : ltb (count w) most_tasks ≡ true) where
      fourth : (n : ℕ) → n ≡ first_number (fourth_on w p list) → n ≡ first_number (create_questions w p list)
      fourth n e = third n (past_yes TooManyTasks (ltb (count w) most_tasks) (fourth_on w p list) n room e)

      module _ (few : leb (length list) most_accesses ≡ true) where
        fifth : (n : ℕ) → n ≡ first_number (fifth_on w p list) → n ≡ first_number (create_questions w p list)
        fifth n e = fourth n (past_yes TooManyAccesses (leb (length list) most_accesses) (fifth_on w p list) n few e)

        module _ (lie : regions_lie w list ≡ true) where
          sixth : (n : ℕ) → n ≡ first_number (sixth_on w p list) → n ≡ first_number (create_questions w p list)
          sixth n e = fifth n (past_yes BadRegion (regions_lie w list) (sixth_on w p list) n lie e)

          module _ (known : kinds_known list ≡ true) where
            seventh : (n : ℕ) → n ≡ first_number (seventh_on w p list) → n ≡ first_number (create_questions w p list)
            seventh n e = sixth n (past_yes UnknownKind (kinds_known list) (seventh_on w p list) n known e)

            pub commutative_parent : holds_no_commutative w p ≡ false → 7 ≡ first_number (create_questions w p list)
            commutative_parent e = seventh 7 (at_no CommutativeParent (holds_no_commutative w p) (eighth_on w p list) e)

            module _ (plain : holds_no_commutative w p ≡ true) where
              eighth : (n : ℕ) → n ≡ first_number (eighth_on w p list) → n ≡ first_number (create_questions w p list)
              eighth n e = seventh n (past_yes CommutativeParent (holds_no_commutative w p) (eighth_on w p list) n plain e)

              pub not_covered : covers_all w p list ≡ false → 8 ≡ first_number (create_questions w p list)
              not_covered e = eighth 8 (at_no NotCovered (covers_all w p list) [] e)

              pub all_asked : covers_all w p list ≡ true → 0 ≡ first_number (create_questions w p list)
              all_asked e = eighth 0 (past_yes NotCovered (covers_all w p list) [] 0 e refl)

module _ (cells : ℕ) (tasks : List Task) (sound : Sound cells tasks) where
  pub room_read : length tasks < 64 → ltb (count (world_of cells tasks)) most_tasks ≡ true
  room_read h = let n = count_of cells tasks sound.0 in lt-ltb (count (world_of cells tasks)) 64 (omega arith)

-- what the parent's record and the new runs say to the last two
module _ (cells : ℕ) (tasks : List Task) (sound : Sound cells tasks) (p : ℕ) (running : 0 ≡ first_number (running_questions (world_of cells tasks) p)) (k : Task) (r : k ≡ get_or tasks p k) where
  reads : holds (world_of cells tasks) p ≡ held k.runs
  reads = holds_read cells tasks sound p (running_within cells tasks sound p running) k r (running_parts (world_of cells tasks) p running).1

  -- from what the runs answer for any number of cells that they reach
  pub commutative_read :
      (b : Bool) →
      ((n : ℕ) → Reach k.runs n → b ≡ not (every n (λ c. not (is_commutative (held k.runs c))))) →
      b ≡ not (holds_no_commutative (world_of cells tasks) p)
  commutative_read b f =
      f cells (runs_reach cells tasks sound p (running_within cells tasks sound p running) k r)
      ∙ ap (λ (g : ℕ → Option Holding). not (every cells (λ c. not (is_commutative (g c))))) (sym reads)

  pub covers_read :
      (list : List Access) (s : Runs) →
      Asks cells list s →
      (b : Bool) →
      ((n : ℕ) → Reach s n → b ≡ every n (λ c. covered_by (held k.runs c) (held s c))) →
      b ≡ covers_all (world_of cells tasks) p list
  covers_read list s e b f =
      f cells e.1
      ∙ (ap (λ (g : ℕ → Option Holding). every cells (λ c. covered_by (held k.runs c) (g c))) (fun_ext e.0)
      ∙ ap (λ (g : ℕ → Option Holding). every cells (λ c. covered_by (g c) (asked list c))) (sym reads))
