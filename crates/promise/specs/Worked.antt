-- Worked cases: calls on a new world of four cells, and the answer to the last one.
-- Assumes nothing.
use Rattle.std.specs.Prelude.{◌≡◌, ℕ, ◌+◌, true, false, cond, List, [], ◌∷◌, Some, None, Option}
use Rattle.kinds.specs.declared.access.Access.{Access}
use Rattle.kinds.specs.declared.deed.Deed.TheVariants.{Reading, Writing}
use Rattle.kinds.specs.declared.kind.Kind.TheVariants.{Inout}
use Rattle.order.specs.declared.refusal.Refusal.TheVariants.{
  WrongState,
  CommutativeParent,
  NotCovered,
  EarlierConflict,
  CommutativeBusy,
  NoFittingHolding,
  DescendantConflict,
}
use Rattle.kinds.specs.Kinds.{strongly}
use Rattle.order.specs.Questions.{Call, create, start, finish, release, step, accepted, first_no, after}
use Rattle.order.specs.Refusals.{refusal_number}
use Rattle.order.specs.Tasks.{World, new, holds}
use Rattle.promise.specs.Program.{Entry, took, refused, done, made, value, program_order}
use Rattle.promise.specs.Runs.{Runs}

-- what the call k answers after the calls before it: the number of its first no, 0 where it is accepted. Nothing unless each of
-- those before it is accepted
abbrev pub answer : World → List Call → Call → Option ℕ
answer w [] k = Some (first_no w k)
answer w (j ∷ js) k = cond (accepted w j) (answer (after w j) js k) None

-- accesses by their codes, to the cells from l up to, not including, h
abbrev pub in_on : ℕ → ℕ → Access
in_on l h = record { lo = l; hi = h; code = 1 }

abbrev pub out_on : ℕ → ℕ → Access
out_on l h = record { lo = l; hi = h; code = 2 }

abbrev pub inout_on : ℕ → ℕ → Access
inout_on l h = record { lo = l; hi = h; code = 3 }

abbrev pub commutative_on : ℕ → ℕ → Access
commutative_on l h = record { lo = l; hi = h; code = 5 }

abbrev pub weakin_on : ℕ → ℕ → Access
weakin_on l h = record { lo = l; hi = h; code = 6 }

abbrev pub weakinout_on : ℕ → ℕ → Access
weakinout_on l h = record { lo = l; hi = h; code = 8 }

-- a history with its answers: a reader waits for the writer before it until that releases the cell
abbrev pub handing_over : List (Entry ℕ)
handing_over =
    took (create 0 false (inout_on 0 2 ∷ [])) 0 (made 1)
    ∷ took (create 0 false (in_on 1 3 ∷ [])) 0 (made 2)
    ∷ refused (start 2) true (refusal_number EarlierConflict)
    ∷ took (start 1) 0 done
    ∷ took (step Writing 1 1) 7 done
    ∷ refused (step Reading 2 1) true (refusal_number WrongState)
    ∷ took (release 1 1 2) 0 done
    ∷ took (start 2) 0 done
    ∷ took (step Reading 2 1) 0 (value 7)
    ∷ refused (step Writing 0 1) true (refusal_number DescendantConflict)
    ∷ []

pub record WorkedCases : Type 0 where
  -- task 1 holds inout and has not started; the in of a child below the later, started weakinout waits for it
  pub weak_bars :
      answer (new 4)
      (create 0 false (inout_on 0 2 ∷ []) ∷ create 0 false (weakinout_on 0 2 ∷ []) ∷ start 2 ∷ create 2 false (in_on 0 1 ∷ []) ∷ [])
      (start 3)
      ≡ Some (refusal_number EarlierConflict)
  -- a weakinout parent that has made a child with out on the first cell and finished bars the second cell no more
  pub finish_lets_go :
      answer (new 4)
      (
      create 0 false (weakinout_on 0 2 ∷ [])
      ∷ start 1
      ∷ create 1 false (out_on 0 1 ∷ [])
      ∷ finish 1
      ∷ create 0 false (in_on 1 2 ∷ [])
      ∷ []
      )
      (start 3)
      ≡ Some 0
  -- but with its wait flag it does, since the child is not complete
  pub wait_flag_keeps :
      answer (new 4)
      (
      create 0 true (weakinout_on 0 2 ∷ [])
      ∷ start 1
      ∷ create 1 false (out_on 0 1 ∷ [])
      ∷ finish 1
      ∷ create 0 false (in_on 1 2 ∷ [])
      ∷ []
      )
      (start 3)
      ≡ Some (refusal_number EarlierConflict)
  -- of two commutative holders of a cell either starts first, and the other then waits until it finishes
  pub commutative_one_at_a_time :
      answer (new 4) (create 0 false (commutative_on 0 1 ∷ []) ∷ create 0 false (commutative_on 0 1 ∷ []) ∷ start 2 ∷ []) (start 1)
      ≡ Some (refusal_number CommutativeBusy)
  pub commutative_goes_on :
      answer (new 4) (create 0 false (commutative_on 0 1 ∷ []) ∷ create 0 false (commutative_on 0 1 ∷ []) ∷ start 2 ∷ finish 2 ∷ []) (start 1) ≡ Some 0
  -- a commutative holder makes no child, not even one without accesses
  pub commutative_childless :
      answer (new 4) (create 0 false (commutative_on 0 1 ∷ []) ∷ start 1 ∷ []) (create 1 false []) ≡ Some (refusal_number CommutativeParent)
  -- weakin and out on one cell combine to strong inout, which a read fits
  pub combined : holds (after (new 4) (create 0 false (weakin_on 0 1 ∷ out_on 0 1 ∷ []))) 1 0 ≡ strongly Inout
  pub combined_reads : answer (new 4) (create 0 false (weakin_on 0 1 ∷ out_on 0 1 ∷ []) ∷ start 1 ∷ []) (step Reading 1 0) ≡ Some 0
  -- an out task may not read
  pub out_reads_not : answer (new 4) (create 0 false (out_on 0 1 ∷ []) ∷ start 1 ∷ []) (step Reading 1 0) ≡ Some (refusal_number NoFittingHolding)
  -- in does not cover out
  pub in_covers_not_out :
      answer (new 4) (create 0 false (in_on 0 1 ∷ []) ∷ start 1 ∷ []) (create 1 false (out_on 0 1 ∷ [])) ≡ Some (refusal_number NotCovered)
  -- there are histories that run by the rules: this one, and its program order
  pub hands_over : Runs 0 ◌+◌ (new 4) (0 ∷ 0 ∷ 0 ∷ 0 ∷ []) handing_over (0 ∷ 7 ∷ 0 ∷ 0 ∷ [])
  pub handed_in_order :
      program_order handing_over ≡ record { deed = Writing; cell = 1; value = 7 } ∷ record { deed = Reading; cell = 1; value = 7 } ∷ []
  -- program order is not the order of numbers: task 3, a child of task 1, comes before task 2
  pub nested_first :
      program_order {V = ℕ}
      (
      took (create 0 false []) 0 (made 1)
      ∷ took (create 0 false []) 0 (made 2)
      ∷ took (step Writing 2 0) 20 done
      ∷ took (step Writing 0 1) 30 done
      ∷ took (create 1 false []) 0 (made 3)
      ∷ took (step Writing 3 2) 10 done
      ∷ []
      )
      ≡ record { deed = Writing; cell = 2; value = 10 }
      ∷ record { deed = Writing; cell = 0; value = 20 }
      ∷ record { deed = Writing; cell = 1; value = 30 }
      ∷ []
