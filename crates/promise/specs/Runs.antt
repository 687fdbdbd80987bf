-- Histories that run by the rules.
-- Assumes nothing.
use Rattle.std.specs.Prelude.{◌≡◌, ℕ, Bool, true, false, List, [], ◌∷◌, ◌++◌, slice_index_or}
use Rattle.kinds.specs.declared.deed.Deed.TheVariants.{Reading, Writing, Updating}
use Rattle.order.specs.Questions.{
  Call,
  create,
  start,
  finish,
  wait,
  resume,
  release,
  step,
  look,
  ready,
  Question,
  all_yes,
  first_number,
  questions,
  after,
}
use Rattle.order.specs.Ready.{Startable}
use Rattle.order.specs.Tasks.{World, count}
use Rattle.promise.specs.Program.{Reply, done, made, value, listed, Entry, took, refused, do_step}

-- the number of the store's own refusal
abbrev pub store_number : ℕ
store_number = 17

-- a write and an update ask the store too, whether the cell is open
abbrev pub store_questions : Bool → Call → List Question
store_questions is_open (create p waits list) = []
store_questions is_open (start t) = []
store_questions is_open (finish t) = []
store_questions is_open (wait t) = []
store_questions is_open (resume t) = []
store_questions is_open (release t lo hi) = []
store_questions is_open (step Reading t c) = []
store_questions is_open (step Writing t c) = record { number = store_number; answer = is_open } ∷ []
store_questions is_open (step Updating t c) = record { number = store_number; answer = is_open } ∷ []
store_questions is_open (look c) = []
store_questions is_open (ready places) = []

-- all questions that a call is put: those of the order rules, then the store's
abbrev pub all_questions : World → Bool → Call → List Question
all_questions w is_open k = questions w k ++ store_questions is_open k

-- the tasks that a history makes
abbrev pub world : {V : Type 0} → World → List (Entry V) → World
world w [] = w
world w (refused k was_open n ∷ h) = world w h
world w (took k given reply ∷ h) = world (after w k) h

module _ {V : Type 0} (rest : V) (updated : V → V → V) where
  -- a taken call's reply is the one that the rules give, with the cells s before it
  abbrev pub Replied : World → List V → Call → Reply V → Type 0
  Replied w s (create p waits list) r = r ≡ made (count w)
  Replied w s (start t) r = r ≡ done
  Replied w s (finish t) r = r ≡ done
  Replied w s (wait t) r = r ≡ done
  Replied w s (resume t) r = r ≡ done
  Replied w s (release t lo hi) r = r ≡ done
  Replied w s (step Reading t c) r = r ≡ value (slice_index_or s c rest)
  Replied w s (step Writing t c) r = r ≡ done
  Replied w s (step Updating t c) r = r ≡ done
  Replied w s (look c) r = r ≡ value (slice_index_or s c rest)
  Replied w s (ready places) r = (l : List ℕ) × (r ≡ listed l) × Startable w l

  -- what a taken call makes of the cells
  abbrev pub cells_after : List V → Call → V → List V
  cells_after s (create p waits list) given = s
  cells_after s (start t) given = s
  cells_after s (finish t) given = s
  cells_after s (wait t) given = s
  cells_after s (resume t) given = s
  cells_after s (release t lo hi) given = s
  cells_after s (step d t c) given = do_step rest updated d c given s
  cells_after s (look c) given = s
  cells_after s (ready places) given = s

  -- from the tasks w and the cells s the history goes by the rules and leaves the cells f: a taken call is accepted, finds the
  -- store open, and has its right reply; a refused one has the number of its first no and alters nothing
  abbrev pub Runs : World → List V → List (Entry V) → List V → Type 0
  Runs w s [] f = s ≡ f
  Runs w s (refused k was_open n ∷ h) f =
      (all_yes (all_questions w was_open k) ≡ false) × (first_number (all_questions w was_open k) ≡ n) × Runs w s h f
  Runs w s (took k given r ∷ h) f = (all_yes (all_questions w true k) ≡ true) × Replied w s k r × Runs (after w k) (cells_after s k given) h f
