-- Runs of calls on the tasks and a store: what each call answers, and what it makes of both.
-- Assumes nothing.
use Rattle.std.specs.Prelude.{◌≡◌, ℕ, Bool, true, false, List, [], ◌∷◌, map, length, take, Some, None, Ok, Err, Result, slice_index_or, slice_set}
use Rattle.kinds.specs.declared.deed.Deed.TheVariants.{Reading, Writing, Updating}
use Rattle.order.specs.Questions as rules
use Rattle.order.specs.Questions.{create, start, finish, wait, resume, release, step, look, ready, Question, all_yes, first_number, after}
use Rattle.order.specs.Tasks.{World, new, deeply_complete}
use Rattle.stores.specs.Fault.{Verdict}
use Rattle.promise.specs.Program as program
use Rattle.promise.specs.Program.{done, made, value, listed, Entry, program_order, Replays}
use Rattle.promise.specs.Promise.{GoesOn}
use Rattle.promise.specs.Runs.{all_questions, world, Replied}
use Rattle.engine.specs.declared.call.Call.{Call}
use Rattle.engine.specs.declared.call.Call.TheVariants.{
  Create,
  Start,
  Finish,
  Wait,
  Resume,
  Release,
  Read,
  Write,
  Update,
  Look,
  Ready,
}
use Rattle.engine.specs.declared.call.Reply.{Reply}
use Rattle.engine.specs.declared.call.Reply.TheVariants as reply
use Rattle.engine.specs.declared.call.Turn.{Turn}
use Rattle.engine.specs.declared.refusal.Refusal.{Refusal}
use Rattle.engine.specs.declared.refusal.Refusal.TheVariants.{Rule, Store}
use Rattle.engine.specs.Numbers.{number_of}

-- the call as the order rules see it, without a value
abbrev pub shape : {V : Type 0} → Call V → rules.Call
shape (Create p waits accesses) = create p waits accesses.now
shape (Start t) = start t
shape (Finish t) = finish t
shape (Wait t) = wait t
shape (Resume t) = resume t
shape (Release t lo hi) = release t lo hi
shape (Read t c) = step Reading t c
shape (Write t c v) = step Writing t c
shape (Update t c a) = step Updating t c
shape (Look c) = look c
shape (Ready places) = ready places

-- the value that a write sets or an update adds; at other calls, the one given
abbrev pub given : {V : Type 0} → V → Call V → V
given rest (Create p waits accesses) = rest
given rest (Start t) = rest
given rest (Finish t) = rest
given rest (Wait t) = rest
given rest (Resume t) = rest
given rest (Release t lo hi) = rest
given rest (Read t c) = rest
given rest (Write t c v) = v
given rest (Update t c a) = a
given rest (Look c) = rest
given rest (Ready places) = rest

-- a reply as the rules give it
abbrev pub reply_of : {V : Type 0} → Reply V → program.Reply V
reply_of reply.Done = done
reply_of (reply.Task n) = made n
reply_of (reply.Value v) = value v
reply_of (reply.Ready n list) = listed (take n list)

-- a call's own answer as a run notes it
abbrev pub noted : {U V : Type 0} → (U → Reply V) → Result U Refusal → Result (Reply V) Refusal
noted reply (Ok u) = Ok (reply u)
noted reply (Err why) = Err why

-- the store is open to a write only where its verdict is no fault
abbrev pub is_open : Verdict → Bool
is_open None = true
is_open (Some fault) = false

-- the store's verdict on the cell that a call writes or updates; other calls ask for none
abbrev pub verdict_on : {V : Type 0} → (ℕ → Verdict) → Call V → Verdict
verdict_on verdict (Create p waits accesses) = None
verdict_on verdict (Start t) = None
verdict_on verdict (Finish t) = None
verdict_on verdict (Wait t) = None
verdict_on verdict (Resume t) = None
verdict_on verdict (Release t lo hi) = None
verdict_on verdict (Read t c) = None
verdict_on verdict (Write t c v) = verdict c
verdict_on verdict (Update t c a) = verdict c
verdict_on verdict (Look c) = None
verdict_on verdict (Ready places) = None

-- every question that a call is put: by the tasks w, and last by the store's verdicts
abbrev pub asked : {V : Type 0} → World → (ℕ → Verdict) → Call V → List Question
asked w verdict k = all_questions w (is_open (verdict_on verdict k)) (shape k)

-- a refusal by the store carries the fault that was its verdict
abbrev pub Blames : Verdict → Refusal → Type 0
Blames verdict (Rule why) = Unit {0}
Blames verdict (Store fault) = verdict ≡ Some fault

-- whether the store let the refused call write: not where the refusal is its own
abbrev pub was_open : Refusal → Bool
was_open (Rule why) = true
was_open (Store fault) = false

-- a call and its answer, as an entry of a history
abbrev pub entry_of : {V : Type 0} → V → Call V → Result (Reply V) Refusal → Entry V
entry_of rest k (Ok r) = program.took (shape k) (given rest k) (reply_of r)
entry_of rest k (Err why) = program.refused (shape k) (was_open why) (number_of why)

-- the calls of some turns
abbrev pub calls_of : {V : Type 0} → List (Turn V) → List (Call V)
calls_of turns = map (λ e. e.call) turns

-- the history of a list of turns: entry by entry each call and its answer
abbrev pub history : {V : Type 0} → V → List (Turn V) → List (Entry V)
history rest turns = map (λ e. entry_of rest e.call e.answer) turns

-- cells, verdict and took are a store's: the values, why a cell cannot be written, and what an accepted write makes of the store
module _ {S V : Type 0} (cells : S → List V) (verdict : S → ℕ → Verdict) (took : S → ℕ → V → S → Type 0) (rest : V) (updated : V → V → V) where
  -- v was written to the cell c: that cell alone is changed, and the store m is what the store's own relation makes of s
  abbrev pub Put : S → ℕ → V → S → Type 0
  Put s c v m = (cells m ≡ slice_set (cells s) c v) × took s c v m

  -- what an accepted call makes of the store
  abbrev pub Stored : S → Call V → S → Type 0
  Stored s (Create p waits accesses) m = m ≡ s
  Stored s (Start t) m = m ≡ s
  Stored s (Finish t) m = m ≡ s
  Stored s (Wait t) m = m ≡ s
  Stored s (Resume t) m = m ≡ s
  Stored s (Release t lo hi) m = m ≡ s
  Stored s (Read t c) m = m ≡ s
  Stored s (Write t c v) m = Put s c v m
  Stored s (Update t c a) m = Put s c (updated (slice_index_or (cells s) c rest) a) m
  Stored s (Look c) m = m ≡ s
  Stored s (Ready places) m = m ≡ s

  -- one call leads from the tasks w and the store s to the tasks x and the store m, with its answer.
  -- Accepted: every question is answered yes, the tasks are those that the rules make, the reply is theirs, and the store is
  -- written where the call says. Refused: with the number of the first no, and nothing is altered
  abbrev pub One : World → S → Call V → Result (Reply V) Refusal → World → S → Type 0
  One w s k (Ok r) x m =
      (all_yes (asked w (verdict s) k) ≡ true)
      × (x ≡ after w (shape k))
      × Replied rest updated w (cells s) (shape k) (reply_of r)
      × Stored s k m
  One w s k (Err why) x m =
      (all_yes (asked w (verdict s) k) ≡ false)
      × (first_number (asked w (verdict s) k) ≡ number_of why)
      × Blames (verdict_on (verdict s) k) why
      × (x ≡ w)
      × (m ≡ s)

  -- the turns lead from the tasks w and the store s to the tasks x and the store m, each from those that the one before it left
  abbrev pub Ran : World → S → List (Turn V) → World → S → Type 0
  Ran w s [] x m = (x ≡ w) × (m ≡ s)
  Ran w s (e ∷ es) x m = (v : World) × (n : S) × One w s e.call e.answer v n × Ran v n es x m

  -- the turns lead from a new world over the store s to the tasks x and the store m
  abbrev pub RanNew : S → List (Turn V) → World → S → Type 0
  RanNew s turns x m = Ran (new (length (cells s))) s turns x m

  -- the tasks x are those that the history makes; carried out in program order on a plain list of the first store's cells, the
  -- steps find every value that was answered and leave the last store's cells; and until task 0 is deeply complete the tasks can
  -- go on
  abbrev pub Promised : S → List (Turn V) → World → S → Type 0
  Promised s turns x m =
      (x ≡ world (new (length (cells s))) (history rest turns))
      × Replays rest updated (cells s) (program_order (history rest turns)) (cells m)
      × (deeply_complete x 0 ≡ false → GoesOn x)

  -- whatever turns led here from a new world over whatever store
  abbrev pub Settled : World → S → Type 0
  Settled x m = (s : S) (turns : List (Turn V)) → RanNew s turns x m → Promised s turns x m
