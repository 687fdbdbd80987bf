-- A run's history goes by the order rules, and so keeps their promise.
-- Assumes nothing.
use Rattle.std.proofs.Common.{◌≡◌, ℕ, Bool, true, false, cond, ◌&&◌, List, [], ◌∷◌, ◌++◌, length, Ok, Err, Result, sym, refl, ap, subst, arith}
use Rattle.kinds.specs.declared.deed.Deed.TheVariants.{Reading, Writing, Updating}
use Rattle.order.specs.declared.refusal.Refusal as order
use Rattle.order.specs.declared.refusal.Refusal.TheVariants.{
  NoSuchTask,
  WrongState,
  TooManyTasks,
  TooManyAccesses,
  BadRegion,
  UnknownKind,
  CommutativeParent,
  NotCovered,
  EarlierConflict,
  CommutativeBusy,
  ChildrenOpen,
  NotHeld,
  TooManyRuns,
  NoSuchCell,
  NoFittingHolding,
  DescendantConflict,
  ShortList,
}
use Rattle.order.specs.Questions as rules
use Rattle.order.specs.Questions.{
  create,
  start,
  finish,
  wait,
  resume,
  release,
  step,
  look,
  ready,
  Question,
  all_yes,
  first_number,
  questions,
  after,
}
use Rattle.order.specs.Refusals.{refusal_number}
use Rattle.order.specs.Tasks.{World, new, deeply_complete}
use Rattle.stores.specs.Fault.{Verdict}
use Rattle.promise.specs.Program.{Entry}
use Rattle.promise.specs.Promise.{Commutes, GoesOn}
use Rattle.promise.specs.Runs.{store_number, all_questions, world, cells_after, Runs}
use Rattle.promise.proofs.Replay.{in_program_order}
use Rattle.promise.proofs.Progress.{never_stuck}
use Rattle.engine.specs.declared.call.Call.{Call}
use Rattle.engine.specs.declared.call.Call.TheVariants.{
  Create,
  Start,
  Finish,
  Wait,
  Resume,
  Release,
  Read,
  Write,
  Update,
  Look,
  Ready,
}
use Rattle.engine.specs.declared.call.Reply.{Reply}
use Rattle.engine.specs.declared.call.Turn.{Turn}
use Rattle.engine.specs.declared.refusal.Refusal.{Refusal}
use Rattle.engine.specs.declared.refusal.Refusal.TheVariants.{Rule, Store}
use Rattle.engine.specs.Run.{shape, given, is_open, verdict_on, entry_of, history, Stored, One, Ran, RanNew, Promised, Settled}

-- the store's number is no rule's
not_store : (why : order.Refusal) → store_number ≡ refusal_number why → ⊥
not_store NoSuchTask e = omega arith
not_store WrongState e = omega arith
not_store TooManyTasks e = omega arith
not_store TooManyAccesses e = omega arith
not_store BadRegion e = omega arith
not_store UnknownKind e = omega arith
not_store CommutativeParent e = omega arith
not_store NotCovered e = omega arith
not_store EarlierConflict e = omega arith
not_store CommutativeBusy e = omega arith
not_store ChildrenOpen e = omega arith
not_store NotHeld e = omega arith
not_store TooManyRuns e = omega arith
not_store NoSuchCell e = omega arith
not_store NoFittingHolding e = omega arith
not_store DescendantConflict e = omega arith
not_store ShortList e = omega arith

-- the store's question with its answer
abbrev last : Bool → List Question
last b = record { number = store_number; answer = b } ∷ []

-- where all is answered yes, the store is open
all_open : (qs : List Question) (b : Bool) → all_yes (qs ++ last b) ≡ true → all_yes (qs ++ last true) ≡ true
all_open [] b e = refl
all_open (q ∷ qs) b e = go q.answer (all_open qs b) e
  where
    go :
        (a : Bool) →
        (all_yes (qs ++ last b) ≡ true → all_yes (qs ++ last true) ≡ true) →
        (a && all_yes (qs ++ last b)) ≡ true →
        (a && all_yes (qs ++ last true)) ≡ true
    go true more e = more e
    go false more e = e

yes_open : (w : World) (b : Bool) (k : rules.Call) → all_yes (all_questions w b k) ≡ true → all_yes (all_questions w true k) ≡ true
yes_open w b (create p waits list) e = e
yes_open w b (start t) e = e
yes_open w b (finish t) e = e
yes_open w b (wait t) e = e
yes_open w b (resume t) e = e
yes_open w b (release t lo hi) e = e
yes_open w b (step Reading t c) e = e
yes_open w b (step Writing t c) e = all_open (questions w (step Writing t c)) b e
yes_open w b (step Updating t c) e = all_open (questions w (step Updating t c)) b e
yes_open w b (look c) e = e
yes_open w b (ready places) e = e

-- not all is answered yes, and the first no has the number n
abbrev Refuses : List Question → ℕ → Type 0
Refuses qs n = (all_yes qs ≡ false) × (first_number qs ≡ n)

-- where the first no is a rule's, an open store changes nothing
rule_first : (qs : List Question) (b : Bool) (why : order.Refusal) → Refuses (qs ++ last b) (refusal_number why) → Refuses (qs ++ last true) (refusal_number why)
rule_first [] true why e = e
rule_first [] false why e = absurd (not_store why e.1)
rule_first (q ∷ qs) b why e = go q.answer (rule_first qs b why) e
  where
    go :
        (a : Bool) →
        (Refuses (qs ++ last b) (refusal_number why) → Refuses (qs ++ last true) (refusal_number why)) →
        ((a && all_yes (qs ++ last b)) ≡ false) × (cond a (first_number (qs ++ last b)) q.number ≡ refusal_number why) →
        ((a && all_yes (qs ++ last true)) ≡ false) × (cond a (first_number (qs ++ last true)) q.number ≡ refusal_number why)
    go true more e = more e
    go false more e = e

rule_open :
    (w : World) (b : Bool) (k : rules.Call) (why : order.Refusal) →
    Refuses (all_questions w b k) (refusal_number why) →
    Refuses (all_questions w true k) (refusal_number why)
rule_open w b (create p waits list) why e = e
rule_open w b (start t) why e = e
rule_open w b (finish t) why e = e
rule_open w b (wait t) why e = e
rule_open w b (resume t) why e = e
rule_open w b (release t lo hi) why e = e
rule_open w b (step Reading t c) why e = e
rule_open w b (step Writing t c) why e = rule_first (questions w (step Writing t c)) b why e
rule_open w b (step Updating t c) why e = rule_first (questions w (step Updating t c)) b why e
rule_open w b (look c) why e = e
rule_open w b (ready places) why e = e

module _ {S V : Type 0} (cells : S → List V) (verdict : S → ℕ → Verdict) (took : S → ℕ → V → S → Type 0) (rest : V) (updated : V → V → V) where
  -- the cells of the store that a call leaves are those that the rules leave
  stored_cells :
      (s : S) (k : Call V) (m : S) →
      Stored cells verdict took rest updated s k m →
      cells m ≡ cells_after rest updated (cells s) (shape k) (given rest k)
  stored_cells s (Create p waits accesses) m e = ap cells e
  stored_cells s (Start t) m e = ap cells e
  stored_cells s (Finish t) m e = ap cells e
  stored_cells s (Wait t) m e = ap cells e
  stored_cells s (Resume t) m e = ap cells e
  stored_cells s (Release t lo hi) m e = ap cells e
  stored_cells s (Read t c) m e = ap cells e
  stored_cells s (Write t c v) m e = e.0
  stored_cells s (Update t c a) m e = e.0
  stored_cells s (Look c) m e = ap cells e
  stored_cells s (Ready places) m e = ap cells e

  -- the history h goes by the rules from the tasks w and the cells s to the tasks x and the cells f
  abbrev Goes : World → List V → List (Entry V) → World → List V → Type 0
  Goes w s h x f = Runs rest updated w s h f × (x ≡ world w h)

  -- one call before such a history
  one_goes :
      (w : World) (s : S) (k : Call V) (a : Result (Reply V) Refusal) (v : World) (n : S) (h : List (Entry V)) (x : World) (f : List V) →
      One cells verdict took rest updated w s k a v n →
      Goes v (cells n) h x f →
      Goes w (cells s) (entry_of rest k a ∷ h) x f
  one_goes w s k (Ok r) v n h x f (every, tasks, replied, stored) more =
      let P : World → Type 0 = λ u. Goes u (cells n) h x f in
      let Q : List V → Type 0 = λ z. Goes (after w (shape k)) z h x f in
      let on = subst Q (stored_cells s k n stored) (subst P tasks more) in
      ((yes_open w (is_open (verdict_on (verdict s) k)) (shape k) every, replied, on.0), on.1)
  one_goes w s k (Err (Rule why)) v n h x f (not_all, first, blamed, tasks, store) more =
      let P : World → Type 0 = λ u. Goes u (cells n) h x f in
      let Q : S → Type 0 = λ z. Goes w (cells z) h x f in
      let on = subst Q store (subst P tasks more) in
      let refuses = rule_open w (is_open (verdict_on (verdict s) k)) (shape k) why (not_all, first) in
      ((refuses.0, refuses.1, on.0), on.1)
  one_goes w s k (Err (Store fault)) v n h x f (not_all, first, blamed, tasks, store) more =
      let P : World → Type 0 = λ u. Goes u (cells n) h x f in
      let Q : S → Type 0 = λ z. Goes w (cells z) h x f in
      let on = subst Q store (subst P tasks more) in
      let R : Verdict → Type 0 = λ t. Refuses (all_questions w (is_open t) (shape k)) store_number in
      let refuses = subst R blamed (not_all, first) in
      ((refuses.0, refuses.1, on.0), on.1)

  pub ran_runs :
      (turns : List (Turn V)) (w : World) (s : S) (x : World) (m : S) →
      Ran cells verdict took rest updated w s turns x m →
      Runs rest updated w (cells s) (history rest turns) (cells m) × (x ≡ world w (history rest turns))
  ran_runs [] w s x m (tasks, store) = (ap cells (sym store), tasks)
  ran_runs (e ∷ turns) w s x m (v, n, one, more) =
      one_goes w s e.call e.answer v n (history rest turns) x (cells m) one (ran_runs turns v n x m more)

  module _ (commutes : Commutes updated) where
    pub ran_promised :
        (s : S) (turns : List (Turn V)) (x : World) (m : S) →
        RanNew cells verdict took rest updated s turns x m →
        Promised cells verdict took rest updated s turns x m
    ran_promised s turns x m ran =
        let goes = ran_runs turns (new (length (cells s))) s x m ran in
        let P : World → Type 0 = λ w. deeply_complete w 0 ≡ false → GoesOn w in (
          goes.1,
          in_program_order rest updated commutes (cells s) (cells m) (history rest turns) goes.0,
          subst P (sym goes.1) (never_stuck rest updated (cells s) (cells m) (history rest turns) goes.0),
        )

    -- so it is of whatever run led to an engine's tasks and store
    pub settles : (x : World) (m : S) → Settled cells verdict took rest updated x m
    settles x m s turns ran = ran_promised s turns x m ran
