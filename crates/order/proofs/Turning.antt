-- One task turned to another state, or made to let go: what the records then say, and that they stay sound.
-- Assumes nothing.
use Rattle.std.proofs.Common.{◌≡◌, ℕ, ◌+◌, ◌<◌, ◌≤◌, Bool, true, false, cond, not, ◌&&◌, ◌||◌, eqb, ltb, leb, ◌⊎◌, List, [], ◌∷◌, map, length, get_or, set, Ok, Err, Option, Result, sym, refl, ap, ◌∙◌, subst, inl, inr, arith, MatchResult}
use mathlib.Core.Path.{fun_ext}
use Rattle.std.proofs.lemmas.List.{map-set, set-get_or, get_or-set_same, get_or-set_other, length-map, length-set}
use Rattle.std.proofs.lemmas.Bool.{cases_eq, cases_lt, cases_Bool, and_left, lt-ltb, le-ltb, ltb-true}
use Rattle.kinds.specs.declared.holding.Holding.{Holding}
use Rattle.order.specs.declared.refusal.Refusal.{Refusal}
use Rattle.order.specs.declared.refusal.Refusal.TheVariants.{NoSuchTask, WrongState, EarlierConflict, CommutativeBusy, ChildrenOpen, BadRegion, NotHeld, TooManyRuns}
use Rattle.order.specs.declared.state.State.{State}
use Rattle.order.specs.declared.state.State.TheVariants.{Created, Running, Waiting, Finished}
use Rattle.order.specs.declared.task.Task.{Task}
use Rattle.order.specs.declared.turns.Turn.{Turn}
use Rattle.order.specs.declared.turns.Turn.TheVariants.{Start, Finish, Wait, Resume}
use Rattle.order.specs.Asked.{running_questions}
use Rattle.order.specs.Counting.{uncounted, Older, Counted, Untold}
use Rattle.order.specs.Holdings.{held, in_use}
use Rattle.kinds.specs.Kinds.{is_held, within}
use Rattle.order.specs.Questions.{Question, ask, first_number, first_no, task_exists, region_lies, release, lightened, without, run_count, most_runs, no_earlier_conflict, commutative_free, children_complete, start, finish, wait, resume, put_task, turned}
use Rattle.order.specs.Records.{Sound, tally, parent_at, complete, complete_at, open_child, reach_at}
use Rattle.order.specs.Stretches.{end_by}
use Rattle.order.specs.Tasks as tasks
use Rattle.order.specs.Tasks.{World, every, holds, count, state_of, is_created, is_running, is_waiting, is_finished}
use Rattle.order.specs.Turns.{may_turn, turns_to, in_state, Turned, Released, resume_questions}
use Rattle.order.specs.View.{Did, answer_number, task_of, root, world_of}
use Rattle.order.proofs.Answering.{at_no, past_yes, past_running, running_parts, did}
use Rattle.order.proofs.Changing.{map_kept, view_set, world_same}
use Rattle.order.proofs.Completion.{open_is}
use Rattle.order.proofs.Deeply.{holds_unfinished}
use Rattle.kinds.proofs.Every.{clash}
use Rattle.order.proofs.Tallies.{tally_flip, complete_other, older_kept, lengths_same, parents_same, uncounted_same}
use Rattle.order.proofs.Viewed.{count_of, read_at}

open_child_same : (a b : List Task) → map (λ k. k.parent) a ≡ map (λ k. k.parent) b → map complete a ≡ map complete b → (t : ℕ) → open_child a t ≡ open_child b t
open_child_same a b p q t = λ i u. ltb 0 u && (eqb (get_or (p i) u 0) t && not (get_or (q i) u false))

-- the task of a record, with other holdings
abbrev task_with : Task → (ℕ → Option Holding) → tasks.Task
task_with k f = record { waits = k.waits; state = k.state; hold = f }

pub running_unfinished : (s : State) → is_running s ≡ true → is_finished s ≡ false
running_unfinished Created e = refl
running_unfinished Running e = refl
running_unfinished Waiting e = refl
running_unfinished Finished e = clash e

-- no call turns a finished task
not_finished : (c : Turn) (s : State) → may_turn c s ≡ true → is_finished s ≡ false
not_finished c Created e = refl
not_finished c Running e = refl
not_finished c Waiting e = refl
not_finished Start Finished e = clash e
not_finished Finish Finished e = clash e
not_finished Wait Finished e = clash e
not_finished Resume Finished e = clash e

module _ (cells : ℕ) (tasks : List Task) (sound : Sound cells tasks) where
  pub exists_yes : (t : ℕ) → t < length tasks → task_exists (world_of cells tasks) t ≡ true
  exists_yes t h = let n = count_of cells tasks sound.0 in lt-ltb t (count (world_of cells tasks)) (omega arith)

  pub exists_no : (t : ℕ) → length tasks ≤ t → task_exists (world_of cells tasks) t ≡ false
  exists_no t h = let n = count_of cells tasks sound.0 in le-ltb t (count (world_of cells tasks)) (omega arith)

  pub running_within : (t : ℕ) → 0 ≡ first_number (running_questions (world_of cells tasks) t) → t < length tasks
  running_within t z =
      let n = count_of cells tasks sound.0 in
      let l = ltb-true t (count (world_of cells tasks)) (running_parts (world_of cells tasks) t z).0 in
      omega arith

  -- an accepted start names a task
  pub start_within : (t : ℕ) → 0 ≡ first_no (world_of cells tasks) (start t) → t < length tasks
  start_within t n = go (cases_lt t (length tasks))
    where
      w : World
      w = world_of cells tasks

      go : (t < length tasks) ⊎ (length tasks ≤ t) → t < length tasks
      go (inl l) = l
      go (inr g) =
          let z =
          at_no NoSuchTask (task_exists w t)
          (ask WrongState (is_created (state_of w t)) ∷ ask EarlierConflict (no_earlier_conflict w t) ∷ ask CommutativeBusy (commutative_free w t) ∷ [])
          (exists_no t g) in
          absurd (omega arith)

  -- the record of t is k
  module _ (t : ℕ) (h : t < length tasks) (k : Task) (r : k ≡ get_or tasks t k) where
    task_read : task_of k ≡ (world_of cells tasks).task t
    task_read = read_at task_of (root cells) tasks t k h r

    pub state_read : k.state ≡ state_of (world_of cells tasks) t
    state_read = ap (λ x. x.state) task_read

    -- what a running task holds is what its record holds
    pub holds_read : is_running (state_of (world_of cells tasks) t) ≡ true → holds (world_of cells tasks) t ≡ held k.runs
    holds_read e =
        fun_ext
        (λ c.
        holds_unfinished (world_of cells tasks) t (not_finished Finish (state_of (world_of cells tasks) t) e) c ∙ ap (λ x. x.hold c) (sym task_read))

    same_record : (j : Task) → j ≡ k → set tasks t j ≡ tasks
    same_record j e = ap (set tasks t) (e ∙ r) ∙ set-get_or tasks t k

    reaches : (j : Task) → end_by cells (in_use j.runs) ≡ true → (x : ℕ) → reach_at cells (set tasks t j) x ≡ true
    reaches j e x = ap (λ (l : List Bool). get_or l x true) (map-set f tasks t j) ∙ go (cases_eq x t)
      where
        f : Task → Bool
        f i = end_by cells (in_use i.runs)

        go : (x ≡ t) ⊎ (x ≡ t → ⊥) → get_or (set (map f tasks) t (f j)) x true ≡ true
        go (inl q) = ap (λ (n : ℕ). get_or (set (map f tasks) t (f j)) n true) q ∙ (get_or-set_same (map f tasks) t (f j) true (simp length-map h) ∙ e)
        go (inr n) = get_or-set_other (map f tasks) t x (f j) true n ∙ sound.4 x

    -- another record with the same parent and counter, complete only if the old one is
    pub sound_set :
        (j : Task) →
        j.parent ≡ k.parent →
        j.open ≡ k.open →
        complete j ≡ complete k →
        end_by cells (in_use j.runs) ≡ true →
        Sound cells (set tasks t j)
    sound_set j p o d e = (
      subst (λ (n : ℕ). 1 ≤ n) (sym long) sound.0,
      subst (λ (n : ℕ). n ≤ 64) (sym long) sound.1,
      λ x a l. subst (λ (n : ℕ). n < x) (ap (λ (m : List ℕ). get_or m x 0) (sym parents)) (sound.2 x a (subst (λ (n : ℕ). x < n) long l)),
      λ x l.
          ap (λ (m : List ℕ). get_or m x 0) opens
          ∙ (sound.3 x (subst (λ (n : ℕ). x < n) long l)
          ∙ (ap (λ (n : ℕ). tally n (open_child tasks x)) (sym long)
          ∙ ap (tally (length (set tasks t j))) (open_child_same tasks (set tasks t j) (sym parents) (sym dones) x))),
      reaches j e,
    )
      where
        long : length (set tasks t j) ≡ length tasks
        long = length-set tasks t j

        parents : map (λ i. i.parent) (set tasks t j) ≡ map (λ i. i.parent) tasks
        parents = map_kept (λ i. i.parent) 0 tasks t j (p ∙ read_at (λ i. i.parent) 0 tasks t k h r)

        opens : map (λ i. i.open) (set tasks t j) ≡ map (λ i. i.open) tasks
        opens = map_kept (λ i. i.open) 0 tasks t j (o ∙ read_at (λ i. i.open) 0 tasks t k h r)

        dones : map complete (set tasks t j) ≡ map complete tasks
        dones = map_kept complete false tasks t j (d ∙ read_at complete false tasks t k h r)

    pub runs_reach : end_by cells (in_use k.runs) ≡ true
    runs_reach = read_at (λ i. end_by cells (in_use i.runs)) true tasks t k h r ∙ sound.4 t

    -- a refused call leaves a sound table
    pub sound_kept : (j : Task) → j ≡ k → Sound cells (set tasks t j)
    sound_kept j e = subst (Sound cells) (sym (same_record j e)) sound

    pub sound_turned :
        (c : Turn) → is_finished (turns_to c) ≡ false → (a : Result (Unit {0}) Refusal) (j : Task) → Turned k c a j → Sound cells (set tasks t j)
    sound_turned c n (Ok u) j e =
        subst (λ (i : Task). Sound cells (set tasks t i)) (sym e.1)
        (
        sound_set (in_state k (turns_to c)) refl refl
        (
        and_left (is_finished (turns_to c)) (eqb k.open 0) n
        ∙ sym (and_left (is_finished k.state) (eqb k.open 0) (not_finished c k.state e.0))
        )
        runs_reach
        )
    sound_turned c n (Err why) j e = sound_kept j e.2

    -- a release, where the region lies within the cells
    pub sound_released : (lo hi : ℕ) (a : Result (Unit {0}) Refusal) (j : Task) → Released k lo hi cells a j → Sound cells (set tasks t j)
    sound_released lo hi (Ok u) j e =
        sound_set j (ap (λ i. i.parent) e.1.0) (ap (λ i. i.open) e.1.0) (ap complete e.1.0) e.1.2
    sound_released lo hi (Err why) j e = sound_kept j e.1

    pub release_did :
        (lo hi : ℕ) →
        0 ≡ first_number (running_questions (world_of cells tasks) t) →
        region_lies (world_of cells tasks) lo hi ≡ true →
        (a : Result (Unit {0}) Refusal) (j : Task) →
        Released k lo hi cells a j →
        Did (world_of cells tasks) (release t lo hi) a (world_of cells (set tasks t j))
    release_did lo hi z l a j e = did w (world_of cells (set tasks t j)) (release t lo hi) a number (left a e)
      where
        w : World
        w = world_of cells tasks

        asks : (ℕ → Option Holding) → List Question
        asks f =
            ask NotHeld (every cells (λ c. not (within lo hi c) || is_held (f c)))
            ∷ ask TooManyRuns (leb (run_count (without lo hi f) cells) most_runs)
            ∷ []

        number : answer_number a ≡ first_no w (release t lo hi)
        number =
            past_running w t (ask BadRegion (region_lies w lo hi) ∷ asks (holds w t)) (answer_number a) z
            (
            past_yes BadRegion (region_lies w lo hi) (asks (holds w t)) (answer_number a) l
            (e.0 ∙ ap (λ (f : ℕ → Option Holding). first_number (asks f)) (sym (holds_read (running_parts w t z).1)))
            )

        left :
            (a : Result (Unit {0}) Refusal) →
            Released k lo hi cells a j →
            MatchResult a (λ _. world_of cells (set tasks t j) ≡ put_task w t (lightened (w.task t) lo hi)) (λ _. world_of cells (set tasks t j) ≡ w)
        left (Ok u) e =
            view_set cells tasks t j h (ap (λ i. i.parent) e.1.0 ∙ read_at (λ i. i.parent) 0 tasks t k h r)
            ∙ ap (put_task w t)
            (
            ap task_of e.1.0
            ∙ (ap (λ (f : ℕ → Option Holding). task_with k f) (fun_ext e.1.1) ∙ ap (λ x. lightened x lo hi) task_read)
            )
        left (Err why) e = ap (world_of cells) (same_record j e.1)

    -- the world that a turn leaves
    turned_world :
        (c : Turn) (a : Result (Unit {0}) Refusal) (j : Task) →
        Turned k c a j →
        MatchResult a
        (λ _. world_of cells (set tasks t j) ≡ put_task (world_of cells tasks) t (turned ((world_of cells tasks).task t) (turns_to c)))
        (λ _. world_of cells (set tasks t j) ≡ world_of cells tasks)
    turned_world c (Ok u) j e =
        view_set cells tasks t j h (ap (λ i. i.parent) e.1 ∙ read_at (λ i. i.parent) 0 tasks t k h r)
        ∙ ap (put_task (world_of cells tasks) t) (ap task_of e.1 ∙ ap (λ x. turned x (turns_to c)) task_read)
    turned_world c (Err why) j e = ap (world_of cells) (same_record j e.2)

    turned_number :
        (c : Turn) (a : Result (Unit {0}) Refusal) (j : Task) →
        Turned k c a j →
        answer_number a
        ≡ first_number
        (ask NoSuchTask (task_exists (world_of cells tasks) t) ∷ ask WrongState (may_turn c (state_of (world_of cells tasks) t)) ∷ [])
    turned_number c a j e =
        past_yes NoSuchTask (task_exists (world_of cells tasks) t) (ask WrongState (may_turn c (state_of (world_of cells tasks) t)) ∷ []) (answer_number a)
        (exists_yes t h) (go a e)
      where
        go : (a : Result (Unit {0}) Refusal) → Turned k c a j → answer_number a ≡ first_number (ask WrongState (may_turn c (state_of (world_of cells tasks) t)) ∷ [])
        go (Ok u) e = past_yes WrongState (may_turn c (state_of (world_of cells tasks) t)) [] 0 (ap (may_turn c) (sym state_read) ∙ e.0) refl
        go (Err why) e =
            ap (λ w. answer_number {U = Unit {0}} (Err w)) e.1
            ∙ at_no WrongState (may_turn c (state_of (world_of cells tasks) t)) [] (ap (may_turn c) (sym state_read) ∙ e.0)

    pub wait_did : (a : Result (Unit {0}) Refusal) (j : Task) → Turned k Wait a j → Did (world_of cells tasks) (wait t) a (world_of cells (set tasks t j))
    wait_did a j e = did (world_of cells tasks) (world_of cells (set tasks t j)) (wait t) a (turned_number Wait a j e) (turned_world Wait a j e)

    pub finish_did : (a : Result (Unit {0}) Refusal) (j : Task) → Turned k Finish a j → Did (world_of cells tasks) (finish t) a (world_of cells (set tasks t j))
    finish_did a j e = did (world_of cells tasks) (world_of cells (set tasks t j)) (finish t) a (turned_number Finish a j e) (turned_world Finish a j e)

    -- a call that was asked beforehand is not refused
    took : (c : Turn) → may_turn c k.state ≡ true → (a : Result (Unit {0}) Refusal) (j : Task) → Turned k c a j → answer_number a ≡ 0
    took c e (Ok u) j f = refl
    took c e (Err why) j f = clash (sym f.0 ∙ e)

    pub start_did :
        (a : Result (Unit {0}) Refusal) (j : Task) →
        0 ≡ first_no (world_of cells tasks) (start t) →
        Turned k Start a j →
        Did (world_of cells tasks) (start t) a (world_of cells (set tasks t j))
    start_did a j n e =
        did (world_of cells tasks) (world_of cells (set tasks t j)) (start t) a (took Start (go (cases_Bool (is_created k.state))) a j e ∙ n)
        (turned_world Start a j e)
      where
        w : World
        w = world_of cells tasks

        go : (is_created k.state ≡ true) ⊎ (is_created k.state ≡ false) → is_created k.state ≡ true
        go (inl y) = y
        go (inr f) =
            let z : 2 ≡ first_no w (start t) =
            past_yes NoSuchTask (task_exists w t) (ask WrongState (is_created (state_of w t)) ∷ ask EarlierConflict (no_earlier_conflict w t) ∷ ask CommutativeBusy (commutative_free w t) ∷ []) 2 (exists_yes t h)
            (
            at_no WrongState (is_created (state_of w t)) (ask EarlierConflict (no_earlier_conflict w t) ∷ ask CommutativeBusy (commutative_free w t) ∷ [])
            (ap is_created (sym state_read) ∙ f)
            ) in
            absurd (omega arith)

    -- what a resume asks of the record is what the rules ask
    pub resume_asks : (n : ℕ) → n ≡ first_number (resume_questions k) → n ≡ first_no (world_of cells tasks) (resume t)
    resume_asks n e =
        past_yes NoSuchTask (task_exists w t) (ask WrongState (is_waiting (state_of w t)) ∷ ask ChildrenOpen (children_complete w t) ∷ []) n (exists_yes t h)
        (
        e
        ∙ (ap (λ (s : State). first_number (ask WrongState (is_waiting s) ∷ ask ChildrenOpen (eqb k.open 0) ∷ [])) state_read
        ∙ ap (λ (b : Bool). first_number (ask WrongState (is_waiting (state_of w t)) ∷ ask ChildrenOpen b ∷ []))
        (ap (λ (m : ℕ). eqb m 0) (read_at (λ i. i.open) 0 tasks t k h r) ∙ open_is cells tasks sound t h))
        )
      where
        w : World
        w = world_of cells tasks

    pub resume_did :
        (a : Result (Unit {0}) Refusal) (j : Task) →
        0 ≡ first_no (world_of cells tasks) (resume t) →
        Turned k Resume a j →
        Did (world_of cells tasks) (resume t) a (world_of cells (set tasks t j))
    resume_did a j n e =
        did (world_of cells tasks) (world_of cells (set tasks t j)) (resume t) a (took Resume (go (cases_Bool (is_waiting k.state))) a j e ∙ n)
        (turned_world Resume a j e)
      where
        go : (is_waiting k.state ≡ true) ⊎ (is_waiting k.state ≡ false) → is_waiting k.state ≡ true
        go (inl y) = y
        go (inr f) =
            let z = resume_asks 2 (at_no WrongState (is_waiting k.state) (ask ChildrenOpen (eqb k.open 0) ∷ []) f) in absurd (omega arith)

    -- a finished task whose ancestors are not told yet
    module _ (u : Unit {0}) (j : Task) (e : Turned k Finish (Ok u) j) where
      kept_parents : map (λ i. i.parent) tasks ≡ map (λ i. i.parent) (set tasks t j)
      kept_parents = sym (map_kept (λ i. i.parent) 0 tasks t j (ap (λ i. i.parent) e.1 ∙ read_at (λ i. i.parent) 0 tasks t k h r))

      kept_length : length (set tasks t j) ≡ length tasks
      kept_length = length-set tasks t j

      pub finish_untold : (t < length (set tasks t j)) × Older (set tasks t j) × Untold (set tasks t j) t
      finish_untold = (
        subst (λ (n : ℕ). t < n) (sym kept_length) h,
        λ x a l. subst (λ (n : ℕ). n < x) (ap (λ (m : List ℕ). get_or m x 0) kept_parents) (sound.2 x a (subst (λ (n : ℕ). x < n) kept_length l)),
        λ x l.
            ap (λ (m : List ℕ). get_or m x 0) (map_kept (λ i. i.open) 0 tasks t j (ap (λ i. i.open) e.1 ∙ read_at (λ i. i.open) 0 tasks t k h r))
            ∙ (sound.3 x (subst (λ (n : ℕ). x < n) kept_length l)
            ∙ (tally_flip tasks (set tasks t j) t h kept_parents (λ i n. complete_other tasks t j i n)
            (
            sym (read_at complete false tasks t k h r)
            ∙ and_left (is_finished k.state) (eqb k.open 0) (not_finished Finish k.state e.0)
            )
            x
            ∙ ap (λ (n : ℕ). tally n (open_child (set tasks t j) x) + cond (complete_at (set tasks t j) t && (ltb 0 t && eqb (parent_at (set tasks t j) t) x)) 1 0)
            (sym kept_length))),
      )

      -- once they are told
      module _ (told : List Task) (same : map uncounted told ≡ map uncounted (set tasks t j)) (counted : Counted told) where
        pub finish_sound : Sound cells told
        finish_sound =
            let n : length told ≡ length tasks = lengths_same told (set tasks t j) same ∙ kept_length in (
              subst (λ (m : ℕ). 1 ≤ m) (sym n) sound.0,
              subst (λ (m : ℕ). m ≤ 64) (sym n) sound.1,
              older_kept told (set tasks t j) same finish_untold.1,
              counted,
              λ x.
                  ap (λ (m : List Bool). get_or m x true) (uncounted_same (λ i. end_by cells (in_use i.runs)) (λ i. refl) told (set tasks t j) same)
                  ∙ reaches j (ap (λ i. end_by cells (in_use i.runs)) e.1 ∙ runs_reach) x,
            )

        pub finish_told : Did (world_of cells tasks) (finish t) (Ok u) (world_of cells told)
        finish_told =
            let d = finish_did (Ok u) j e in (
              d.0,
              world_same cells told (set tasks t j) (parents_same told (set tasks t j) same) (uncounted_same task_of (λ i. refl) told (set tasks t j) same)
                  ∙ d.1,
            )
