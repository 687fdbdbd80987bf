-- One life on an engine, call by call.
-- Assumes nothing.
use Rattle.std.proofs.Common.{◌≡◌, ℕ, ◌<◌, true, false, List, [], ◌∷◌, get_or, None, Ok, Err, Result, sym, ap, ◌∙◌, subst, arith, Bor}
use Rattle.kinds.specs.declared.access.Access.{Access}
use Rattle.kinds.specs.declared.deed.Deed.TheVariants.{Updating}
use Rattle.order.specs.declared.state.State.TheVariants.{Created, Running}
use Rattle.order.specs.Questions.{create, step, all_yes, after}
use Rattle.order.specs.Tasks.{World, count}
use Rattle.order.specs.View.{root}
use Rattle.stores.specs.Fault.{Verdict}
use Rattle.promise.specs.Runs.{all_questions}
use Rattle.engine.specs.declared.call.Call.TheVariants.{Create, Start, Update, Finish}
use Rattle.engine.specs.declared.call.Reply.TheVariants.{Done, Task}
use Rattle.engine.specs.declared.refusal.Refusal.{Refusal}
use Rattle.engine.specs.Run.{is_open, noted, Put, One}
use Rattle.lives.specs.Crowd.{one_cell, born, Calm}
use Rattle.lives.proofs.Accepted.{Living, create_yes, born_living, start_yes, started, step_yes, finish_yes, finished}
use Rattle.lives.proofs.Taken.{taken}

-- an accepted call was not refused
pub not_refused : {U : Type 0} (r : Result U Refusal) (u : U) (why : Refusal) → r ≡ Ok u → r ≡ Err why → ⊥
not_refused r u why a b = let z : ◌≡◌ {A = ℕ} 0 1 = cc in omega arith

-- a call of a life is accepted, and leads to the tasks x
abbrev pub Went : Result (Unit {0}) Refusal → World → World → Type 0
Went r w x = (r ≡ Ok tt) × (count x ≡ count w)

module _ {S V : Type 0} (cells : S → List V) (verdict : S → ℕ → Verdict) (took : S → ℕ → V → S → Type 0) (rest : V) (updated : V → V → V) where
  -- task 0 creates a task with the cell, and the store stays
  pub create_goes :
      (w : World) (s : S) (c : ℕ) (list : Bor (List Access)) (r : Result ℕ Refusal) (x : World) (m : S) →
      One cells verdict took rest updated w s (Create 0 false list) (noted Task r) x m →
      list.now ≡ one_cell c ∷ [] →
      w.task 0 ≡ root w.cells →
      count w < 64 →
      c < w.cells →
      (r ≡ Ok (count w)) × (x ≡ born c w) × (m ≡ s)
  create_goes w s c list r x m h e rooted few exists =
      let yes : all_yes (all_questions w true (create 0 false list.now)) ≡ true =
      subst (λ (l : List Access). all_yes (all_questions w true (create 0 false l)) ≡ true) (sym e) (create_yes w c rooted few exists)
      in
      let k = taken cells verdict took rest updated Task w s (Create 0 false list) r x m h yes in
      let reply = k.3 in
      let number : k.0 ≡ count w = cc in
      (k.1 ∙ ap Ok number, k.2 ∙ ap (λ l. after w (create 0 false l)) e, k.4)

  pub start_goes :
      (w : World) (s : S) (c t : ℕ) (r : Result (Unit {0}) Refusal) (x : World) (m : S) →
      One cells verdict took rest updated w s (Start t) (noted (λ _. Done) r) x m →
      Living Created c t w →
      Went r w x × Living Running c t x × (m ≡ s)
  start_goes w s c t r x m h life =
      let k = taken cells verdict took rest updated (λ _. Done) w s (Start t) r x m h (start_yes w c t life) in
      ((k.1, ap count k.2), subst (Living Running c t) (sym k.2) (started w c t life), k.4)

  -- a new task that stands alone on the cell starts, and the store stays
  pub begin_goes :
      (v w x : World) (s m n : S) (c t : ℕ) (made : Result ℕ Refusal) (r : Result (Unit {0}) Refusal) →
      One cells verdict took rest updated w m (Start t) (noted (λ _. Done) r) x n →
      Calm c 0 v →
      made ≡ Ok (count v) →
      made ≡ Ok t →
      w ≡ born c v →
      m ≡ s →
      Went r w x × Living Running c t x × (n ≡ s)
  begin_goes v w x s m n c t made r h calm number was tasks store =
      let same : t ≡ count v = cc in
      let life : Living Created c t w =
      subst (Living Created c t) (sym tasks) (subst (λ (y : ℕ). Living Created c y (born c v)) (sym same) (born_living v c calm))
      in
      let k = start_goes w m c t r x n h life in
      (k.0, k.1, k.2 ∙ store)

  -- it updates the cell, in a store n that is still the store s
  pub update_goes :
      (w : World) (s n : S) (c t : ℕ) (a : V) (r : Result (Unit {0}) Refusal) (x : World) (m : S) →
      One cells verdict took rest updated w n (Update t c a) (noted (λ _. Done) r) x m →
      verdict s c ≡ None →
      n ≡ s →
      Living Running c t w →
      Went r w x × Living Running c t x × Put cells verdict took rest updated s c (updated (get_or (cells s) c rest) a) m
  update_goes w s n c t a r x m h free kept life =
      let free_now : verdict n c ≡ None = ap (λ k. verdict k c) kept ∙ free in
      let yes : all_yes (all_questions w (is_open (verdict n c)) (step Updating t c)) ≡ true =
      subst (λ (v : Verdict). all_yes (all_questions w (is_open v) (step Updating t c)) ≡ true) (sym free_now) (step_yes w c t life)
      in
      let k = taken cells verdict took rest updated (λ _. Done) w n (Update t c a) r x m h yes in (
        (k.1, ap count k.2),
        subst (Living Running c t) (sym k.2) life,
        subst (λ (y : S). Put cells verdict took rest updated y c (updated (get_or (cells y) c rest) a) m) kept k.4,
      )

  pub finish_goes :
      (w : World) (s : S) (c t : ℕ) (r : Result (Unit {0}) Refusal) (x : World) (m : S) →
      One cells verdict took rest updated w s (Finish t) (noted (λ _. Done) r) x m →
      Living Running c t w →
      Went r w x × Calm c 0 x × (m ≡ s)
  finish_goes w s c t r x m h life =
      let k = taken cells verdict took rest updated (λ _. Done) w s (Finish t) r x m h (finish_yes w c t life) in
      ((k.1, ap count k.2), subst (Calm c 0) (sym k.2) (finished w c t life), k.4)
