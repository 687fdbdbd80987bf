-- One more call at the end of a history.
-- Assumes nothing.
use Rattle.std.proofs.Common.{◌≡◌, ℕ, Bool, true, false, List, [], ◌∷◌, ◌++◌, sym, refl, ap, subst}
use Rattle.order.specs.Questions.{Call, all_yes, first_number, after}
use Rattle.order.specs.Tasks.{World}
use Rattle.promise.specs.Program.{Entry, took, refused, Reply}
use Rattle.promise.specs.Runs.{all_questions, world, Replied, cells_after, Runs}

module _ {V : Type 0} where
  pub world_took : (h : List (Entry V)) (w : World) (k : Call) (v : V) (a : Reply V) → world w (h ++ took k v a ∷ []) ≡ after (world w h) k
  world_took [] w k v a = refl
  world_took (took j u b ∷ h) w k v a = world_took h (after w j) k v a
  world_took (refused j o n ∷ h) w k v a = world_took h w k v a

  pub world_refused : (h : List (Entry V)) (w : World) (k : Call) (o : Bool) (n : ℕ) → world w (h ++ refused k o n ∷ []) ≡ world w h
  world_refused [] w k o n = refl
  world_refused (took j u b ∷ h) w k o n = world_refused h (after w j) k o n
  world_refused (refused j p m ∷ h) w k o n = world_refused h w k o n

module _ {V : Type 0} (rest : V) (updated : V → V → V) where
  pub runs_took :
      (h : List (Entry V)) (w : World) (s f : List V) (k : Call) (v : V) (a : Reply V) →
      Runs rest updated w s h f →
      all_yes (all_questions (world w h) true k) ≡ true →
      Replied rest updated (world w h) f k a →
      Runs rest updated w s (h ++ took k v a ∷ []) (cells_after rest updated f k v)
  runs_took [] w s f k v a r y p = (
    y,
    subst (λ (z : List V). Replied rest updated w z k a) (sym r) p,
    ap (λ (z : List V). cells_after rest updated z k v) r,
  )
  runs_took (took j u b ∷ h) w s f k v a r y p = (r.0, r.1, runs_took h (after w j) (cells_after rest updated s j u) f k v a r.2 y p)
  runs_took (refused j o n ∷ h) w s f k v a r y p = (r.0, r.1, runs_took h w s f k v a r.2 y p)

  pub runs_refused :
      (h : List (Entry V)) (w : World) (s f : List V) (k : Call) (o : Bool) (n : ℕ) →
      Runs rest updated w s h f →
      all_yes (all_questions (world w h) o k) ≡ false →
      first_number (all_questions (world w h) o k) ≡ n →
      Runs rest updated w s (h ++ refused k o n ∷ []) f
  runs_refused [] w s f k o n r y p = (y, p, r)
  runs_refused (took j u b ∷ h) w s f k o n r y p = (r.0, r.1, runs_refused h (after w j) (cells_after rest updated s j u) f k o n r.2 y p)
  runs_refused (refused j q m ∷ h) w s f k o n r y p = (r.0, r.1, runs_refused h w s f k o n r.2 y p)
