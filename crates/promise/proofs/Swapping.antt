-- Steps that stand apart may change places.
-- Assumes nothing.
use Rattle.std.proofs.Common.{◌≡◌, ℕ, ◌<◌, ◌≤◌, true, false, ◌⊎◌, List, [], ◌∷◌, ◌++◌, length, get_or, set, sym, refl, inl, inr}
use Rattle.std.specs.List.{AllByRecursion as All}
use Rattle.std.proofs.lemmas.List.{get_or-set_same, get_or-set_other, set_comm, set-set, set_past}
use Rattle.std.proofs.lemmas.Bool.{cases_eq, cases_lt}
use Rattle.kinds.specs.declared.deed.Deed.{Deed}
use Rattle.kinds.specs.declared.deed.Deed.TheVariants.{Reading, Writing, Updating}
use Rattle.kinds.proofs.Every.{clash}
use Rattle.kinds.proofs.Laws.{may_swap}
use Rattle.promise.specs.Program.{Step, do_step, Finds, Replays}
use Rattle.promise.specs.Promise.{Commutes}

-- two steps that may change places: on different cells, or both reads, or both updates
abbrev pub Apart : {V : Type 0} → Step V → Step V → Type 0
Apart x y = x.cell ≡ y.cell → may_swap x.deed y.deed ≡ true

module _ {V : Type 0} (rest : V) (updated : V → V → V) (commutes : Commutes updated) where
  differ : (c d : ℕ) → (c ≡ d → false ≡ true) → c ≡ d → ⊥
  differ c d a e = clash (a e)

  back : (c d : ℕ) → (c ≡ d → ⊥) → d ≡ c → ⊥
  back c d n e = n (sym e)

  two_updates : (c d : ℕ) (v u : V) (s : List V) → do_step rest updated Updating d u (do_step rest updated Updating c v s) ≡ do_step rest updated Updating c v (do_step rest updated Updating d u s)
  two_updates c d v u s = go (cases_eq c d)
    where
      there : (c < length s) ⊎ (length s ≤ c) → set (set s c (updated (get_or s c rest) v)) c (updated (get_or (set s c (updated (get_or s c rest) v)) c rest) u) ≡ set (set s c (updated (get_or s c rest) u)) c (updated (get_or (set s c (updated (get_or s c rest) u)) c rest) v)
      there (inl h) =
          simp (set-set, get_or-set_same, commutes (get_or s c rest) v u)
      there (inr h) = simp (set_past)

      go : (c ≡ d) ⊎ (c ≡ d → ⊥) → do_step rest updated Updating d u (do_step rest updated Updating c v s) ≡ do_step rest updated Updating c v (do_step rest updated Updating d u s)
      go (inl e) = rw (← e) (there (cases_lt c (length s)))
      go (inr n) =
          let a = get_or-set_other s c d (updated (get_or s c rest) v) rest (back c d n) in
          let b = get_or-set_other s d c (updated (get_or s d rest) u) rest n in
          rw (a, b) (set_comm s c d (updated (get_or s c rest) v) (updated (get_or s d rest) u) n)

  pub exchange :
      (x y : Deed) (c d : ℕ) (v u : V) (s : List V) →
      (c ≡ d → may_swap x y ≡ true) →
      do_step rest updated y d u (do_step rest updated x c v s) ≡ do_step rest updated x c v (do_step rest updated y d u s)
  exchange Reading y c d v u s a = refl
  exchange Writing Reading c d v u s a = refl
  exchange Writing Writing c d v u s a = set_comm s c d v u (differ c d a)
  exchange Writing Updating c d v u s a =
      rw (get_or-set_other s c d v rest (back c d (differ c d a))) (set_comm s c d v (updated (get_or s d rest) u) (differ c d a))
  exchange Updating Reading c d v u s a = refl
  exchange Updating Writing c d v u s a =
      rw (get_or-set_other s d c u rest (differ c d a)) (set_comm s c d (updated (get_or s c rest) v) u (differ c d a))
  exchange Updating Updating c d v u s a = two_updates c d v u s

  -- what a read finds before and after a step that stands apart
  pub finds_before :
      (x y : Deed) (c d : ℕ) (v u : V) (s : List V) →
      (c ≡ d → may_swap x y ≡ true) →
      Finds rest updated y d u (do_step rest updated x c v s) →
      Finds rest updated y d u s
  finds_before Reading y c d v u s a h = h
  finds_before Writing Reading c d v u s a h = rw (get_or-set_other s c d v rest (back c d (differ c d a))) at h
  finds_before Writing Writing c d v u s a h = tt
  finds_before Writing Updating c d v u s a h = tt
  finds_before Updating Reading c d v u s a h = rw (get_or-set_other s c d (updated (get_or s c rest) v) rest (back c d (differ c d a))) at h
  finds_before Updating Writing c d v u s a h = tt
  finds_before Updating Updating c d v u s a h = tt

  pub finds_after :
      (x y : Deed) (c d : ℕ) (v u : V) (s : List V) →
      (c ≡ d → may_swap x y ≡ true) →
      Finds rest updated x c v s →
      Finds rest updated x c v (do_step rest updated y d u s)
  finds_after Reading Reading c d v u s a h = h
  finds_after Reading Writing c d v u s a h = rw (get_or-set_other s d c u rest (differ c d a)) h
  finds_after Reading Updating c d v u s a h = rw (get_or-set_other s d c (updated (get_or s d rest) u) rest (differ c d a)) h
  finds_after Writing y c d v u s a h = tt
  finds_after Updating y c d v u s a h = tt

  -- a step goes past all the steps xs from which it stands apart
  pub goes_past :
      (x : Step V) (xs ys : List (Step V)) (s f : List V) →
      All (Apart x) xs →
      Replays rest updated s (x ∷ (xs ++ ys)) f →
      Replays rest updated s (xs ++ (x ∷ ys)) f
  goes_past x [] ys s f a r = r
  goes_past x (y ∷ xs) ys s f a r =
      let now = finds_before x.deed y.deed x.cell y.cell x.value y.value s a.0 r.1.0 in
      let then = finds_after x.deed y.deed x.cell y.cell x.value y.value s a.0 r.0 in
      let moved = rw (exchange x.deed y.deed x.cell y.cell x.value y.value s a.0) at r.1.1 in
      (now, goes_past x xs ys (do_step rest updated y.deed y.cell y.value s) f a.1 (then, moved))
