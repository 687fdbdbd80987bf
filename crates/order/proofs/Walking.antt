-- A walk over runs in ascending order, from run to run as long as they touch and pass a test, finds whether a region passes it.
-- Assumes nothing.
use Rattle.std.proofs.Common.{◌≡◌, ℕ, ◌<◌, ◌≤◌, Bool, true, false, cond, not, ◌&&◌, ◌||◌, leb, ◌⊎◌, List, [], ◌∷◌, Some, None, Decides, Option, sym, refl, ap, ◌∙◌, inl, inr, arith}
use Rattle.std.proofs.lemmas.Bool.{and_parts, and_cases, cases_lt, cases_Bool, cond-true, cond-false, leb-true, le-leb}
use Rattle.std.proofs.lemmas.Bool.Decides.{same_from_decides}
use Rattle.std.specs.List.{fold}
use Rattle.kinds.specs.declared.holding.Holding.{Holding}
use Rattle.order.specs.declared.run.Run.{Run}
use Rattle.kinds.specs.Kinds.{within}
use Rattle.order.specs.Stretches.{held_at, apart_first, longest}
use Rattle.order.specs.Tasks.{every}
use Rattle.kinds.proofs.Every.{clash}
use Rattle.order.proofs.Stretched.{within_in, within_after, within_parts, first_run, none_below, region_each}

-- where the walk stands after a run
abbrev pub step_on : (Option Holding → Bool) → Run → ℕ → ℕ
step_on q r pos = cond (within r.lo r.hi pos && q (Some r.holding)) r.hi pos

-- where it stands after all of them
abbrev pub walk : (Option Holding → Bool) → List Run → ℕ → ℕ
walk q xs pos = fold (λ at r. step_on q r at) pos xs

-- the cells from pos up to, not including, e pass, and e does not
abbrev Walked : (Option Holding → Bool) → (ℕ → Option Holding) → ℕ → ℕ → Type 0
Walked q hold pos e = (pos ≤ e) × ((c : ℕ) → pos ≤ c → c < e → q (hold c) ≡ true) × (q (hold e) ≡ false)

module _ (q : Option Holding → Bool) (none : q None ≡ false) where
  walked : (xs : List Run) (pos : ℕ) → longest xs ≡ true → Walked q (held_at xs) pos (walk q xs pos)
  walked [] pos e = (omega arith, (λ c a b. absurd (omega arith)), none)
  walked (r ∷ more) pos e0 = go (within r.lo r.hi pos && q (Some r.holding)) refl (λ at. walked more at p.2)
    where
      p : (r.lo < r.hi) × (apart_first r more ≡ true) × (longest more ≡ true)
      p = first_run r more e0

      inside : (c : ℕ) → r.lo ≤ c → c < r.hi → held_at (r ∷ more) c ≡ Some r.holding
      inside c a b = cond-true (within r.lo r.hi c) (Some r.holding) (held_at more c) (within_in r.lo r.hi c a b)

      beyond : (c : ℕ) → r.hi ≤ c → held_at (r ∷ more) c ≡ held_at more c
      beyond c a = cond-false (within r.lo r.hi c) (Some r.holding) (held_at more c) (within_after r.lo r.hi c a)

      -- the run is taken
      on : r.lo ≤ pos → pos < r.hi → q (Some r.holding) ≡ true → (e : ℕ) → Walked q (held_at more) r.hi e → Walked q (held_at (r ∷ more)) pos e
      on a b y e w =
          let w0 = w.0 in (
            omega arith,
            (λ c f g. both c f g (cases_lt c r.hi)),
            ap q (beyond e w.0) ∙ w.2,
          )
        where
          both : (c : ℕ) → pos ≤ c → c < e → (c < r.hi) ⊎ (r.hi ≤ c) → q (held_at (r ∷ more) c) ≡ true
          both c f g (inl h) = ap q (inside c (omega arith) h) ∙ y
          both c f g (inr h) = ap q (beyond c h) ∙ w.1 c h g

      -- it ends before, and nothing changes
      past : r.hi ≤ pos → (e : ℕ) → Walked q (held_at more) pos e → Walked q (held_at (r ∷ more)) pos e
      past a e w =
          let w0 = w.0 in
          (w.0, (λ c f g. ap q (beyond c (omega arith)) ∙ w.1 c f g), ap q (beyond e (omega arith)) ∙ w.2)

      -- it is not taken and ends later: no other run has the position
      stay : pos < r.hi → (within r.lo r.hi pos && q (Some r.holding)) ≡ false → (e : ℕ) → Walked q (held_at more) pos e → Walked q (held_at (r ∷ more)) pos e
      stay a no_step e w = still (cases_lt pos e)
        where
          here : (within r.lo r.hi pos ≡ true) ⊎ (within r.lo r.hi pos ≡ false) → q (held_at (r ∷ more) pos) ≡ false
          here (inl h) = ap q (cond-true (within r.lo r.hi pos) (Some r.holding) (held_at more pos) h) ∙ other (and_cases _ _ no_step)
            where
              other : (within r.lo r.hi pos ≡ false) ⊎ (q (Some r.holding) ≡ false) → q (Some r.holding) ≡ false
              other (inl k) = clash (sym k ∙ h)
              other (inr k) = k
          here (inr h) = ap q (cond-false (within r.lo r.hi pos) (Some r.holding) (held_at more pos) h ∙ none_below r more pos e0 a) ∙ none

          still : (pos < e) ⊎ (e ≤ pos) → Walked q (held_at (r ∷ more)) pos e
          still (inl h) = clash (sym none ∙ (ap q (sym (none_below r more pos e0 a)) ∙ w.1 pos (omega arith) h))
          still (inr h) =
              let w0 = w.0 in
              let same : pos ≡ e = omega arith in
              (w.0, (λ c f g. absurd (omega arith)), ap (λ c. q (held_at (r ∷ more) c)) (sym same) ∙ here (cases_Bool (within r.lo r.hi pos)))

      go :
          (b : Bool) →
          (within r.lo r.hi pos && q (Some r.holding)) ≡ b →
          ((at : ℕ) → Walked q (held_at more) at (walk q more at)) →
          Walked q (held_at (r ∷ more)) pos (walk q more (cond b r.hi pos))
      go true y ih =
          let k = and_parts (within r.lo r.hi pos) (q (Some r.holding)) y in
          let m = within_parts r.lo r.hi pos k.0 in
          on m.0 m.1 k.1 (walk q more r.hi) (ih r.hi)
      go false y ih = either (cases_lt pos r.hi)
        where
          either : (pos < r.hi) ⊎ (r.hi ≤ pos) → Walked q (held_at (r ∷ more)) pos (walk q more pos)
          either (inl a) = stay a y (walk q more pos) (ih pos)
          either (inr a) = past a (walk q more pos) (ih pos)

  -- the walk passes the region's end exactly when each of its cells passes
  pub region_walked :
      (xs : List Run) (lo hi n : ℕ) →
      longest xs ≡ true →
      hi ≤ n →
      leb hi (walk q xs lo) ≡ every n (λ c. not (within lo hi c) || q (held_at xs c))
  region_walked xs lo hi n e h = same_from_decides _ _ by_walk (region_each lo hi n (λ c. q (held_at xs c)) h)
    where
      w : Walked q (held_at xs) lo (walk q xs lo)
      w = walked xs lo e

      back : ((c : ℕ) → lo ≤ c → c < hi → q (held_at xs c) ≡ true) → (walk q xs lo < hi) ⊎ (hi ≤ walk q xs lo) → leb hi (walk q xs lo) ≡ true
      back f (inl a) = clash (sym w.2 ∙ f (walk q xs lo) w.0 a)
      back f (inr a) = le-leb hi (walk q xs lo) a

      by_walk : Decides (leb hi (walk q xs lo)) ((c : ℕ) → lo ≤ c → c < hi → q (held_at xs c) ≡ true)
      by_walk = (
        (λ y c a b. let k = leb-true hi (walk q xs lo) y in w.1 c a (omega arith)),
        (λ f. back f (cases_lt (walk q xs lo) hi)),
      )
