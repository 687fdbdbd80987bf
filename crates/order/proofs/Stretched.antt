-- Runs in ascending order: what they hold of each cell, and tests of each run that decide a test of each cell.
-- Assumes nothing.
use Rattle.std.proofs.Common.{◌≡◌, ℕ, ◌<◌, ◌≤◌, min, max, Bool, true, false, not, ◌&&◌, ◌||◌, eqb, ltb, leb, ◌⊎◌, List, [], ◌∷◌, Some, None, Decides, Option, sym, refl, ap, ◌∙◌, inl, inr, arith}
use Rattle.std.proofs.lemmas.Bool.{and_parts, and_cases, and_from, and_left, and_right, or_cases, cases_lt, cond-true, cond-false, cond_both, not-true, not_from_false, ltb-true, leb-true, eqb-true, lt-ltb, le-ltb, le-leb, lt-leb}
use Rattle.std.proofs.lemmas.Bool.Decides.{same_from_decides}
use Rattle.std.specs.List.{find, list_all, list_any}
use Rattle.std.specs.Option.{MatchOption, IsSomeAnd, option_map}
use Rattle.kinds.specs.declared.holding.Holding.{Holding}
use Rattle.kinds.specs.declared.kind.Kind.TheVariants.{In}
use Rattle.order.specs.declared.run.Run.{Run}
use Rattle.kinds.specs.Kinds.{equal, within}
use Rattle.order.specs.Stretches.{held_at, apart, apart_first, longest, end_by}
use Rattle.order.specs.Tasks.{every}
use Rattle.kinds.proofs.Every.{clash, then, then_from}
use Rattle.order.proofs.Bounded.{every_at, every_from}

-- a cell and a region
pub within_in : (lo hi c : ℕ) → lo ≤ c → c < hi → within lo hi c ≡ true
within_in lo hi c a b = and_from (leb lo c) (ltb c hi) (le-leb lo c a) (lt-ltb c hi b)

pub within_before : (lo hi c : ℕ) → c < lo → within lo hi c ≡ false
within_before lo hi c a = and_left (leb lo c) (ltb c hi) (lt-leb lo c a)

pub within_after : (lo hi c : ℕ) → hi ≤ c → within lo hi c ≡ false
within_after lo hi c a = and_right (leb lo c) (ltb c hi) (le-ltb c hi a)

pub within_parts : (lo hi c : ℕ) → within lo hi c ≡ true → (lo ≤ c) × (c < hi)
within_parts lo hi c e =
    let p = and_parts (leb lo c) (ltb c hi) e in (leb-true lo c p.0, ltb-true c hi p.1)

-- the first run has a cell, stands apart from the next, and the others are longest stretches
pub first_run : (r : Run) (more : List Run) → longest (r ∷ more) ≡ true → (r.lo < r.hi) × (apart_first r more ≡ true) × (longest more ≡ true)
first_run r more e =
    let p = and_parts (ltb r.lo r.hi) (apart_first r more && longest more) e in
    let q = and_parts (apart_first r more) (longest more) p.1 in
    (ltb-true r.lo r.hi p.0, q.0, q.1)

pub apart_after : (r s : Run) → apart r s ≡ true → r.hi ≤ s.lo
apart_after r s e = go (or_cases (ltb r.hi s.lo) (eqb r.hi s.lo && not (equal r.holding s.holding)) e)
  where
    go : (ltb r.hi s.lo ≡ true) ⊎ ((eqb r.hi s.lo && not (equal r.holding s.holding)) ≡ true) → r.hi ≤ s.lo
    go (inl h) = let k = ltb-true r.hi s.lo h in omega arith
    go (inr h) = let k = eqb-true r.hi s.lo (and_parts _ _ h).0 in omega arith

-- no later run holds a cell below the end of a run
pub none_below : (r : Run) (more : List Run) (c : ℕ) → longest (r ∷ more) ≡ true → c < r.hi → held_at more c ≡ None
none_below r [] c e h = refl
none_below r (s ∷ more) c e h =
    let p = first_run r (s ∷ more) e in
    let q = first_run s more p.2 in
    let a = apart_after r s p.1 in
    cond-false (within s.lo s.hi c) (Some s.holding) (held_at more c) (within_before s.lo s.hi c (omega (arith, q.0)))
    ∙ none_below s more c p.2 (omega (arith, q.0))

-- no run holds a cell beyond their end
pub none_beyond : (n : ℕ) (xs : List Run) (c : ℕ) → end_by n xs ≡ true → n ≤ c → held_at xs c ≡ None
none_beyond n [] c e h = refl
none_beyond n (r ∷ more) c e h =
    let p = and_parts (leb r.hi n) (end_by n more) e in
    let a = leb-true r.hi n p.0 in
    cond-false (within r.lo r.hi c) (Some r.holding) (held_at more c) (within_after r.lo r.hi c (omega arith))
    ∙ none_beyond n more c p.1 h

-- they end by any later cell too
pub end_later : (m n : ℕ) (xs : List Run) → m ≤ n → end_by m xs ≡ true → end_by n xs ≡ true
end_later m n [] h e = refl
end_later m n (r ∷ more) h e =
    let p = and_parts (leb r.hi m) (end_by m more) e in
    let a = leb-true r.hi m p.0 in
    and_from (leb r.hi n) (end_by n more) (le-leb r.hi n (omega arith)) (end_later m n more h p.1)

-- a test g of what is held of each cell, which yields where nothing is held, comes out of a test t of each run
module _
    (t : Run → Bool)
    (g : Option Holding → ℕ → Bool)
    (none : (c : ℕ) → g None c ≡ true)
    (each : (r : Run) → r.lo < r.hi → Decides (t r) ((c : ℕ) → r.lo ≤ c → c < r.hi → g (Some r.holding) c ≡ true))
  where
    pub each_run : (xs : List Run) → longest xs ≡ true → Decides (list_all t xs) ((c : ℕ) → g (held_at xs c) c ≡ true)
    each_run [] e = ((λ _. none), (λ _. refl))
    each_run (r ∷ more) e = go (each_run more p.2)
      where
        p : (r.lo < r.hi) × (apart_first r more ≡ true) × (longest more ≡ true)
        p = first_run r more e

        first : (c : ℕ) → within r.lo r.hi c ≡ true → g (held_at (r ∷ more) c) c ≡ true → g (Some r.holding) c ≡ true
        first c w h = ap (λ o. g o c) (sym (cond-true (within r.lo r.hi c) (Some r.holding) (held_at more c) w)) ∙ h

        other : (c : ℕ) → g (held_at (r ∷ more) c) c ≡ true → (c < r.hi) ⊎ (r.hi ≤ c) → g (held_at more c) c ≡ true
        other c h (inl a) = ap (λ o. g o c) (none_below r more c e a) ∙ none c
        other c h (inr a) =
            ap (λ o. g o c) (sym (cond-false (within r.lo r.hi c) (Some r.holding) (held_at more c) (within_after r.lo r.hi c a)))
            ∙ h

        go : Decides (list_all t more) ((c : ℕ) → g (held_at more c) c ≡ true) → Decides (t r && list_all t more) ((c : ℕ) → g (held_at (r ∷ more) c) c ≡ true)
        go ih = (
          (λ h c.
              let q = and_parts (t r) (list_all t more) h in
              cond_both (within r.lo r.hi c) (Some r.holding) (held_at more c) (λ o. g o c ≡ true)
              (λ w. let k = within_parts r.lo r.hi c w in (each r p.0).0 q.0 c k.0 k.1)
              (λ w. ih.0 q.1 c)),
          (λ f.
              and_from (t r) (list_all t more) ((each r p.0).1 (λ c a b. first c (within_in r.lo r.hi c a b) (f c)))
              (ih.1 (λ c. other c (f c) (cases_lt c r.hi)))),
        )

-- a test that yields from n on holds everywhere if it holds below n
pub every_cell_decides : (n : ℕ) (f : ℕ → Bool) → ((c : ℕ) → n ≤ c → f c ≡ true) → Decides (every n f) ((c : ℕ) → f c ≡ true)
every_cell_decides n f beyond = ((λ e c. go e c (cases_lt c n)), (λ h. every_from n f (λ i _. h i)))
  where
    go : every n f ≡ true → (c : ℕ) → (c < n) ⊎ (n ≤ c) → f c ≡ true
    go e c (inl a) = every_at n f e c a
    go e c (inr a) = beyond c a

-- the test of each run is the test of each cell
pub runs_decide :
    (t : Run → Bool) (g : Option Holding → ℕ → Bool) →
    ((c : ℕ) → g None c ≡ true) →
    ((r : Run) → r.lo < r.hi → Decides (t r) ((c : ℕ) → r.lo ≤ c → c < r.hi → g (Some r.holding) c ≡ true)) →
    (xs : List Run) (n : ℕ) →
    longest xs ≡ true →
    end_by n xs ≡ true →
    list_all t xs ≡ every n (λ c. g (held_at xs c) c)
runs_decide t g none each xs n e h =
    same_from_decides (list_all t xs) (every n (λ c. g (held_at xs c) c)) (each_run t g none each xs e)
    (every_cell_decides n (λ c. g (held_at xs c) c) (λ c a. ap (λ o. g o c) (none_beyond n xs c h a) ∙ none c))

-- each cell of a region passes
pub region_each :
    (lo hi n : ℕ) (f : ℕ → Bool) →
    hi ≤ n →
    Decides (every n (λ c. not (within lo hi c) || f c)) ((c : ℕ) → lo ≤ c → c < hi → f c ≡ true)
region_each lo hi n f h = (
  (λ y c a b. then (within lo hi c) (f c) (every_at n (λ d. not (within lo hi d) || f d) y c (omega arith)) (within_in lo hi c a b)),
  (λ g.
      every_from n (λ d. not (within lo hi d) || f d)
      (λ c _. then_from (within lo hi c) (f c) (λ k. let m = within_parts lo hi c k in g c m.0 m.1))),
)

-- a test of each cell of a run
abbrev pub over : (Option Holding → ℕ → Bool) → Run → Bool
over g r = every r.hi (λ c. not (within r.lo r.hi c) || g (Some r.holding) c)

-- no cell lies both in the region and in the run, or the run fails the test
abbrev pub beside : (Option Holding → Bool) → ℕ → ℕ → Run → Bool
beside q lo hi r = not (ltb (max lo r.lo) (min hi r.hi) && q (Some r.holding))

-- a test of the cells of each run is a test of each cell
pub runs_each :
    (g : Option Holding → ℕ → Bool) →
    ((c : ℕ) → g None c ≡ true) →
    (xs : List Run) (n : ℕ) →
    longest xs ≡ true →
    end_by n xs ≡ true →
    list_all (over g) xs ≡ every n (λ c. g (held_at xs c) c)
runs_each g none =
    runs_decide (over g) g none
    (λ r _. region_each r.lo r.hi r.hi (g (Some r.holding)) (omega arith))

-- a test of a holding alone
pub runs_plain :
    (q : Option Holding → Bool) →
    q None ≡ false →
    (xs : List Run) (n : ℕ) →
    longest xs ≡ true →
    end_by n xs ≡ true →
    list_all (λ r. not (q (Some r.holding))) xs ≡ every n (λ c. not (q (held_at xs c)))
runs_plain q none =
    runs_decide (λ r. not (q (Some r.holding))) (λ h c. not (q h)) (λ c. ap not none)
    (λ r h. ((λ y c a b. y), (λ f. f r.lo (omega arith) h)))

-- a test of the runs that share a cell with a region
pub runs_beside :
    (q : Option Holding → Bool) →
    q None ≡ false →
    (lo hi : ℕ) (xs : List Run) →
    longest xs ≡ true →
    list_all (beside q lo hi) xs
    ≡ every hi (λ c. not (within lo hi c) || not (q (held_at xs c)))
runs_beside q none lo hi xs e =
    same_from_decides _ _
    (
    each_run (beside q lo hi) (λ h c. not (within lo hi c) || not (q h))
    (λ c. then_from (within lo hi c) (not (q None)) (λ _. ap not none)) each xs e
    )
    (every_cell_decides hi (λ c. not (within lo hi c) || not (q (held_at xs c))) (λ c a. then_from (within lo hi c) _ (λ w. clash (sym (within_after lo hi c a) ∙ w))))
  where
    each :
        (r : Run) →
        r.lo < r.hi →
        Decides (not (ltb (max lo r.lo) (min hi r.hi) && q (Some r.holding)))
        ((c : ℕ) → r.lo ≤ c → c < r.hi → (not (within lo hi c) || not (q (Some r.holding))) ≡ true)
    each r h = (to, λ f. from f (cases_lt (max lo r.lo) (min hi r.hi)))
      where
        to :
            not (ltb (max lo r.lo) (min hi r.hi) && q (Some r.holding)) ≡ true →
            (c : ℕ) → r.lo ≤ c → c < r.hi → (not (within lo hi c) || not (q (Some r.holding))) ≡ true
        to y c a b =
            then_from (within lo hi c) (not (q (Some r.holding)))
            (λ w.
            let m = within_parts lo hi c w in
            let k : max lo r.lo < min hi r.hi = omega (arith, m.0, m.1) in
            meet (and_cases _ _ (not-true _ y)) (lt-ltb _ _ k))
          where
            meet :
                (ltb (max lo r.lo) (min hi r.hi) ≡ false) ⊎ (q (Some r.holding) ≡ false) →
                ltb (max lo r.lo) (min hi r.hi) ≡ true →
                not (q (Some r.holding)) ≡ true
            meet (inl x) z = clash (sym x ∙ z)
            meet (inr x) z = not_from_false _ x

        from :
            ((c : ℕ) → r.lo ≤ c → c < r.hi → (not (within lo hi c) || not (q (Some r.holding))) ≡ true) →
            (max lo r.lo < min hi r.hi) ⊎ (min hi r.hi ≤ max lo r.lo) →
            not (ltb (max lo r.lo) (min hi r.hi) && q (Some r.holding)) ≡ true
        from f (inl k) =
            let w = within_in lo hi (max lo r.lo) (omega arith) (omega arith) in
            not_from_false _
            (and_right _ _ (not-true _ (then _ (not (q (Some r.holding))) (f (max lo r.lo) (omega arith) (omega arith)) w)))
        from f (inr k) = not_from_false _ (and_left _ _ (le-ltb _ _ k))

-- some run passes a test where not all pass its opposite
some_run : (t u : Run → Bool) → ((r : Run) → t r ≡ not (u r)) → (xs : List Run) → list_any t xs ≡ not (list_all u xs)
some_run t u e [] = refl
some_run t u e (r ∷ more) = ap (λ b. b || list_any t more) (e r) ∙ (ap (λ b. not (u r) || b) (some_run t u e more) ∙ de_morgan (u r) (list_all u more))
  where
    de_morgan : (a b : Bool) → (not a || not b) ≡ not (a && b)
    de_morgan true b = refl
    de_morgan false b = refl

twice : (b : Bool) → b ≡ not (not b)
twice true = refl
twice false = refl

-- the three tests, asked of some run
pub some_each :
    (g : Option Holding → ℕ → Bool) →
    ((c : ℕ) → g None c ≡ true) →
    (xs : List Run) (n : ℕ) →
    longest xs ≡ true →
    end_by n xs ≡ true →
    list_any (λ r. not (over g r)) xs ≡ not (every n (λ c. g (held_at xs c) c))
some_each g none xs n e h = some_run (λ r. not (over g r)) (over g) (λ r. refl) xs ∙ ap not (runs_each g none xs n e h)

pub some_plain :
    (q : Option Holding → Bool) →
    q None ≡ false →
    (xs : List Run) (n : ℕ) →
    longest xs ≡ true →
    end_by n xs ≡ true →
    list_any (λ r. q (Some r.holding)) xs ≡ not (every n (λ c. not (q (held_at xs c))))
some_plain q none xs n e h =
    some_run (λ r. q (Some r.holding)) (λ r. not (q (Some r.holding))) (λ r. twice (q (Some r.holding))) xs
    ∙ ap not (runs_plain q none xs n e h)

pub some_beside :
    (q : Option Holding → Bool) →
    q None ≡ false →
    (lo hi : ℕ) (xs : List Run) →
    longest xs ≡ true →
    list_any (λ r. ltb (max lo r.lo) (min hi r.hi) && q (Some r.holding)) xs
    ≡ not (every hi (λ c. not (within lo hi c) || not (q (held_at xs c))))
some_beside q none lo hi xs e =
    some_run (λ r. ltb (max lo r.lo) (min hi r.hi) && q (Some r.holding)) (beside q lo hi) (λ r. twice (ltb (max lo r.lo) (min hi r.hi) && q (Some r.holding))) xs
    ∙ ap not (runs_beside q none lo hi xs e)

-- what the run that has the cell, if one was found, holds
pub held_found : (c : ℕ) (xs : List Run) → option_map (λ r. r.holding) (find (λ r. within r.lo r.hi c) xs) ≡ held_at xs c
held_found c [] = refl
held_found c (r ∷ more) =
    cond_both (within r.lo r.hi c) (Some r) (find (λ s. within s.lo s.hi c) more) (λ o. option_map (λ s. s.holding) o ≡ held_at (r ∷ more) c)
    (λ w. sym (cond-true (within r.lo r.hi c) (Some r.holding) (held_at more c) w))
    (λ w. held_found c more ∙ sym (cond-false (within r.lo r.hi c) (Some r.holding) (held_at more c) w))

pub read_found :
    {A : Type 0} (v : A → Run) (P : A → Holding → Type 0) (o : Option A) (r : Option Holding) →
    MatchOption o (r ≡ None) (λ x. IsSomeAnd r (P x)) →
    ((x : A) (h : Holding) → P x h → h ≡ (v x).holding) →
    r ≡ option_map (λ s. s.holding) (option_map v o)
read_found v P None r e f = e
read_found v P (Some x) None e f = absurd e
read_found v P (Some x) (Some h) e f = ap Some (f x h e)

-- what a read beyond the end would give
abbrev pub blank : Run
blank = record { lo = 0; hi = 0; holding = record { kind = In; strong = false } }
