-- A sweep over the bounds of accesses: between two bounds all cells are asked alike, and each step passes a bound.
-- Assumes nothing.
use Rattle.std.proofs.Common.{◌≡◌, ℕ, ◌+◌, ◌-◌, ◌*◌, ◌<◌, ◌≤◌, Bool, true, false, cond, ◌&&◌, ltb, leb, ◌⊎◌, List, [], ◌∷◌, length, Some, None, Option, sym, refl, ap, ◌∙◌, subst, inl, inr, arith}
use Rattle.std.specs.List.{fold, FoldsTo, reduce, filter_map, cons_option}
use Rattle.std.proofs.lemmas.Bool.{and_parts, and_from, cases_lt, cond-true, cond-false, cond_both, lt-ltb, le-ltb, ltb-true, ltb-false, le-leb, lt-leb, leb-true}
use Rattle.std.proofs.lemmas.Iterator.{YieldsList}
use Rattle.std.proofs.lemmas.Iterator.Consumers.{reduce_from_yields_List}
use Rattle.std.specs.Fn.{Called}
use Rattle.std.specs.Iterator.{ReducesItems}
use denote.Param.Members.{Mut}
use Rattle.kinds.specs.declared.access.Access.{Access}
use Rattle.kinds.specs.declared.holding.Holding.{Holding}
use Rattle.order.specs.declared.run.Run.{Run}
use Rattle.kinds.specs.Kinds.{asked, combine, combine_held, holding_of, within}
use Rattle.order.specs.Questions.{region_lies, regions_lie}
use Rattle.order.specs.Stretches.{held_at, apart_first, longest, end_by}
use Rattle.order.specs.Sweeping.{asked_by, sooner, better, nearest}
use Rattle.order.specs.Tasks.{World}
use Rattle.kinds.proofs.Combining.{combine_held_lawful}
use Rattle.order.proofs.Stretched.{within_in, within_before, within_after, first_run, none_below}

-- what `reduce` gives at a closure that computes h and changes nothing
folds :
    {A F : Type 0} {f : F} (g : Mut F (A × (A × Unit {0})) A) (h : A → A → A) →
    ((a b r : A) (q : F) → Called g f (a, (b, tt)) r q → (q ≡ f) × (r ≡ h a b)) →
    (xs : List A) (p q : F × A) →
    p.0 ≡ f →
    FoldsTo {P = F × A} (λ p z c. Called g p.0 (p.1, (z, tt)) c.1 c.0) p xs q →
    FoldsTo (λ a z c. c ≡ h a z) p.1 xs q.1
folds g h k [] p q e r = ap (λ w. w.1) r
folds g h k (z ∷ more) p q e (j, c, t) =
    let d = k p.1 z j.1 j.0 (subst (λ w. Called g w (p.1, (z, tt)) j.1 j.0) e c) in
    (j.1, d.1, folds g h k more j q d.0 t)

pub reduced :
    {S A F : Type 0} {steps : S → Option A → S → Type 0} {s : S} {all : List A} {f : F} (g : Mut F (A × (A × Unit {0})) A) (h : A → A → A) (r : Option A) →
    ReducesItems steps g s f r →
    YieldsList steps (λ x. x) s all →
    ((a b r : A) (q : F) → Called g f (a, (b, tt)) r q → (q ≡ f) × (r ≡ h a b)) →
    r ≡ reduce h all
reduced {s = s} g h None m road k = reduce_from_yields_List h s None m road
reduced {s = s} {f = f} g h (Some y) (x, xs, q, d, t) road k = reduce_from_yields_List h s (Some y) (x, xs, d, folds g h k xs (f, x) (q, y) refl t) road

-- what the accesses ask of a cell, combined from the first on
combined_on : (ys : List Holding) (h : Holding) → Some (fold combine h ys) ≡ combine_held (Some h) (reduce combine ys)
combined_on [] h = refl
combined_on (y ∷ more) h =
    combined_on more (combine h y)
    ∙ (combine_held_lawful.associates (Some h) (Some y) (reduce combine more)
    ∙ ap (combine_held (Some h)) (sym (combined_on more y)))

pub asked_reduce : (xs : List Access) (c : ℕ) → reduce combine (filter_map (λ a. asked_by a c) xs) ≡ asked xs c
asked_reduce [] c = refl
asked_reduce (a ∷ more) c = go (asked_by a c) (asked_reduce more c)
  where
    rest : List Holding
    rest = filter_map (λ x. asked_by x c) more

    go : (o : Option Holding) → reduce combine rest ≡ asked more c → reduce combine (cons_option o rest) ≡ combine_held o (asked more c)
    go None e = e
    go (Some h) e = combined_on rest h ∙ ap (combine_held (Some h)) e

-- what a fold over the accesses finds
pub nearest_fold : (pos : ℕ) (xs : List Access) (best : Option ℕ) → fold (λ b a. better pos a.hi (better pos a.lo b)) best xs ≡ nearest pos xs best
nearest_fold pos [] best = refl
nearest_fold pos (a ∷ more) best = nearest_fold pos more (better pos a.hi (better pos a.lo best))

-- a bound that is found lies at d or before
abbrev AtMost : Option ℕ → ℕ → Type 0
AtMost None d = ⊥
AtMost (Some x) d = x ≤ d

-- a bound that is found lies above pos
abbrev Over : ℕ → Option ℕ → Type 0
Over pos None = Unit {0}
Over pos (Some x) = pos < x

better_keeps : (pos b : ℕ) (best : Option ℕ) (d : ℕ) → AtMost best d → AtMost (better pos b best) d
better_keeps pos b None d h = absurd h
better_keeps pos b (Some x) d h =
    cond_both (ltb pos b && ltb b x) (Some b) (Some x) (λ o. AtMost o d)
    (λ e. let k = ltb-true b x (and_parts (ltb pos b) (ltb b x) e).1 in omega arith)
    (λ e. h)

better_found : (pos b : ℕ) (best : Option ℕ) → (b ≤ pos) ⊎ AtMost (better pos b best) b
better_found pos b best = go (cases_lt pos b) best
  where
    go : (pos < b) ⊎ (b ≤ pos) → (best : Option ℕ) → (b ≤ pos) ⊎ AtMost (better pos b best) b
    go (inr h) best = inl h
    go (inl h) None = let e = lt-ltb pos b h in inr (rw e (omega arith))
    go (inl h) (Some x) =
        let e = lt-ltb pos b h in
        inr (rw e (cond_both (ltb b x) (Some b) (Some x) (λ o. AtMost o b) (λ _. omega arith) (λ k. ltb-false b x k)))

better_over : (pos b : ℕ) (best : Option ℕ) → Over pos best → Over pos (better pos b best)
better_over pos b best h =
    cond_both (ltb pos b && sooner b best) (Some b) best (Over pos) (λ e. ltb-true pos b (and_parts (ltb pos b) (sooner b best) e).0) (λ _. h)

nearest_keeps : (pos : ℕ) (xs : List Access) (best : Option ℕ) (d : ℕ) → AtMost best d → AtMost (nearest pos xs best) d
nearest_keeps pos [] best d h = h
nearest_keeps pos (a ∷ more) best d h =
    nearest_keeps pos more (better pos a.hi (better pos a.lo best)) d
    (better_keeps pos a.hi (better pos a.lo best) d (better_keeps pos a.lo best d h))

nearest_over : (pos : ℕ) (xs : List Access) (best : Option ℕ) → Over pos best → Over pos (nearest pos xs best)
nearest_over pos [] best h = h
nearest_over pos (a ∷ more) best h =
    nearest_over pos more (better pos a.hi (better pos a.lo best)) (better_over pos a.hi (better pos a.lo best) (better_over pos a.lo best h))

-- no bound lies above pos and before the one found
abbrev Clear : Option ℕ → ℕ → List Access → Type 0
Clear o pos [] = Unit {0}
Clear o pos (a ∷ more) = ((a.lo ≤ pos) ⊎ AtMost o a.lo) × ((a.hi ≤ pos) ⊎ AtMost o a.hi) × Clear o pos more

nearest_clear : (pos : ℕ) (xs : List Access) (best : Option ℕ) → Clear (nearest pos xs best) pos xs
nearest_clear pos [] best = tt
nearest_clear pos (a ∷ more) best = (low (better_found pos a.lo best), high (better_found pos a.hi b1), nearest_clear pos more b2)
  where
    b1 : Option ℕ
    b1 = better pos a.lo best

    b2 : Option ℕ
    b2 = better pos a.hi b1

    low : (a.lo ≤ pos) ⊎ AtMost b1 a.lo → (a.lo ≤ pos) ⊎ AtMost (nearest pos more b2) a.lo
    low (inl h) = inl h
    low (inr h) = inr (nearest_keeps pos more b2 a.lo (better_keeps pos a.hi b1 a.lo h))

    high : (a.hi ≤ pos) ⊎ AtMost b2 a.hi → (a.hi ≤ pos) ⊎ AtMost (nearest pos more b2) a.hi
    high (inl h) = inl h
    high (inr h) = inr (nearest_keeps pos more b2 a.hi h)

-- how many bounds lie above pos
abbrev bit : Bool → ℕ
bit b = cond b 1 0

abbrev pub above : ℕ → List Access → ℕ
above pos [] = 0
above pos (a ∷ more) = bit (ltb pos a.lo) + (bit (ltb pos a.hi) + above pos more)

bit_most : (b : Bool) → bit b ≤ 1
bit_most true = omega arith
bit_most false = omega arith

bit_falls : (pos q x : ℕ) → pos ≤ q → bit (ltb q x) ≤ bit (ltb pos x)
bit_falls pos q x h = go (cases_lt q x)
  where
    go : (q < x) ⊎ (x ≤ q) → bit (ltb q x) ≤ bit (ltb pos x)
    go (inl k) = let a = lt-ltb q x k in let b = lt-ltb pos x (omega arith) in rw (a, b) (omega arith)
    go (inr k) = let a = le-ltb q x k in rw a (omega arith)

bit_passed : (pos x : ℕ) → pos < x → bit (ltb x x) + 1 ≤ bit (ltb pos x)
bit_passed pos x h = let a = le-ltb x x (omega arith) in let b = lt-ltb pos x h in rw (a, b) (omega arith)

above_falls : (pos q : ℕ) (xs : List Access) → pos ≤ q → above q xs ≤ above pos xs
above_falls pos q [] h = omega arith
above_falls pos q (a ∷ more) h =
    let i = bit_falls pos q a.lo h in
    let j = bit_falls pos q a.hi h in
    let k = above_falls pos q more h in
    omega arith

pub above_most : (pos : ℕ) (xs : List Access) → above pos xs ≤ 2 * length xs
above_most pos [] = omega arith
above_most pos (a ∷ more) =
    let i = bit_most (ltb pos a.lo) in
    let j = bit_most (ltb pos a.hi) in
    let k = above_most pos more in
    omega arith

better_from : (pos b e : ℕ) (best : Option ℕ) → better pos b best ≡ Some e → (best ≡ Some e) ⊎ ((pos < b) × (b ≡ e))
better_from pos b e best = go (ltb pos b && sooner b best) refl
  where
    go : (x : Bool) → (ltb pos b && sooner b best) ≡ x → cond x (Some b) best ≡ Some e → (best ≡ Some e) ⊎ ((pos < b) × (b ≡ e))
    go true p q = inr (ltb-true pos b (and_parts (ltb pos b) (sooner b best) p).0, cc)
    go false p q = inl q

passes : (pos e : ℕ) → pos ≤ e → (xs : List Access) (best : Option ℕ) → nearest pos xs best ≡ Some e → (best ≡ Some e) ⊎ (above e xs + 1 ≤ above pos xs)
passes pos e h [] best p = inl p
passes pos e h (a ∷ more) best p = go (passes pos e h more (better pos a.hi (better pos a.lo best)) p)
  where
    i : bit (ltb e a.lo) ≤ bit (ltb pos a.lo)
    i = bit_falls pos e a.lo h

    j : bit (ltb e a.hi) ≤ bit (ltb pos a.hi)
    j = bit_falls pos e a.hi h

    k : above e more ≤ above pos more
    k = above_falls pos e more h

    low : (best ≡ Some e) ⊎ ((pos < a.lo) × (a.lo ≡ e)) → (best ≡ Some e) ⊎ (above e (a ∷ more) + 1 ≤ above pos (a ∷ more))
    low (inl x) = inl x
    low (inr x) =
        let y : bit (ltb e a.lo) + 1 ≤ bit (ltb pos a.lo) = rw (sym x.1) (bit_passed pos a.lo x.0) in
        let j' = j in
        let k' = k in
        inr (omega arith)

    high : (better pos a.lo best ≡ Some e) ⊎ ((pos < a.hi) × (a.hi ≡ e)) → (best ≡ Some e) ⊎ (above e (a ∷ more) + 1 ≤ above pos (a ∷ more))
    high (inl x) = low (better_from pos a.lo e best x)
    high (inr x) =
        let y : bit (ltb e a.hi) + 1 ≤ bit (ltb pos a.hi) = rw (sym x.1) (bit_passed pos a.hi x.0) in
        let i' = i in
        let k' = k in
        inr (omega arith)

    go : (better pos a.hi (better pos a.lo best) ≡ Some e) ⊎ (above e more + 1 ≤ above pos more) → (best ≡ Some e) ⊎ (above e (a ∷ more) + 1 ≤ above pos (a ∷ more))
    go (inl x) = high (better_from pos a.hi e (better pos a.lo best) x)
    go (inr x) = let i' = i in let j' = j in inr (omega arith)

-- the next bound lies above, and fewer bounds lie above it
pub next_over : (pos e : ℕ) (xs : List Access) → nearest pos xs None ≡ Some e → pos < e
next_over pos e xs p = let P : Option ℕ → Type 0 = Over pos in subst P p (nearest_over pos xs None tt)

pub next_passes : (pos e : ℕ) (xs : List Access) → nearest pos xs None ≡ Some e → above e xs + 1 ≤ above pos xs
next_passes pos e xs p = let h = next_over pos e xs p in go (passes pos e (omega arith) xs None p)
  where
    go : (None ≡ Some e) ⊎ (above e xs + 1 ≤ above pos xs) → above e xs + 1 ≤ above pos xs
    go (inl x) = let z : ◌≡◌ {A = ℕ} 0 1 = cc in absurd (omega arith)
    go (inr x) = x

-- no bound lies between pos and a cell before the next bound, so they are asked alike
asked_alike : (pos e c : ℕ) (xs : List Access) → Clear (Some e) pos xs → pos < e → pos ≤ c → c < e → asked xs c ≡ asked xs pos
asked_alike pos e c [] k h a b = refl
asked_alike pos e c (x ∷ more) k h a b =
    ap (λ t. combine_held (cond t (holding_of x.code) None) (asked more c)) (ap (λ t. t && ltb c x.hi) (low k.0) ∙ ap (λ t. leb x.lo pos && t) (high k.1))
    ∙ ap (combine_held (asked_by x pos)) (asked_alike pos e c more k.2 h a b)
  where
    low : (x.lo ≤ pos) ⊎ (e ≤ x.lo) → leb x.lo c ≡ leb x.lo pos
    low (inl i) = le-leb x.lo c (omega arith) ∙ sym (le-leb x.lo pos i)
    low (inr i) = lt-leb x.lo c (omega arith) ∙ sym (lt-leb x.lo pos (omega arith))

    high : (x.hi ≤ pos) ⊎ (e ≤ x.hi) → ltb c x.hi ≡ ltb pos x.hi
    high (inl i) = le-ltb c x.hi (omega arith) ∙ sym (le-ltb pos x.hi i)
    high (inr i) = lt-ltb c x.hi (omega arith) ∙ sym (lt-ltb pos x.hi (omega arith))

-- beyond the last bound nothing is asked
asked_none : (pos c : ℕ) (xs : List Access) → Clear None pos xs → pos ≤ c → asked xs c ≡ None
asked_none pos c [] k a = refl
asked_none pos c (x ∷ more) k a =
    ap (λ h. combine_held h (asked more c)) (cond-false _ (holding_of x.code) None (within_after x.lo x.hi c (high k.1)))
    ∙ asked_none pos c more k.2 a
  where
    high : (x.hi ≤ pos) ⊎ ⊥ → x.hi ≤ c
    high (inl i) = omega arith
    high (inr i) = absurd i

-- what the sweep holds up to pos of the cell c
abbrev pub swept : List Access → ℕ → ℕ → Option Holding
swept xs pos c = cond (ltb c pos) (asked xs c) None

-- a stretch is added to it
pub swept_more :
    (pos e c : ℕ) (xs : List Access) →
    nearest pos xs None ≡ Some e →
    cond (within pos e c) (asked xs pos) (swept xs pos c) ≡ swept xs e c
swept_more pos e c xs p = go (cases_lt c pos) (cases_lt c e)
  where
    h : pos < e
    h = next_over pos e xs p

    k : Clear (Some e) pos xs
    k = let P : Option ℕ → Type 0 = λ o. Clear o pos xs in subst P p (nearest_clear pos xs None)

    go : (c < pos) ⊎ (pos ≤ c) → (c < e) ⊎ (e ≤ c) → cond (within pos e c) (asked xs pos) (swept xs pos c) ≡ swept xs e c
    go (inl a) b =
        let h' = h in
        cond-false _ _ _ (within_before pos e c a)
        ∙ (cond-true _ (asked xs c) None (lt-ltb c pos a) ∙ sym (cond-true _ (asked xs c) None (lt-ltb c e (omega arith))))
    go (inr a) (inl b) =
        cond-true _ (asked xs pos) (swept xs pos c) (within_in pos e c a b)
        ∙ (sym (asked_alike pos e c xs k h a b) ∙ sym (cond-true _ (asked xs c) None (lt-ltb c e b)))
    go (inr a) (inr b) =
        cond-false _ (asked xs pos) (swept xs pos c) (within_after pos e c b)
        ∙ (cond-false _ (asked xs c) None (le-ltb c pos a) ∙ sym (cond-false _ (asked xs c) None (le-ltb c e b)))

-- a stretch that is not asked adds nothing
pub swept_none : (pos e c : ℕ) (xs : List Access) → nearest pos xs None ≡ Some e → asked xs pos ≡ None → swept xs pos c ≡ swept xs e c
swept_none pos e c xs p n = go (cases_lt c pos) ∙ (ap (λ o. cond (within pos e c) o (swept xs pos c)) (sym n) ∙ swept_more pos e c xs p)
  where
    go : (c < pos) ⊎ (pos ≤ c) → swept xs pos c ≡ cond (within pos e c) None (swept xs pos c)
    go (inl a) = sym (cond-false _ None (swept xs pos c) (within_before pos e c a))
    go (inr a) =
        let e' = cond-false (ltb c pos) (asked xs c) None (le-ltb c pos a) in
        e' ∙ (sym (both (within pos e c)) ∙ ap (cond (within pos e c) None) (sym e'))
      where
        both : (b : Bool) → cond {A = Option Holding} b None None ≡ None
        both true = refl
        both false = refl

-- at the end all is swept
pub swept_all : (pos c : ℕ) (xs : List Access) → nearest pos xs None ≡ None → swept xs pos c ≡ asked xs c
swept_all pos c xs p = go (cases_lt c pos)
  where
    k : Clear None pos xs
    k = let P : Option ℕ → Type 0 = λ o. Clear o pos xs in subst P p (nearest_clear pos xs None)

    go : (c < pos) ⊎ (pos ≤ c) → swept xs pos c ≡ asked xs c
    go (inl a) = cond-true _ (asked xs c) None (lt-ltb c pos a)
    go (inr a) = cond-false _ (asked xs c) None (le-ltb c pos a) ∙ sym (asked_none pos c xs k a)

-- regions that lie within the cells ask nothing beyond them
lie_within : (w : World) (xs : List Access) (c : ℕ) → regions_lie w xs ≡ true → w.cells ≤ c → asked xs c ≡ None
lie_within w [] c e h = refl
lie_within w (x ∷ more) c e h =
    let p = and_parts (region_lies w x.lo x.hi) (regions_lie w more) e in
    let k = leb-true x.hi w.cells (and_parts (ltb x.lo x.hi) (leb x.hi w.cells) p.0).1 in
    ap (λ t. combine_held t (asked more c)) (cond-false _ (holding_of x.code) None (within_after x.lo x.hi c (omega arith)))
    ∙ lie_within w more c p.1 h

-- runs that hold nothing from n on end by n
end_from_held : (n : ℕ) (xs : List Run) → longest xs ≡ true → ((c : ℕ) → n ≤ c → held_at xs c ≡ None) → end_by n xs ≡ true
end_from_held n [] e f = refl
end_from_held n (r ∷ more) e f =
    and_from (leb r.hi n) (end_by n more) (le-leb r.hi n (last (cases_lt n r.hi)))
    (end_from_held n more p.2 (λ c h. rest c h (cases_lt c r.hi)))
  where
    p : (r.lo < r.hi) × (apart_first r more ≡ true) × (longest more ≡ true)
    p = first_run r more e

    last : (n < r.hi) ⊎ (r.hi ≤ n) → r.hi ≤ n
    last (inr h) = h
    last (inl h) =
        let x = p.0 in
        let i : Some r.holding ≡ held_at (r ∷ more) (r.hi - 1) =
        sym (cond-true _ (Some r.holding) (held_at more (r.hi - 1)) (within_in r.lo r.hi (r.hi - 1) (omega arith) (omega arith))) in
        let j = f (r.hi - 1) (omega arith) in
        let z : ◌≡◌ {A = ℕ} 0 1 = cc in
        absurd (omega arith)

    rest : (c : ℕ) → n ≤ c → (c < r.hi) ⊎ (r.hi ≤ c) → held_at more c ≡ None
    rest c h (inl a) = none_below r more c e a
    rest c h (inr a) = sym (cond-false _ (Some r.holding) (held_at more c) (within_after r.lo r.hi c a)) ∙ f c h

pub reach_swept :
    (w : World) (xs : List Access) (ys : List Run) →
    longest ys ≡ true →
    ((c : ℕ) → held_at ys c ≡ asked xs c) →
    regions_lie w xs ≡ true →
    end_by w.cells ys ≡ true
reach_swept w xs ys e f l = end_from_held w.cells ys e (λ c h. f c ∙ lie_within w xs c l h)
