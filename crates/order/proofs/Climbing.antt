-- Ancestor and earlier by climbing from the task with the higher number to its parent.
-- Assumes nothing.
use Rattle.std.proofs.Common.{◌≡◌, ℕ, zero, suc, ◌<◌, ◌≤◌, Bool, true, false, cond, not, ◌&&◌, ◌||◌, eqb, ltb, ◌⊎◌, List, [], ◌∷◌, ◌++◌, length, sym, refl, ap, ◌∙◌, subst, inl, inr, arith}
use Rattle.std.specs.List.{AllByRecursion as All}
use Rattle.std.proofs.ByRecursion.{All-append, All-weaker}
use Rattle.std.proofs.lemmas.Bool.{and_parts, and_from, cases_eq, or_cases, or_left, or_right, or_from, eqb-true, lt-ltb, eq-eqb, ne_eqb, cond-true, cond-false}
use Rattle.order.specs.declared.task.Task as code
use Rattle.order.specs.Records.{Sound, parent_at}
use Rattle.order.specs.Tasks.{World, count, path, above, parts_lower, ancestor, earlier}
use Rattle.order.specs.View.{world_of}
use Rattle.kinds.proofs.Every.{clash}
use Rattle.order.proofs.Deeply.{one_truth}
use Rattle.order.proofs.Paths.{above_push, above_more, above_push_back, above_new, above_lower, lower_back, lower_more_left, lower_more_right, lower_ends, above_ends, ends_not_self, path_zero, path_inj, above_none}
use Rattle.order.proofs.Viewed.{count_of, path_at}

never : (a : Bool) → (a ≡ true → ⊥) → a ≡ false
never true f = absurd (f refl)
never false f = refl

-- what comes before a new task made at q lies below q or comes before it
lower_push_back : (p q : List ℕ) (n : ℕ) → parts_lower p (q ++ n ∷ []) ≡ true → (above q p ≡ true) ⊎ (parts_lower p q ≡ true)
lower_push_back [] q n e = clash e
lower_push_back (x ∷ p) [] n e = inl refl
lower_push_back (x ∷ p) (y ∷ q) n e = go (or_cases (ltb x y) (eqb x y && parts_lower p (q ++ n ∷ [])) e) (lower_push_back p q n)
  where
    go :
        (ltb x y ≡ true) ⊎ ((eqb x y && parts_lower p (q ++ n ∷ [])) ≡ true) →
        (parts_lower p (q ++ n ∷ []) ≡ true → (above q p ≡ true) ⊎ (parts_lower p q ≡ true)) →
        ((eqb y x && above q p) ≡ true) ⊎ ((ltb x y || (eqb x y && parts_lower p q)) ≡ true)
    go (inl l) ih = inr (or_left (ltb x y) (eqb x y && parts_lower p q) l)
    go (inr h) ih = pick (and_parts (eqb x y) (parts_lower p (q ++ n ∷ [])) h).0 (ih (and_parts (eqb x y) (parts_lower p (q ++ n ∷ [])) h).1)
      where
        pick :
            eqb x y ≡ true →
            (above q p ≡ true) ⊎ (parts_lower p q ≡ true) →
            ((eqb y x && above q p) ≡ true) ⊎ ((ltb x y || (eqb x y && parts_lower p q)) ≡ true)
        pick s (inl a) = inl (and_from (eqb y x) (above q p) (eq-eqb y x (sym (eqb-true x y s))) a)
        pick s (inr l) = inr (or_right (ltb x y) (eqb x y && parts_lower p q) (and_from (eqb x y) (parts_lower p q) s l))

module _ (cells : ℕ) (tasks : List code.Task) where
  -- a comes before b, below it or earlier
  abbrev pub before : ℕ → ℕ → Bool
  before a b = ancestor (world_of cells tasks) b a || earlier (world_of cells tasks) a b

  -- whether u is an ancestor of t, once t has been climbed to b
  abbrev pub reached : ℕ → ℕ → ℕ → Bool
  reached u t b = (ltb b t && eqb b u) || ancestor (world_of cells tasks) u b

  -- whether u is earlier than t, once they have been climbed to a and b: where the two met, the flag says it
  abbrev pub found : ℕ → ℕ → ℕ → Bool → Bool
  found t a b flag = cond (eqb a b) flag (cond (eqb b t) (earlier (world_of cells tasks) a b) (before a b))

  module _ (sound : Sound cells tasks) where
    -- the numbers on the way to t are at most t
    way_small : (n t : ℕ) → t < n → t < length tasks → All (λ x. x < suc t) (path (world_of cells tasks).tree t)
    way_small zero t a h = absurd (omega arith)
    way_small (suc n) t a h = go (cases_eq t 0) (way_small n (parent_at tasks t))
      where
        go :
            (t ≡ 0) ⊎ (t ≡ 0 → ⊥) →
            (parent_at tasks t < n → parent_at tasks t < length tasks → All (λ x. x < suc (parent_at tasks t)) (path (world_of cells tasks).tree (parent_at tasks t))) →
            All (λ x. x < suc t) (path (world_of cells tasks).tree t)
        go (inl z) ih = subst (All (λ x. x < suc t)) (sym (ap (path (world_of cells tasks).tree) z ∙ path_zero (world_of cells tasks).tree)) tt
        go (inr z) ih =
            let low = sound.2 t (omega arith) h in
            subst (All (λ x. x < suc t)) (sym (path_at cells tasks sound t (omega arith) h))
            (
            All-append (λ x. x < suc t) (path (world_of cells tasks).tree (parent_at tasks t)) (t ∷ [])
            (
            All-weaker (λ x. x < suc (parent_at tasks t)) (λ x. x < suc t) (λ x k. omega arith) (path (world_of cells tasks).tree (parent_at tasks t))
            (ih (omega arith) (omega arith))
            )
            (omega arith, tt)
            )

    way_below : (t m : ℕ) → t < m → t < length tasks → All (λ x. x < m) (path (world_of cells tasks).tree t)
    way_below t m a h =
        All-weaker (λ x. x < suc t) (λ x. x < m) (λ x k. omega arith) (path (world_of cells tasks).tree t) (way_small (suc t) t (omega arith) h)

    -- an ancestor of b is its parent or an ancestor of that
    pub ancestor_up :
        (u b : ℕ) →
        u < length tasks →
        0 < b →
        b < length tasks →
        ancestor (world_of cells tasks) u b ≡ (eqb (parent_at tasks b) u || ancestor (world_of cells tasks) u (parent_at tasks b))
    ancestor_up u b hu pos hb = ap (above (path (world_of cells tasks).tree u)) (path_at cells tasks sound b pos hb) ∙ one_truth _ _ down up
      where
        p : ℕ
        p = parent_at tasks b

        pu : List ℕ
        pu = path (world_of cells tasks).tree u

        pp : List ℕ
        pp = path (world_of cells tasks).tree p

        size : count (world_of cells tasks) ≡ length tasks
        size = count_of cells tasks sound.0

        low : p < b
        low = sound.2 b pos hb

        down : above pu (pp ++ b ∷ []) ≡ true → (eqb p u || above pu pp) ≡ true
        down e = go (above_push_back pu pp b e)
          where
            go : (pu ≡ pp) ⊎ (above pu pp ≡ true) → (eqb p u || above pu pp) ≡ true
            go (inl s) =
                or_left (eqb p u) (above pu pp)
                (eq-eqb p u (sym (path_inj (world_of cells tasks).tree u p (omega (arith, size)) (omega (arith, size, low)) s)))
            go (inr s) = or_right (eqb p u) (above pu pp) s

        up : (eqb p u || above pu pp) ≡ true → above pu (pp ++ b ∷ []) ≡ true
        up e = go (or_cases (eqb p u) (above pu pp) e)
          where
            go : (eqb p u ≡ true) ⊎ (above pu pp ≡ true) → above pu (pp ++ b ∷ []) ≡ true
            go (inl s) =
                subst (λ (x : ℕ). above (path (world_of cells tasks).tree x) (pp ++ b ∷ []) ≡ true) (eqb-true p u s) (above_push pp b)
            go (inr s) = above_more pu pp b s

    -- an ancestor has a lower number
    pub ancestor_lower : (u b : ℕ) → u < length tasks → b ≤ u → ancestor (world_of cells tasks) u b ≡ false
    ancestor_lower u b hu le = go (cases_eq u 0)
      where
        go : (u ≡ 0) ⊎ (u ≡ 0 → ⊥) → ancestor (world_of cells tasks) u b ≡ false
        go (inl z) =
            let same : b ≡ 0 = omega arith in
            ap (λ (x : ℕ). above (path (world_of cells tasks).tree u) (path (world_of cells tasks).tree x)) same
            ∙ (ap (above (path (world_of cells tasks).tree u)) (path_zero (world_of cells tasks).tree)
            ∙ never (above (path (world_of cells tasks).tree u) []) (above_none (path (world_of cells tasks).tree u)))
        go (inr z) = split (cases_eq b u)
          where
            split : (b ≡ u) ⊎ (b ≡ u → ⊥) → ancestor (world_of cells tasks) u b ≡ false
            split (inl e) =
                never (ancestor (world_of cells tasks) u b)
                (
                λ a.
                ends_not_self (path (world_of cells tasks).tree b)
                (above_ends (path (world_of cells tasks).tree b) (path (world_of cells tasks).tree b)
                (subst (λ (x : ℕ). ancestor (world_of cells tasks) x b ≡ true) (sym e) a))
                )
            split (inr n) =
                never (ancestor (world_of cells tasks) u b)
                (
                λ a.
                above_new (path (world_of cells tasks).tree (parent_at tasks u)) (path (world_of cells tasks).tree b) u (way_below b u (omega arith) (omega arith))
                (subst (λ (l : List ℕ). above l (path (world_of cells tasks).tree b) ≡ true) (path_at cells tasks sound u (omega arith) hu) a)
                )

    pub earlier_self : (a : ℕ) → earlier (world_of cells tasks) a a ≡ false
    earlier_self a =
        never (earlier (world_of cells tasks) a a)
        (λ e. ends_not_self (path (world_of cells tasks).tree a) (lower_ends (path (world_of cells tasks).tree a) (path (world_of cells tasks).tree a) e))

    -- a task with the higher number is earlier where its parent is
    pub earlier_left : (a b : ℕ) → a < length tasks → b < a → earlier (world_of cells tasks) a b ≡ earlier (world_of cells tasks) (parent_at tasks a) b
    earlier_left a b ha lt =
        ap (λ (l : List ℕ). parts_lower l pb) (path_at cells tasks sound a (omega arith) ha)
        ∙ one_truth _ _ (lower_back pp pb a (way_below b a lt (omega arith))) (lower_more_left pp pb a)
      where
        pp : List ℕ
        pp = path (world_of cells tasks).tree (parent_at tasks a)

        pb : List ℕ
        pb = path (world_of cells tasks).tree b

    -- a task with the lower number is earlier where it lies below the other's parent or is earlier than that
    pub earlier_right : (a b : ℕ) → b < length tasks → a < b → earlier (world_of cells tasks) a b ≡ before a (parent_at tasks b)
    earlier_right a b hb lt = ap (parts_lower pa) (path_at cells tasks sound b (omega arith) hb) ∙ one_truth _ _ there back
      where
        pa : List ℕ
        pa = path (world_of cells tasks).tree a

        pp : List ℕ
        pp = path (world_of cells tasks).tree (parent_at tasks b)

        there : parts_lower pa (pp ++ b ∷ []) ≡ true → (above pp pa || parts_lower pa pp) ≡ true
        there e = go (lower_push_back pa pp b e)
          where
            go : (above pp pa ≡ true) ⊎ (parts_lower pa pp ≡ true) → (above pp pa || parts_lower pa pp) ≡ true
            go (inl s) = or_left (above pp pa) (parts_lower pa pp) s
            go (inr s) = or_right (above pp pa) (parts_lower pa pp) s

        back : (above pp pa || parts_lower pa pp) ≡ true → parts_lower pa (pp ++ b ∷ []) ≡ true
        back e = go (or_cases (above pp pa) (parts_lower pa pp) e)
          where
            go : (above pp pa ≡ true) ⊎ (parts_lower pa pp ≡ true) → parts_lower pa (pp ++ b ∷ []) ≡ true
            go (inl s) = above_lower pp pa b (way_below a b lt (omega arith)) s
            go (inr s) = lower_more_right pa pp b s

    pub reached_up : (u t b : ℕ) → u < b → b ≤ t → b < length tasks → reached u t b ≡ reached u t (parent_at tasks b)
    reached_up u t b lt le hb =
        let low = sound.2 b (omega arith) hb in
        past (ltb b t) (eqb b u) (ltb (parent_at tasks b) t) (eqb (parent_at tasks b) u) (ancestor (world_of cells tasks) u b)
        (ancestor (world_of cells tasks) u (parent_at tasks b)) (ne_eqb b u (λ e. omega arith)) (lt-ltb (parent_at tasks b) t (omega arith))
        (ancestor_up u b (omega arith) (omega arith) hb)
      where
        past : (x y z e f g : Bool) → y ≡ false → z ≡ true → f ≡ (e || g) → ((x && y) || f) ≡ ((z && e) || g)
        past true y z e f g p q s = rw (p, q, s) refl
        past false y z e f g p q s = rw (q, s) refl

    pub reached_last : (u t b : ℕ) → u < length tasks → b ≤ u → reached u t b ≡ (ltb b t && eqb b u)
    reached_last u t b hu le = rw (ancestor_lower u b hu le) (or_no (ltb b t && eqb b u))
      where
        or_no : (x : Bool) → (x || false) ≡ x
        or_no true = refl
        or_no false = refl

    pub found_first : (u t : ℕ) → earlier (world_of cells tasks) u t ≡ found t u t false
    found_first u t = go (cases_eq u t)
      where
        go : (u ≡ t) ⊎ (u ≡ t → ⊥) → earlier (world_of cells tasks) u t ≡ found t u t false
        go (inl e) =
            ap (λ (x : ℕ). earlier (world_of cells tasks) x t) e ∙ (earlier_self t ∙ sym (cond-true (eqb u t) false _ (eq-eqb u t e)))
        go (inr n) = sym (cond-false (eqb u t) false _ (ne_eqb u t n) ∙ cond-true (eqb t t) (earlier (world_of cells tasks) u t) (before u t) (eq-eqb t t refl))

    pub found_left : (t a b : ℕ) (flag : Bool) → a < length tasks → b < a → found t a b flag ≡ found t (parent_at tasks a) b (not (eqb b t))
    found_left t a b flag ha lt =
        cond-false (eqb a b) flag _ (ne_eqb a b (λ e. omega arith)) ∙ go (cases_eq (parent_at tasks a) b)
      where
        p : ℕ
        p = parent_at tasks a

        w : World
        w = world_of cells tasks

        step : (s : Bool) (x y e g : Bool) → x ≡ y → cond s x ((e || g) || x) ≡ cond e (cond s x true) (cond s y (g || y))
        step true x y true g q = refl
        step true x y false g q = q
        step false x y true g q = refl
        step false x y false g q = ap (λ (z : Bool). g || z) q

        up : cond (eqb b t) (earlier w a b) (before a b) ≡ cond (eqb p b) (cond (eqb b t) (earlier w a b) true) (cond (eqb b t) (earlier w p b) (before p b))
        up =
            ap (λ (z : Bool). cond (eqb b t) (earlier w a b) (z || earlier w a b)) (ancestor_up b a (omega arith) (omega arith) ha)
            ∙ step (eqb b t) (earlier w a b) (earlier w p b) (eqb p b) (ancestor w b p) (earlier_left a b ha lt)

        flip : (s : Bool) → cond s false true ≡ not s
        flip true = refl
        flip false = refl

        go : (p ≡ b) ⊎ (p ≡ b → ⊥) → cond (eqb b t) (earlier w a b) (before a b) ≡ found t p b (not (eqb b t))
        go (inl e) =
            let none : earlier w a b ≡ false = earlier_left a b ha lt ∙ (ap (λ (x : ℕ). earlier w x b) e ∙ earlier_self b) in
            up
            ∙ (cond-true (eqb p b) _ _ (eq-eqb p b e)
            ∙ (ap (λ (z : Bool). cond (eqb b t) z true) none ∙ (flip (eqb b t) ∙ sym (cond-true (eqb p b) (not (eqb b t)) _ (eq-eqb p b e)))))
        go (inr n) = up ∙ (cond-false (eqb p b) _ _ (ne_eqb p b n) ∙ sym (cond-false (eqb p b) (not (eqb b t)) _ (ne_eqb p b n)))

    pub found_right : (t a b : ℕ) (flag : Bool) → b ≤ t → b < length tasks → a < b → found t a b flag ≡ found t a (parent_at tasks b) false
    found_right t a b flag le hb lt =
        cond-false (eqb a b) flag _ (ne_eqb a b (λ e. omega arith)) ∙ (same (eqb b t) ∙ go (cases_eq a p))
      where
        p : ℕ
        p = parent_at tasks b

        w : World
        w = world_of cells tasks

        low : p < b
        low = sound.2 b (omega arith) hb

        same : (s : Bool) → cond s (earlier w a b) (before a b) ≡ before a p
        same true = earlier_right a b hb lt
        same false = ap (λ (z : Bool). z || earlier w a b) (ancestor_lower b a hb (omega arith)) ∙ earlier_right a b hb lt

        go : (a ≡ p) ⊎ (a ≡ p → ⊥) → before a p ≡ found t a p false
        go (inl e) =
            or_from (ancestor w p a) (earlier w a p) (ancestor_lower p a (omega (arith, low)) (omega (arith, e)))
            (ap (λ (x : ℕ). earlier w x p) e ∙ earlier_self p)
            ∙ sym (cond-true (eqb a p) false _ (eq-eqb a p e))
        go (inr n) =
            sym (cond-false (eqb a p) false _ (ne_eqb a p n) ∙ cond-false (eqb p t) (earlier w a p) (before a p) (ne_eqb p t (λ e. omega (arith, low))))
