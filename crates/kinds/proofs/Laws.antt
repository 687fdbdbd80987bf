-- What conflict and covers promise, of kinds and of holdings. Nothing else looks into them.
-- Assumes nothing.
use Rattle.std.proofs.Common.{◌≡◌, Bool, true, false, cond, not, ◌&&◌, ◌||◌, Some, None, Option, refl}
use Rattle.std.proofs.lemmas.Bool.{and_from, not-true, not_from_false}
use Rattle.kinds.specs.declared.deed.Deed.{Deed}
use Rattle.kinds.specs.declared.deed.Deed.TheVariants.{Reading, Writing, Updating}
use Rattle.kinds.specs.declared.holding.Holding.{Holding}
use Rattle.kinds.specs.declared.kind.Kind.{Kind}
use Rattle.kinds.specs.Kinds.{conflict, covers, fits, kind_of, strongly, meets, if_strong, allows, covered_by}
use Rattle.kinds.proofs.Every.{clash, then, all_kinds, all_deeds, at_kind, at_deed}

-- two steps on one cell that may change places: both read, or both update
abbrev pub may_swap : Deed → Deed → Bool
may_swap Reading Reading = true
may_swap Reading Writing = false
may_swap Reading Updating = false
may_swap Writing Reading = false
may_swap Writing Writing = false
may_swap Writing Updating = false
may_swap Updating Reading = false
may_swap Updating Writing = false
may_swap Updating Updating = true

-- the laws, each computed at all kinds and deeds
swaps :
    all_kinds (λ k. all_kinds (λ l. all_deeds (λ d. all_deeds (λ e. not (not (conflict k l) && (fits k e && fits l d)) || may_swap d e)))) ≡ true
unfolding all_kinds all_deeds conflict
swaps = refl

hands_on : all_kinds (λ k. all_kinds (λ l. all_deeds (λ d. not (covers k l && fits l d) || fits k d))) ≡ true
unfolding all_kinds all_deeds covers
hands_on = refl

keeps_apart : all_kinds (λ k. all_kinds (λ l. all_kinds (λ m. not (covers k l && not (conflict k m)) || not (conflict l m)))) ≡ true
unfolding all_kinds covers conflict
keeps_apart = refl

-- steps that kinds without conflict allow may change places
pub conflict_swaps : (k l : Kind) (d e : Deed) → conflict k l ≡ false → fits k e ≡ true → fits l d ≡ true → may_swap d e ≡ true
conflict_swaps k l d e a b c =
    then (not (conflict k l) && (fits k e && fits l d)) (may_swap d e) (at_deed _ (at_deed _ (at_kind _ (at_kind _ swaps k) l) d) e)
    (and_from (not (conflict k l)) (fits k e && fits l d) (not_from_false (conflict k l) a) (and_from (fits k e) (fits l d) b c))

-- a covering kind allows every step that the covered one does
pub covers_fits : (k l : Kind) (d : Deed) → covers k l ≡ true → fits l d ≡ true → fits k d ≡ true
covers_fits k l d a b =
    then (covers k l && fits l d) (fits k d) (at_deed _ (at_kind _ (at_kind _ hands_on k) l) d) (and_from (covers k l) (fits l d) a b)

-- what does not conflict with a covering kind does not conflict with the covered one
pub covers_conflict : (k l m : Kind) → covers k l ≡ true → conflict k m ≡ false → conflict l m ≡ false
covers_conflict k l m a b =
    not-true (conflict l m)
    (
    then (covers k l && not (conflict k m)) (not (conflict l m)) (at_kind _ (at_kind _ (at_kind _ keeps_apart k) l) m)
    (and_from (covers k l) (not (conflict k m)) a (not_from_false (conflict k m) b))
    )

-- a step fits the kind that it counts as
kind_fits : (d : Deed) → fits (kind_of d) d ≡ true
kind_fits Reading = refl
kind_fits Writing = refl
kind_fits Updating = refl

-- the same of holdings
pub strong_allows : (h : Option Holding) (d : Deed) → allows (if_strong h) d ≡ true → allows h d ≡ true
strong_allows None d e = e
strong_allows (Some a) d e = go a.strong e
  where
    go : (s : Bool) → allows (cond s (Some a) None) d ≡ true → fits a.kind d ≡ true
    go true x = x
    go false x = clash x

-- a step d, and a step e that another's holding allows which does not meet d's holding
pub beside_step :
    (h g : Option Holding) (d e : Deed) →
    meets h (if_strong g) ≡ false →
    allows (if_strong g) d ≡ true →
    allows h e ≡ true →
    may_swap d e ≡ true
beside_step None g d e a b c = clash c
beside_step (Some h) None d e a b c = clash b
beside_step (Some h) (Some g) d e a b c = go g.strong a b
  where
    go : (s : Bool) → meets (Some h) (cond s (Some g) None) ≡ false → allows (cond s (Some g) None) d ≡ true → may_swap d e ≡ true
    go true x y = conflict_swaps h.kind g.kind d e x c y
    go false x y = clash y

-- the same where it does not meet the kind that d counts as
pub below_step : (h : Option Holding) (d e : Deed) → meets h (strongly (kind_of d)) ≡ false → allows h e ≡ true → may_swap d e ≡ true
below_step None d e a b = clash b
below_step (Some h) d e a b = conflict_swaps h.kind (kind_of d) d e a b (kind_fits d)

-- what a child's holding allows, its parent's allows
pub covered_allows : (p h : Option Holding) (d : Deed) → covered_by p h ≡ true → allows h d ≡ true → allows p d ≡ true
covered_allows p None d a b = clash b
covered_allows None (Some h) d a b = clash a
covered_allows (Some p) (Some h) d a b = covers_fits p.kind h.kind d a b

-- what does not meet a parent's holding does not meet its child's
pub covered_meets : (p h g : Option Holding) → covered_by p h ≡ true → meets p g ≡ false → meets h g ≡ false
covered_meets p None g a b = refl
covered_meets None (Some h) g a b = clash a
covered_meets (Some p) (Some h) None a b = refl
covered_meets (Some p) (Some h) (Some g) a b = covers_conflict p.kind h.kind g.kind a b
