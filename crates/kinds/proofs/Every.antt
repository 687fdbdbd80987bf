-- Tests that hold of every kind, of every deed, of every holding.
-- Assumes nothing.
use Rattle.std.proofs.Common.{◌≡◌, ℕ, Bool, true, false, not, ◌&&◌, ◌||◌, refl, arith}
use Rattle.std.proofs.lemmas.Bool.{and_parts}
use Rattle.kinds.specs.declared.deed.Deed.{Deed}
use Rattle.kinds.specs.declared.deed.Deed.TheVariants.{Reading, Writing, Updating}
use Rattle.kinds.specs.declared.holding.Holding.{Holding}
use Rattle.kinds.specs.declared.kind.Kind.{Kind}
use Rattle.kinds.specs.declared.kind.Kind.TheVariants.{In, Out, Inout, Concurrent, Commutative}

-- yes is not no
pub clash : {A : Type 0} → false ≡ true → A
clash e = let z : ◌≡◌ {A = ℕ} 0 1 = cc in absurd (omega arith)

-- a test `not a || b` says that b follows from a
pub then : (a b : Bool) → (not a || b) ≡ true → a ≡ true → b ≡ true
then true b e h = e
then false b e h = clash h

pub then_from : (a b : Bool) → (a ≡ true → b ≡ true) → (not a || b) ≡ true
then_from true b f = f refl
then_from false b f = refl

-- a test at every kind, deed or holding is computed at all of them
unfoldable pub all_kinds : (Kind → Bool) → Bool
all_kinds f = f In && (f Out && (f Inout && (f Concurrent && f Commutative)))

unfoldable pub all_deeds : (Deed → Bool) → Bool
all_deeds f = f Reading && (f Writing && f Updating)

unfoldable pub all_holdings : (Holding → Bool) → Bool
all_holdings f = all_kinds (λ k. f (record { kind = k; strong = true }) && f (record { kind = k; strong = false }))

pub at_kind : (f : Kind → Bool) → all_kinds f ≡ true → (k : Kind) → f k ≡ true
unfolding all_kinds
at_kind f e In = (and_parts (f In) _ e).0
at_kind f e Out = (and_parts (f Out) _ (and_parts (f In) _ e).1).0
at_kind f e Inout = (and_parts (f Inout) _ (and_parts (f Out) _ (and_parts (f In) _ e).1).1).0
at_kind f e Concurrent = (and_parts (f Concurrent) _ (and_parts (f Inout) _ (and_parts (f Out) _ (and_parts (f In) _ e).1).1).1).0
at_kind f e Commutative = (and_parts (f Concurrent) _ (and_parts (f Inout) _ (and_parts (f Out) _ (and_parts (f In) _ e).1).1).1).1

pub at_deed : (f : Deed → Bool) → all_deeds f ≡ true → (d : Deed) → f d ≡ true
unfolding all_deeds
at_deed f e Reading = (and_parts (f Reading) _ e).0
at_deed f e Writing = (and_parts (f Writing) _ (and_parts (f Reading) _ e).1).0
at_deed f e Updating = (and_parts (f Writing) _ (and_parts (f Reading) _ e).1).1

pub at_holding : (f : Holding → Bool) → all_holdings f ≡ true → (a : Holding) → f a ≡ true
unfolding all_holdings
at_holding f e a = go a.strong
  where
    two : (f (record { kind = a.kind; strong = true }) ≡ true) × (f (record { kind = a.kind; strong = false }) ≡ true)
    two = and_parts (f (record { kind = a.kind; strong = true })) (f (record { kind = a.kind; strong = false })) (at_kind _ e a.kind)

    go : (s : Bool) → f (record { kind = a.kind; strong = s }) ≡ true
    go true = two.0
    go false = two.1
