-- Kinds of access: their codes, how they combine, conflict and cover, which steps they allow, and what a list of accesses holds of a cell.
-- combine, conflict and covers are shut: all else goes by their laws, so each can be decided another way here alone.
-- Assumes nothing.
use Rattle.std.specs.Prelude.{◌≡◌, ℕ, Bool, true, false, cond, not, ◌&&◌, ◌||◌, List, [], ◌∷◌, Some, None, Option, ◌==◌, nat_le, nat_lt}
use Rattle.kinds.specs.declared.access.Access.{Access}
use Rattle.kinds.specs.declared.deed.Deed.{Deed}
use Rattle.kinds.specs.declared.deed.Deed.TheVariants.{Reading, Writing, Updating}
use Rattle.kinds.specs.declared.holding.Holding.{Holding}
use Rattle.kinds.specs.declared.kind.Kind.{Kind}
use Rattle.kinds.specs.declared.kind.Kind.TheVariants.{In, Out, Inout, Concurrent, Commutative}

-- the place of a kind in the list of kinds
abbrev pub kind_place : Kind → ℕ
kind_place In = 0
kind_place Out = 1
kind_place Inout = 2
kind_place Concurrent = 3
kind_place Commutative = 4

-- the two kinds are one
abbrev pub same : Kind → Kind → Bool
same k l = kind_place k == kind_place l

-- the two holdings have one kind and one strength
abbrev pub equal : Holding → Holding → Bool
equal a b = same a.kind b.kind && cond a.strong b.strong (not b.strong)

-- both kinds are the kind m
abbrev pub both : Kind → Kind → Kind → Bool
both m k l = same k m && same l m

-- two kinds conflict unless both are in, both concurrent or both commutative
unfoldable pub conflict : Kind → Kind → Bool
conflict k l = not (both In k l || (both Concurrent k l || both Commutative k l))

-- a parent's inout covers every kind; in, out and concurrent cover themselves; commutative covers nothing
unfoldable pub covers : Kind → Kind → Bool
covers k l = same k Inout || (both In k l || (both Out k l || both Concurrent k l))

-- equal kinds stay, unequal ones give inout; the result is strong if either is
unfoldable pub combine : Holding → Holding → Holding
combine a b = record { kind = cond (same a.kind b.kind) a.kind Inout; strong = a.strong || b.strong }

-- the same of a cell that may not be held
abbrev pub combine_held : Option Holding → Option Holding → Option Holding
combine_held None h = h
combine_held (Some a) None = Some a
combine_held (Some a) (Some b) = Some (combine a b)

-- an operation whose result depends neither on the order of its parts nor on how often one comes
pub record Lawful {A : Type 0} (op : A → A → A) : Type 0 where
  pub commutes : (a b : A) → op a b ≡ op b a
  pub associates : (a b c : A) → op (op a b) c ≡ op a (op b c)
  pub repeats : (a : A) → op a a ≡ a

-- the kind held strongly
abbrev pub strongly : Kind → Option Holding
strongly k = Some (record { kind = k; strong = true })

-- the kind held weakly
abbrev pub weakly : Kind → Option Holding
weakly k = Some (record { kind = k; strong = false })

-- what the code of an access stands for
abbrev pub holding_of : ℕ → Option Holding
holding_of n =
    cond (n == 1) (strongly In)
    (cond (n == 2) (strongly Out)
    (cond (n == 3) (strongly Inout)
    (cond (n == 4) (strongly Concurrent)
    (cond (n == 5) (strongly Commutative)
    (cond (n == 6) (weakly In)
    (cond (n == 7) (weakly Out)
    (cond (n == 8) (weakly Inout) None)))))))

-- a strong holding of the kind allows the step
abbrev pub fits : Kind → Deed → Bool
fits In Reading = true
fits In Writing = false
fits In Updating = false
fits Out Reading = false
fits Out Writing = true
fits Out Updating = false
fits Inout Reading = true
fits Inout Writing = true
fits Inout Updating = true
fits Concurrent Reading = false
fits Concurrent Writing = false
fits Concurrent Updating = true
fits Commutative Reading = false
fits Commutative Writing = false
fits Commutative Updating = true

-- the kind that a step counts as beside the holdings of descendants
abbrev pub kind_of : Deed → Kind
kind_of Reading = In
kind_of Writing = Out
kind_of Updating = Concurrent

-- the two holdings of one cell are there and their kinds conflict
abbrev pub meets : Option Holding → Option Holding → Bool
meets None h = false
meets (Some a) None = false
meets (Some a) (Some b) = conflict a.kind b.kind

-- the holding if it is a strong one
abbrev pub if_strong : Option Holding → Option Holding
if_strong None = None
if_strong (Some a) = cond a.strong (Some a) None

-- the cell is held with a kind that fits the step
abbrev pub allows : Option Holding → Deed → Bool
allows None d = false
allows (Some a) d = fits a.kind d

-- what the child is to hold of a cell, if anything, is covered by what the parent holds
abbrev pub covered_by : Option Holding → Option Holding → Bool
covered_by p None = true
covered_by None (Some b) = false
covered_by (Some a) (Some b) = covers a.kind b.kind

-- the cell is held at all
abbrev pub is_held : Option Holding → Bool
is_held None = false
is_held (Some a) = true

-- the cell is held as commutative
abbrev pub is_commutative : Option Holding → Bool
is_commutative None = false
is_commutative (Some a) = same a.kind Commutative

-- the cell c lies in the region from lo up to, not including, hi
abbrev pub within : ℕ → ℕ → ℕ → Bool
within lo hi c = nat_le lo c && nat_lt c hi

-- what a list of accesses holds of the cell c
abbrev pub asked : List Access → ℕ → Option Holding
asked [] c = None
asked (a ∷ more) c = combine_held (cond (within a.lo a.hi c) (holding_of a.code) None) (asked more c)
