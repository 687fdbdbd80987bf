-- Combining depends neither on the order of the accesses nor on how often one comes.
-- Assumes nothing.
use Rattle.std.proofs.Common.{◌≡◌, ℕ, zero, suc, Bool, true, false, cond, not, Some, None, Option, sym, refl, ap, ◌∙◌}
use Rattle.std.proofs.lemmas.Bool.{and_parts, eqb-true}
use Rattle.kinds.specs.declared.holding.Holding.{Holding}
use Rattle.kinds.specs.declared.kind.Kind.{Kind}
use Rattle.kinds.specs.declared.kind.Kind.TheVariants.{In, Out, Inout, Concurrent, Commutative}
use Rattle.kinds.specs.Kinds.{kind_place, same, equal, combine, combine_held, Lawful}
use Rattle.kinds.proofs.Every.{clash, all_kinds, all_holdings, at_holding}

-- a kind is known by its place
kind_at : ℕ → Kind
kind_at zero = In
kind_at (suc zero) = Out
kind_at (suc (suc zero)) = Inout
kind_at (suc (suc (suc zero))) = Concurrent
kind_at (suc (suc (suc (suc n)))) = Commutative

back : (k : Kind) → kind_at (kind_place k) ≡ k
unfolding kind_at
back In = refl
back Out = refl
back Inout = refl
back Concurrent = refl
back Commutative = refl

pub same_kind : (k l : Kind) → same k l ≡ true → k ≡ l
same_kind k l e = sym (back k) ∙ (ap kind_at (eqb-true (kind_place k) (kind_place l) e) ∙ back l)

same_strength : (s t : Bool) → cond s t (not t) ≡ true → s ≡ t
same_strength true t e = sym e
same_strength false true e = clash e
same_strength false false e = refl

pub same_holding : (a b : Holding) → equal a b ≡ true → a ≡ b
same_holding a b e =
    let made : Kind → Bool → Holding = λ l t. record { kind = l; strong = t } in
    let p = and_parts (same a.kind b.kind) (cond a.strong b.strong (not b.strong)) e in
    ap (λ (l : Kind). made l a.strong) (same_kind a.kind b.kind p.0) ∙ ap (made b.kind) (same_strength a.strong b.strong p.1)

-- each law computed at all holdings
commutes : all_holdings (λ a. all_holdings (λ b. equal (combine a b) (combine b a))) ≡ true
unfolding all_holdings all_kinds combine
commutes = refl

associates : all_holdings (λ a. all_holdings (λ b. all_holdings (λ c. equal (combine (combine a b) c) (combine a (combine b c))))) ≡ true
unfolding all_holdings all_kinds combine
associates = refl

repeats : all_holdings (λ a. equal (combine a a) a) ≡ true
unfolding all_holdings all_kinds combine
repeats = refl

pub combine_lawful : Lawful combine
combine_lawful =
    record {
      commutes = λ a b. same_holding (combine a b) (combine b a) (at_holding _ (at_holding _ commutes a) b);
      associates = λ a b c. same_holding (combine (combine a b) c) (combine a (combine b c)) (at_holding _ (at_holding _ (at_holding _ associates a) b) c);
      repeats = λ a. same_holding (combine a a) a (at_holding _ repeats a);
    }

-- from the laws of combine alone
pub combine_held_lawful : Lawful combine_held
combine_held_lawful = record { commutes = commute; associates = associate; repeats = repeat }
  where
    commute : (a b : Option Holding) → combine_held a b ≡ combine_held b a
    commute None None = refl
    commute None (Some b) = refl
    commute (Some a) None = refl
    commute (Some a) (Some b) = ap Some (combine_lawful.commutes a b)

    associate : (a b c : Option Holding) → combine_held (combine_held a b) c ≡ combine_held a (combine_held b c)
    associate None b c = refl
    associate (Some a) None c = refl
    associate (Some a) (Some b) None = refl
    associate (Some a) (Some b) (Some c) = ap Some (combine_lawful.associates a b c)

    repeat : (a : Option Holding) → combine_held a a ≡ a
    repeat None = refl
    repeat (Some a) = ap Some (combine_lawful.repeats a)
