-- Decimals: what a loop over their digits keeps, and what no decimal is.
use Rattle.std.proofs.Common.{◌≡◌, ℕ, zero, suc, ◌+◌, ◌-◌, ◌*◌, ◌^◌, ◌<◌, ◌≤◌, List, [], ◌∷◌, length, get_or, drop, decimal, sym, refl, ap, ◌∙◌, subst, arith}
use Rattle.std.specs.Int.{IsInRange}
use Rattle.std.proofs.lemmas.Fmt.{decimal_digit, decimal_nonempty, first_decimal, digits_decimal, digits_value-decimal, decimal-digits_value}
use Rattle.std.proofs.lemmas.List.{drop_more, drop_all}
use Rattle.std.proofs.lemmas.Str.Parse.{IsNumeralModel, numerals_by_fold, IsDigitsTest, FoldsDigits}
use Rattle.text.specs.Form.{Small}

abbrev pub Figures : List ℕ → Type 0
Figures [] = Unit {0}
Figures (c ∷ cs) = IsInRange 48 57 c × Figures cs

-- the number that digits write after those of n
abbrev pub read_on : ℕ → List ℕ → ℕ
read_on n [] = n
read_on n (c ∷ cs) = read_on (n * 10 + (c - 48)) cs

tells : IsDigitsTest Figures
tells = record { empty = tt; parts = λ c cs h. h; more = λ c cs i h. (i, h) }

folds : FoldsDigits read_on
folds = record { empty = λ n. refl; more = λ n c cs i. refl }

own : IsNumeralModel Figures (read_on 0)
own = numerals_by_fold Figures tells read_on folds

read_on_ge : (n : ℕ) (cs : List ℕ) → n ≤ read_on n cs
read_on_ge n [] = omega arith
read_on_ge n (c ∷ cs) = omega (arith, read_on_ge (n * 10 + (c - 48)) cs)

-- after the first i digits: the rest decides whether all are digits, and gives the number
abbrev pub Reading : List ℕ → ℕ → ℕ → Type 0
Reading ds i n = (Figures (drop i ds) → Figures ds) × (Figures ds → Figures (drop i ds)) × (read_on n (drop i ds) ≡ read_on 0 ds)

module _ (ds : List ℕ) (i n : ℕ) (h : i < length ds) (so_far : Reading ds i n) where
  pub reading_on : IsInRange 48 57 (get_or ds i 0) → Reading ds (i + 1) (n * 10 + (get_or ds i 0 - 48))
  reading_on digit = (
    (λ f. so_far.0 (rw (drop_more ds i 0 h) (digit, f))),
    (λ f. (rw (drop_more ds i 0 h) at (so_far.1 f)).1),
    sym (ap (read_on n) (drop_more ds i 0 h)) ∙ so_far.2,
  )

  -- bytes that go on with something else are no decimal
  pub no_digit : (IsInRange 48 57 (get_or ds i 0) → ⊥) → (m : ℕ) → Small m → ds ≡ decimal m → ⊥
  no_digit other m small e =
      other (rw (drop_more ds i 0 h) at (so_far.1 (subst Figures (sym e) (digits_decimal own m small)))).0

  -- nor are digits of too large a number
  pub too_large : 2 ^ 64 ≤ n * 10 + (get_or ds i 0 - 48) → (m : ℕ) → Small m → ds ≡ decimal m → ⊥
  too_large large m small e =
      let more = read_on_ge (n * 10 + (get_or ds i 0 - 48)) (drop (i + 1) ds) in
      let whole = sym (ap (read_on n) (drop_more ds i 0 h)) ∙ so_far.2 in
      let value = ap (read_on 0) e ∙ digits_value-decimal own m small in
      omega arith

pub read_whole : (ds : List ℕ) (i n : ℕ) → length ds ≤ i → Reading ds i n → 0 < length ds → (get_or ds 0 0 ≡ 48 → length ds ≡ 1) → Small n → ds ≡ decimal n
read_whole ds i n past so_far some lead small =
    let none = drop_all i ds past in
    let all : Figures ds = so_far.0 (rw none tt) in
    let value : n ≡ read_on 0 ds = sym (ap (read_on n) none) ∙ so_far.2 in
    let fits : read_on 0 ds < 2 ^ 64 = omega arith in
    sym (ap decimal value ∙ decimal-digits_value own ds all some lead fits)

pub decimal_first : (ds : List ℕ) (n : ℕ) → Small n → ds ≡ decimal n → (0 < length ds) × (get_or ds 0 0 ≡ 48 → length ds ≡ 1)
decimal_first ds n small e = rw e (some n small, first n small)
  where
    some : (n : ℕ) → Small n → 0 < length (decimal n)
    some n small = decimal_nonempty n small

    first : (n : ℕ) → Small n → get_or (decimal n) 0 0 ≡ 48 → length (decimal n) ≡ 1
    first zero small q = ap length (decimal_digit 0 (omega arith))
    first (suc n) small q = omega (arith, first_decimal (suc n) (omega arith) small)

pub decimal_figures : (n : ℕ) → Small n → Figures (decimal n)
decimal_figures n small = digits_decimal own n small
