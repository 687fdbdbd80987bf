use Rattle.std.proofs.Common.{◌≡◌, ◌+◌, ◌-◌, ◌*◌, length, get_or, sym, inl, inr, arith, eqb-true}
use borrow.Author.Tests.{eqb-false}
use Rattle.text.proofs.Decimals.{reading_on, no_digit, too_large, read_whole, decimal_first}
use Rattle.text.proofs.numbers.number_of.Goals as goal
use Rattle.text.proofs.numbers.number_of.Goals.{then-b-lt48-via-then-b-lt48, then-b-lt48-via-else-b-lt48+then-b-gt57}

pub returns-then-is_empty : goal.returns-then-is_empty
returns-then-is_empty c n small e =
    let f = decimal_first _ n small e in
    let none = eqb-true _ _ (sym c.if-is_empty.ensures) in
    omega arith

pub returns-then-digits-gt1 : goal.returns-then-digits-gt1
returns-then-digits-gt1 c n small e = let f = decimal_first _ n small e in omega (arith, f.1 c.if-digits-eq48.true)

pub returns-then-b-lt48 : goal.returns-then-b-lt48
returns-then-b-lt48 c = no_digit _ _ _ c.loop-b-test.true c.loop-b.invariant.0
    (λ i. elim c.then-b-lt48.branch [ then-b-lt48-via-then-b-lt48 w ↦ omega arith | then-b-lt48-via-else-b-lt48+then-b-gt57 w ↦ omega arith ])

pub returns-in_err-checked_mul : goal.returns-in_err-checked_mul
returns-in_err-checked_mul c =
    let over = c.in_err-checked_mul.ensures in
    simp c.from_residual.ensures (too_large _ _ _ c.loop-b-test.true c.loop-b.invariant.0 (omega arith))

pub returns-in_err-number : goal.returns-in_err-number
returns-in_err-number c =
    let over = c.in_err-number.ensures in
    let times = c.in_ok-checked_mul.ensures in
    simp c.from_residual-in_err-number.ensures (too_large _ _ _ c.loop-b-test.true c.loop-b.invariant.0 (omega arith))

pub loop-b-preserved : goal.loop-b-preserved
loop-b-preserved c =
    let sum = c.in_ok-number.ensures in
    let times = c.in_ok-checked_mul.ensures in
    let same : c.in_ok-number.number ≡ c.loop-b.number * 10 + (get_or c.args.digits.now c.loop-b.b-index 0 - 48) = omega arith in
    (simp same (reading_on _ _ _ c.loop-b-test.true c.loop-b.invariant.0 (omega arith, omega arith)), omega arith)

pub returns : goal.returns
returns c =
    let some = eqb-false _ _ (sym c.if-is_empty.ensures) in
    let lead : get_or c.args.digits.now 0 0 ≡ 48 → length c.args.digits.now ≡ 1 =
    λ z. elim c.else-digits-eq48.either [ inl short ↦ omega (arith, some, short.1) | inr other ↦ absurd (other z) ] in
    (c.loop-b.invariant.1, read_whole _ _ _ c.loop-b-test.false c.loop-b.invariant.0 (omega (arith, some)) lead c.loop-b.invariant.1)
