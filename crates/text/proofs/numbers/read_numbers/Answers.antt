use Rattle.std.proofs.Common.{sym, subst, eqb-true}
use borrow.Author.Tests.{eqb-false}
use Rattle.text.proofs.Stops.{err_for_none}
use Rattle.text.proofs.Spaces.{ReadingOn, reading_more, reading_all, reading_bad, reading_some, took_shorter}
use Rattle.std.proofs.lemmas.Result.{err_from_is_err_and}
use Rattle.text.proofs.numbers.read_numbers.Goals as goal

pub returns-in_err-number-clause-read : goal.returns-in_err-number-clause-read
returns-in_err-number-clause-read c =
    let p = err_from_is_err_and c.from_residual.result c.from_residual.ensures.1 in
    rw (p.1, p.2) (
      err_for_none _ _ _ c.in_err-number.ensures.ok_part c.in_err-number.ensures.value,
      reading_bad _ _ _ c.loop-rest.invariant (eqb-false _ _ (sym c.loop-rest-test.ensures)) (rw c.in_err-number.ensures.ok_part at c.take_number.ensures),
    )

pub loop-rest-smaller : goal.loop-rest-smaller
loop-rest-smaller c = took_shorter _ _ _ (rw c.in_ok-number.ensures.ok_part at c.take_number.ensures)

pub loop-rest-preserved : goal.loop-rest-preserved
loop-rest-preserved c =
    subst (λ l. ReadingOn c.args.bytes.now l c.in_ok-number.more.now) (sym c.in_ok-push.ensures.items)
    (reading_more _ _ _ _ _ c.loop-rest.invariant (rw c.in_ok-number.ensures.ok_part at c.take_number.ensures))

pub returns : goal.returns
returns c = record { read = reading_all _ _ _ c.loop-rest.invariant (eqb-true _ _ (sym c.loop-rest-test.ensures)); wanting = tt }

pub returns-in_err-push : goal.returns-in_err-push
returns-in_err-push c =
    let p = err_from_is_err_and c.from_residual-in_err-push.result c.from_residual-in_err-push.ensures.1 in
    record {
      read = rw (p.1, p.2) tt;
      wanting = rw (p.1, p.2) (reading_some _ _ _ _ _ c.loop-rest.invariant (rw c.in_ok-number.ensures.ok_part at c.take_number.ensures));
    }
