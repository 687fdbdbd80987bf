use Rattle.std.proofs.Common.{sym, subst}
use Rattle.std.proofs.lemmas.Result.{err_from_is_err_and}
use Rattle.text.specs.declared.unread.Unread.TheVariants.{NoLineEnd}
use Rattle.text.proofs.Stops.{wanting_where}
use Rattle.calls.specs.Calls.{Lettered, NoCall}
use Rattle.calls.proofs.Whole.{refused, unknown, lined, bad, judged}
use Rattle.calls.proofs.line.read_call.Goals as goal

pub returns-in_err-front-clause-read : goal.returns-in_err-front-clause-read
returns-in_err-front-clause-read g c =
    let p = err_from_is_err_and c.from_residual.result c.from_residual.ensures.1 in
    let e = c.in_err-front.ensures in
    rw (p.1, p.2)
    (subst (NoCall g.E.Element.numbers g.E.Element.WIDTH g.E.Element.made c.args.line.now) (sym e.0) (refused g.E.Element _ NoLineEnd e.1))

pub returns-in_err-letter-clause-read : goal.returns-in_err-letter-clause-read
returns-in_err-letter-clause-read g c =
    let p = err_from_is_err_and c.from_residual-in_err-letter.result c.from_residual-in_err-letter.ensures.1 in
    let e = c.in_err-letter.ensures in
    rw (p.1, p.2)
    (subst (NoCall g.E.Element.numbers g.E.Element.WIDTH g.E.Element.made c.args.line.now) (sym e.0) (unknown g.E.Element _ _ c.in_ok-front.ensures e.1))

pub returns-in_err-numbers : goal.returns-in_err-numbers
returns-in_err-numbers g c =
    let p = err_from_is_err_and c.from_residual-in_err-numbers.result c.from_residual-in_err-numbers.ensures.1 in
    record {
      read = rw (p.1, p.2) (bad g.E.Element _ _ c.in_ok-front.ensures _ _ c.in_ok-letter.ensures _ c.in_err-numbers.ensures.read);
      wanting =
          rw (p.1, p.2)
          (wanting_where c.in_err-numbers.field-0.0 (Lettered c.args.line.now) (_, _, lined g.E.Element _ _ c.in_ok-front.ensures _ _ c.in_ok-letter.ensures));
    }

pub returns-clause-read : goal.returns-clause-read
returns-clause-read g c =
    judged g.E.Element _ _ c.in_ok-front.ensures _ _ c.in_ok-letter.ensures _ c.in_ok-numbers.ensures.read _ c.deref.ensures.value c.written.result c.written.ensures
