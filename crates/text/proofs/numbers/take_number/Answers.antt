use Rattle.std.proofs.Common.{arith}
use Rattle.std.proofs.lemmas.List.{take_rest}
use Rattle.text.proofs.Spaces.{took, took_none}
use Rattle.text.proofs.numbers.take_number.Goals as goal

pub returns-in_err-number_of : goal.returns-in_err-number_of
returns-in_err-number_of c =
    rw c.from_residual.ensures
    (took_none c.args.bytes.now _ c.find.result _ _ (take_rest c.args.bytes.now 1) c.find.ensures.value c.split_at.ensures.front c.split_at.ensures.back
    c.in_err-number_of.ensures)

pub returns : goal.returns
returns c =
    took c.args.bytes.now _ c.find.result _ _ (take_rest c.args.bytes.now 1) c.find.ensures.value c.split_at.ensures.front c.split_at.ensures.back _
    (omega arith) (omega arith) c.in_ok-number_of.ensures
