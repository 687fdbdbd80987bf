use Rattle.std.proofs.Common.{string_bytes, arith}
use Rattle.answers.proofs.Lines.{line_more}
use Rattle.answers.proofs.line.write_answers.Goals as goal

pub loop-turn-preserved : goal.loop-turn-preserved
loop-turn-preserved g c =
    line_more g.E.Element.numbers (string_bytes c.args.out.now) (string_bytes c.loop-turn.out) (string_bytes c.write_answer.new.out)
    c.args.turns.now c.loop-turn.turn-index c.turn-item.result
    (omega arith) c.turn-item.is c.loop-turn.invariant c.in_ok-write_answer.ensures
