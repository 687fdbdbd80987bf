use Rattle.std.proofs.Common.{◌≡◌, ◌++◌, take, string_bytes}
use Rattle.answers.specs.Writing.{lines_of}
use Rattle.answers.proofs.line.write_answers.Given as goal

abbrev pub invariant-loop-turn : goal.invariant-loop-turn
invariant-loop-turn g l =
    string_bytes l.out ≡ string_bytes l.initial.out ++ lines_of g.E.Element.numbers (take l.turn-index l.turns)
