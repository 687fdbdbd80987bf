use Rattle.std.proofs.Common.{length, vec_items}
use Rattle.text.proofs.Spaces.{ReadingOn}
use Rattle.text.proofs.numbers.read_numbers.Given as goal

abbrev pub invariant-loop-rest : goal.invariant-loop-rest
invariant-loop-rest l = ReadingOn l.bytes (vec_items l.numbers) l.rest

abbrev pub decreases-loop-rest : goal.decreases-loop-rest
decreases-loop-rest l = length l.rest
