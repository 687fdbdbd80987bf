use Rattle.text.specs.Form.{Small}
use Rattle.text.proofs.Decimals.{Reading}
use Rattle.text.proofs.numbers.number_of.Given as goal

abbrev pub invariant-loop-b : goal.invariant-loop-b
invariant-loop-b l = Reading l.digits l.b-index l.number × Small l.number
