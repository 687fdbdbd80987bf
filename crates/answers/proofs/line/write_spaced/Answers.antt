use Rattle.std.proofs.Common.{arith, sym, ap, ◌∙◌}
use Rattle.std.proofs.lemmas.Grind.{common_steps}
use Rattle.std.proofs.lemmas.Iterator.Consumers.{YieldsList-at, YieldsList-end}
use Rattle.std.proofs.lemmas.List.{map-id}
use Rattle.text.specs.Form.{spaced}
use Rattle.std.proofs.Output.{has_written_of_eq}
use Rattle.answers.proofs.Spaced.{spaced_append}
use Rattle.answers.proofs.line.write_spaced.Goals as goal

pub loop-n-preserved : goal.loop-n-preserved
loop-n-preserved g c = grind (arith, common_steps, spaced_append)

pub returns : goal.returns
returns g c =
    λ ns gives plain ok.
    has_written_of_eq _ _ _ _ _ (ap spaced (sym (map-id _) ∙ (YieldsList-end {steps = g.I.Iterator.next_gives} (YieldsList-at c.into_iter-n-iterator.ensures.into_iter_gives (record { runs = gives })) c.loop-n.yielded _ c.loop-n.yielded_by _ _ c.in-None.is c.next.ensures.steps).0)) (c.loop-n.invariant plain)
