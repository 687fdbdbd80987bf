use Rattle.std.proofs.Common.{[], ◌∷◌}
use Rattle.std.proofs.lemmas.Bool.Decides.{Decides-eqb}
use Rattle.std.proofs.lemmas.Slice.Eq.{strip_suffix_is}
use Rattle.text.proofs.Stops.{ok_for_some}
use Rattle.calls.proofs.line.front.Goals as goal

pub returns : goal.returns
returns c = ok_for_some _ _ c.strip_suffix.result _ c.ok_or.result (strip_suffix_is Decides-eqb c.args.line.now (10 ∷ []) c.strip_suffix.result c.strip_suffix.ensures.cases) c.ok_or.ensures.value
