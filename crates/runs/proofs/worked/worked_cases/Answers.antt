use Rattle.std.proofs.Common.{refl}
use Rattle.kinds.specs.Kinds.{combine, conflict, covers}
use Rattle.promise.proofs.Cases.{worked}
use Rattle.runs.proofs.worked.worked_cases.Goals as goal

pub returns : goal.returns
unfolding combine conflict covers
returns c = record { order = worked; span = (refl, refl, (refl, refl, (refl, refl, refl))) }
