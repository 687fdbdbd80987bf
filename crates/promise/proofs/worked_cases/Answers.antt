use Rattle.promise.proofs.Cases.{worked}
use Rattle.promise.proofs.worked_cases.Goals as goal

pub returns : goal.returns
returns c = worked
