use Rattle.promise.proofs.Progress.{complete_by_children}
use Rattle.promise.proofs.complete_by_children.Goals as goal

pub returns : goal.returns
returns g c = complete_by_children g.V.Updates.rest g.V.Updates.updated
