use Rattle.promise.proofs.Replay.{in_program_order}
use Rattle.promise.proofs.Progress.{never_stuck}
use Rattle.promise.proofs.promise_stands.Goals as goal

pub returns : goal.returns
returns g c = (
  in_program_order g.V.Updates.rest g.V.Updates.updated g.V.Updates.commutes,
  never_stuck g.V.Updates.rest g.V.Updates.updated,
)
