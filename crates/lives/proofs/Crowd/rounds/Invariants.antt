use Rattle.std.proofs.Common.{◌≡◌, ◌*◌}
use Rattle.lives.proofs.Crowd.rounds.Given as goal

abbrev pub invariant-loop : goal.invariant-loop
invariant-loop l = l.lived ≡ l.counter * l.self.lives
