use Rattle.std.proofs.Common.{set-set, rules}
use Rattle.layers.proofs.behind.WriteBehindEStore.write.Goals as goal
use Rattle.layers.proofs.behind.WriteBehindEStore.write.Goals.{in-Some+then-h-cell+in_ok-raised, in_default, in_default-via-in-None-1, in_default-via-in-Some+else-h-cell}

pub returns : goal.returns
returns g c =
    elim c.match-self.branch [
      | in-Some+then-h-cell+in_ok-raised w ↦ search rules
      | in_default w ↦
          elim w.in_default.branch [ in_default-via-in-None-1 w' ↦ search rules | in_default-via-in-Some+else-h-cell w' ↦ search (rules, set-set) ]
    ]
