use Rattle.std.proofs.Common.{rules}
use Rattle.std.proofs.lemmas.List.{get_or_past}
use Rattle.layers.specs.Layers.{covered_length}
use Rattle.layers.proofs.behind.WriteBehindEStore.read.Goals as goal

pub returns-then-cell-count : goal.returns-then-cell-count
returns-then-cell-count g c = search (rules, get_or_past, covered_length)
