use Rattle.std.proofs.Common.{arith}
use Rattle.text.proofs.Cuts.{cut_at}
use Rattle.text.proofs.reader.Reader.take_line.Goals as goal

pub returns : goal.returns
returns c =
    let e = cut_at c.self.inside.rest.now _ _ _ (omega arith) c.split_at.ensures.front c.split_at.ensures.back in
    rw (← c.self.view_is) (record { line = e.0; rest = e.1; cut = e.2 })
