use Rattle.std.proofs.Common.{◌++◌, codes, get_or, take, sym, ap, ◌∙◌, arith, rules}
use Rattle.std.proofs.Output.{has_written_of_eq}
use Rattle.std.proofs.lemmas.Iterator.{YieldsList-from_map, YieldsList-from_range, YieldsList-from_slice, YieldsList-from_take}
use Rattle.std.proofs.lemmas.Iterator.Consumers.{YieldsList-at}
use Rattle.std.proofs.lemmas.List.{map-id}
use Rattle.text.specs.Form.{spaced}
use Rattle.answers.proofs.Spaced.{word_then, as_many, by_place}
use Rattle.answers.proofs.line.AcceptedDisplay.fmt.Goals as goal

pub returns-in_ok-write-in-Value-clause-writes : goal.returns-in_ok-write-in-Value-clause-writes
returns-in_ok-write-in-Value-clause-writes g c =
    λ plain ok.
    let ns = g.E.Element.numbers c.in-Value.value in
    let many = as_many g.E.Element.numbers g.E.Element.made g.E.Element.WIDTH g.met.E.Element.regained g.met.E.Element.sized c.in-Value.value ∙ sym c.WIDTH.ensures in
    has_written_of_eq _ _ _ _ _ (rw c.in-Value.is (ap (λ l. codes "value" ++ spaced l) (by_place ns c.WIDTH.result many)))
    (word_then _ _ _ _ (codes "value") _ (search rules) c.write_spaced.ensures
    (YieldsList-from_map _ (λ i. get_or ns i 0) (YieldsList-from_range 0 c.WIDTH.result c.WIDTH.result c.map.ensures.source (omega arith)) c.map.ensures.closure (λ x r q k. search rules))
    ok)

pub returns-in_ok-write-in-Ready-clause-writes : goal.returns-in_ok-write-in-Ready-clause-writes
returns-in_ok-write-in-Ready-clause-writes g c =
    λ plain ok.
    let shown = take c.in-Ready.count c.in-Ready.list in
    has_written_of_eq _ _ _ _ _ (rw c.in-Ready.is (ap (λ l. codes "ready" ++ spaced l) (map-id shown)))
    (word_then _ _ _ _ (codes "ready") _ (search rules) c.write_spaced-in-Ready.ensures
    (YieldsList-from_map _ (λ n. n) (YieldsList-at c.map-in-Ready.ensures.source (YieldsList-from_take c.in-Ready.count (YieldsList-at c.take.ensures.source (YieldsList-from_slice c.in-Ready.list c.iter.ensures.rest)) c.take.ensures.count)) c.map-in-Ready.ensures.closure (λ x r q k. search rules))
    ok)
