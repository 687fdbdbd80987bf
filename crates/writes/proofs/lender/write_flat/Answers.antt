use Rattle.std.proofs.Common.{List, set, refl, subst, rules}
use Rattle.writes.specs.Lender.{flat_verdict}
use Rattle.writes.specs.Writes.{Answered}
use Rattle.writes.proofs.Goes.{went_kept, went_changed, went_answered}
use Rattle.writes.proofs.lender.write_flat.Goals as goal

pub returns : goal.returns
returns g c =
    let w = c.write_each.ensures.went in
    let n = went_kept _ _ _ (λ s. s.places.ghost_name) (λ s i v t k. k.1) _ _ _ w in
    let p = went_changed _ _ _ (λ s. s.places.now) set (λ s i v t k. k.0) _ _ _ w in
    let P : List _ → Type 0 = λ x. Answered flat_verdict set x c.write_each.new.turns in
    record {
      answered = subst P c.new-flat.ensures.kept (went_answered _ _ _ (λ s. s.places.now) set (λ s i v t k. k.0) flat_verdict (λ s i. refl) _ _ _ w);
      places = search rules;
      asked = c.write_each.ensures.asked;
    }
