use Rattle.std.proofs.Common.{◌≡◌, refl, ap, ◌∙◌, subst, rules}
use Rattle.writes.specs.Lender.{Chains, chained, chains_verdict, unused}
use Rattle.writes.specs.Writes.{all_changed, Answered}
use Rattle.writes.proofs.Goes.{went_kept, went_changed, went_answered}
use Rattle.writes.proofs.Sinks.{memory, memory_moves, memory_new}
use Rattle.writes.proofs.lender.write_chain.Goals as goal

pub returns : goal.returns
returns g c =
    let w = c.write_each.ensures.went in
    let n = c.new-chain.ensures in
    let nh = went_kept _ _ _ (λ s. s.heads.ghost_name) (λ s i v t k. k.1) _ _ _ w ∙ n.lent_heads in
    let nr = went_kept _ _ _ (λ s. s.records.ghost_name) (λ s i v t k. k.2) _ _ _ w ∙ n.lent_records in
    let first : memory c.new-chain.result ≡ unused c.args.heads.now c.args.records.now = memory_new c.new-chain.result _ _ n.heads n.records n.used in
    let m : memory c.write_each.new.store ≡ all_changed chained (unused c.args.heads.now c.args.records.now) c.write_each.new.turns =
    went_changed _ _ _ memory chained (λ s i v t k. memory_moves s i v t k.0) _ _ _ w ∙ ap (λ x. all_changed chained x c.write_each.new.turns) first
    in
    let h : c.write_each.new.store.heads.now ≡ (all_changed chained (unused c.args.heads.now c.args.records.now) c.write_each.new.turns).heads = ap (λ x. x.heads) m in
    let r : c.write_each.new.store.records.now ≡ (all_changed chained (unused c.args.heads.now c.args.records.now) c.write_each.new.turns).records = ap (λ x. x.records) m in
    let P : Chains _ → Type 0 = λ x. Answered chains_verdict chained x c.write_each.new.turns in
    record {
      answered = subst P first (went_answered _ _ _ memory chained (λ s i v t k. memory_moves s i v t k.0) chains_verdict (λ s i. refl) _ _ _ w);
      heads = search rules;
      records = search rules;
      asked = c.write_each.ensures.asked;
    }
