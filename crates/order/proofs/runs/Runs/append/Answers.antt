use Rattle.std.proofs.Common.{◌≡◌, ◌≤◌, ◌∷◌, [], ◌++◌, None, is_some, length, sym, ap, ◌∙◌, arith}
use Rattle.std.proofs.lemmas.Bool.{ltb-false}
use Rattle.order.specs.Stretches.{longest}
use Rattle.order.specs.Sweeping.{appended}
use Rattle.order.proofs.Appending.{length_appended, lent_longer, lent_same, lent_behind, none_lent, first_behind, longest_appended}
use Rattle.order.proofs.runs.Runs.append.Goals.{in_default-via-in-Some+else-goes_on, in_default-via-in-None-1}
use Rattle.order.proofs.runs.Runs.append.Goals as goal

pub returns-in-Some : goal.returns-in-Some
returns-in-Some c = let h = c.in-Some.ensures.item in lent_longer c.args.self.now.list c.as_mut_slice.result.now c.as_mut_slice.ensures.value c.in-Some.last.now c.args.run h.0 h.1 (sym c.if-goes_on.ensures)

pub invariant_of-self : goal.invariant_of-self
invariant_of-self c =
    let xs = c.args.self.now.list.items in
    let h = c.in-Some.ensures.item in
    let e = lent_longer c.args.self.now.list c.as_mut_slice.result.now c.as_mut_slice.ensures.value c.in-Some.last.now c.args.run h.0 h.1 (sym c.if-goes_on.ensures) in
    let l = length_appended xs c.args.run in
    let m = ap length e in
    let r = c.requires.room in
    record {
      few = omega arith;
      sorted = ap longest e ∙ longest_appended c.args.run c.requires.some xs c.args.self.now.sorted c.requires.behind;
    }

pushed : (c : goal.After-push) → c.push.new.self.items ≡ appended c.args.self.now.list.items c.args.run
pushed c =
    let v = c.args.self.now.list in
    let xs = c.as_mut_slice.result.now in
    let e = c.as_mut_slice.ensures.value in
    c.push.ensures.items
    ∙ elim c.in_default.branch [
      | in_default-via-in-Some+else-goes_on w ↦
          let h = w.in-Some.ensures.item in
          let r = w.in-Some.last.now in
          ap (λ l. l.items ++ c.args.run ∷ []) w.list-is
          ∙ (ap (λ l. l ++ c.args.run ∷ []) (lent_same v xs e r c.args.run h.0 h.1)
          ∙ lent_behind v xs e r c.args.run h.0 h.1 (sym w.if-goes_on.ensures))
      | in_default-via-in-None-1 w ↦
          let n : c.last_mut.result ≡ None = cc in
          let z : length xs ≤ 0 = ltb-false 0 (length xs) (sym c.last_mut.ensures.item.0 ∙ ap is_some n) in
          let l = ap length e in
          ap (λ l. l.items ++ c.args.run ∷ []) w.list-is
          ∙ (ap (λ l. l ++ c.args.run ∷ []) (none_lent v xs e)
          ∙ first_behind v.items c.args.run (omega arith))
    ]

pub returns-in_default : goal.returns-in_default
returns-in_default c = pushed c.before

pub invariant_of-self-in_default : goal.invariant_of-self-in_default
invariant_of-self-in_default c =
    let xs = c.args.self.now.list.items in
    let e = pushed c in
    let l = length_appended xs c.args.run in
    let m = ap length e in
    let r = c.requires.room in
    record {
      few = omega arith;
      sorted = ap longest e ∙ longest_appended c.args.run c.requires.some xs c.args.self.now.sorted c.requires.behind;
    }
