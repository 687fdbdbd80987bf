use Rattle.std.proofs.Common.{ℕ, cond, length, None, sym, ap, ◌∙◌, arith}
use Rattle.std.proofs.lemmas.Bool.{cond-false, le-ltb}
use Rattle.order.specs.declared.run.Run.{Run}
use Rattle.order.specs.Holdings.{in_use}
use Rattle.kinds.specs.Kinds.{asked, within}
use Rattle.order.specs.Stretches.{held_at, end_by}
use Rattle.order.proofs.Stretched.{end_later}
use Rattle.order.proofs.Appending.{held_appended, end_appended, length_appended}
use Rattle.order.proofs.Sweeping.{above_most, next_over, next_passes, swept_more, swept_none, swept_all, reach_swept}
use Rattle.order.proofs.runs.Runs.of_accesses.Goals as goal

pub loop-next-init : goal.loop-next-init
loop-next-init c =
    let e = c.none-out.ensures in
    let a = above_most 0 c.args.accesses.now in
    let l = ap length e in
    let p = c.requires in
    (omega arith, ap (end_by 0) e, λ d. ap (λ xs. held_at xs d) e ∙ sym (cond-false _ (asked c.args.accesses.now d) None (le-ltb d 0 (omega arith))))

pub append-requires : goal.append-requires
append-requires c =
    let p = sym c.in-Some.ensures in
    let k = next_passes c.loop-next.pos c.in-Some.next c.args.accesses.now p in
    let i = c.loop-next.invariant.0 in
    record { some = next_over c.loop-next.pos c.in-Some.next c.args.accesses.now p; behind = c.loop-next.invariant.1; room = omega arith }

pub loop-next-smaller-in-Some-asked_at : goal.loop-next-smaller-in-Some-asked_at
loop-next-smaller-in-Some-asked_at c =
    let k = next_passes c.loop-next.pos c.in-Some.next c.args.accesses.now (sym c.in-Some.ensures) in
    omega arith

pub loop-next-preserved-in-Some-asked_at : goal.loop-next-preserved-in-Some-asked_at
loop-next-preserved-in-Some-asked_at c =
    let xs = c.args.accesses.now in
    let pos = c.loop-next.pos in
    let next = c.in-Some.next in
    let out = in_use c.loop-next.out in
    let run : Run = record { lo = pos; hi = next; holding = c.in-Some-asked_at.holding } in
    let p = sym c.in-Some.ensures in
    let some = next_over pos next xs p in
    let k = next_passes pos next xs p in
    let i = c.loop-next.invariant.0 in
    let e = c.append.ensures in
    let l = ap length e in
    let m = length_appended out run in (
      omega arith,
      ap (end_by next) e ∙ end_appended run some out c.loop-next.invariant.1,
      (λ d.
          ap (λ ys. held_at ys d) e
          ∙ (held_appended run some out d c.loop-next.out.sorted c.loop-next.invariant.1
          ∙ (ap (λ o. cond (within pos next d) o (held_at out d)) c.in-Some-asked_at.ensures
          ∙ (ap (cond (within pos next d) _) (c.loop-next.invariant.2 d) ∙ swept_more pos next d xs p)))),
    )

pub loop-next-smaller : goal.loop-next-smaller
loop-next-smaller c =
    let k = next_passes c.loop-next.pos c.in-Some.next c.args.accesses.now (sym c.in-Some.ensures) in
    omega arith

pub loop-next-preserved : goal.loop-next-preserved
loop-next-preserved c =
    let xs = c.args.accesses.now in
    let pos = c.loop-next.pos in
    let next = c.in-Some.next in
    let p = sym c.in-Some.ensures in
    let h = next_over pos next xs p in
    let k = next_passes pos next xs p in
    let i = c.loop-next.invariant.0 in (
      omega arith,
      end_later pos next (in_use c.loop-next.out) (omega arith) c.loop-next.invariant.1,
      (λ d. c.loop-next.invariant.2 d ∙ swept_none pos next d xs p (sym c.in_default-asked_at.ensures)),
    )

pub returns : goal.returns
returns c =
    let xs = c.args.accesses.now in
    let p = sym c.in_default.ensures in
    let all = λ (d : ℕ). c.loop-next.invariant.2 d ∙ swept_all c.loop-next.pos d xs p in
    record { held = all; reach = λ w l. reach_swept w xs (in_use c.loop-next.out) c.loop-next.out.sorted all l }
