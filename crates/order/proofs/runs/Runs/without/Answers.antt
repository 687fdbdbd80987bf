use Rattle.std.proofs.Common.{◌+◌, leb, ◌++◌, length, get_or, drop, sym, ap, ◌∙◌, append-nil, arith}
use Rattle.std.proofs.lemmas.List.{at_drop_all}
use Rattle.std.proofs.lemmas.Bool.{le-leb}
use Rattle.std.proofs.lemmas.Result.{err_from_is_err_and}
use Rattle.order.specs.Cutting.{left, all_left}
use Rattle.order.specs.Holdings.{in_use}
use Rattle.order.specs.Stretches.{held_at, longest, end_by}
use Rattle.order.proofs.Stretched.{blank}
use Rattle.order.proofs.Cutting.{longest_front, longest_left, held_left, end_left, too_many, one_left}
use Rattle.order.proofs.Counting.{count_left}
use Rattle.order.proofs.Answering.{err_is}
use Rattle.order.proofs.runs.Runs.without.Goals as goal

pub push_left-requires : goal.push_left-requires
push_left-requires c =
    let e =
    one_left c.args.lo c.args.hi (in_use c.loop-run.out) c.as_slice-run-items.result.now (all_left c.args.lo c.args.hi (in_use c.args.self.now))
    c.loop-run.run-index c.loop-run.invariant c.loop-run-test.true in
    longest_front
    (in_use c.loop-run.out ++ left c.args.lo c.args.hi (get_or c.as_slice-run-items.result.now c.loop-run.run-index blank))
    (all_left c.args.lo c.args.hi (drop (c.loop-run.run-index + 1) c.as_slice-run-items.result.now))
    (ap longest e ∙ longest_left c.args.lo c.args.hi (in_use c.args.self.now) c.requires c.args.self.now.sorted)

pub returns-in_err-push_left : goal.returns-in_err-push_left
returns-in_err-push_left c n h =
    let p = err_from_is_err_and c.from_residual.result c.from_residual.ensures.1 in
    let e =
    one_left c.args.lo c.args.hi (in_use c.loop-run.out) c.as_slice-run-items.result.now (all_left c.args.lo c.args.hi (in_use c.args.self.now))
    c.loop-run.run-index c.loop-run.invariant c.loop-run-test.true in
    err_is _ _ c.from_residual.result p.0 p.1 (
      p.2 ∙ c.in_err-push_left.ensures.full,
      ap (λ k. leb k 16)
          (count_left c.args.lo c.args.hi n (in_use c.args.self.now) c.requires c.args.self.now.sorted h ∙ ap length (sym e))
          ∙ too_many 16
          (in_use c.loop-run.out ++ left c.args.lo c.args.hi (get_or c.as_slice-run-items.result.now c.loop-run.run-index blank))
          (all_left c.args.lo c.args.hi (drop (c.loop-run.run-index + 1) c.as_slice-run-items.result.now))
          c.in_err-push_left.ensures.room,
    )

pub returns : goal.returns
returns c n h =
    let xs = in_use c.args.self.now in
    let all_done =
    sym (append-nil (in_use c.loop-run.out))
    ∙ (ap (λ l. in_use c.loop-run.out ++ l)
    (sym (at_drop_all (all_left c.args.lo c.args.hi) c.as_slice-run-items.result.now c.loop-run.run-index c.loop-run-test.false))
    ∙ c.loop-run.invariant) in
    let f = c.loop-run.out.few in (
      ap (λ k. leb k 16) (count_left c.args.lo c.args.hi n xs c.requires c.args.self.now.sorted h ∙ ap length (sym all_done))
          ∙ le-leb (length (in_use c.loop-run.out)) 16 (omega arith),
      (λ d. ap (λ l. held_at l d) all_done ∙ held_left c.args.lo c.args.hi xs d),
      ap (end_by n) all_done ∙ end_left n c.args.lo c.args.hi xs h,
    )
