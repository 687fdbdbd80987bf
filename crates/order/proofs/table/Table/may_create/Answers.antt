use Rattle.std.proofs.Common.{length, sym, ◌∙◌, arith}
use Rattle.std.proofs.lemmas.Bool.{le-leb, not-true, not-false}
use Rattle.order.specs.View.{view}
use Rattle.order.proofs.Creating.{commutative_parent, not_covered, all_asked, room_read, commutative_read, covers_read}
use Rattle.order.proofs.table.Table.may_create.Goals as goal

pub returns-then-has_commutative : goal.returns-then-has_commutative
returns-then-has_commutative c =
    commutative_parent (view c.args.self.now) c.args.parent c.args.accesses.now c.in_ok-task.ensures.number
    (
    room_read c.args.self.now.cells c.args.self.now.tasks.items c.args.self.now.sound
    (let h = c.if-len-ge-MOST_TASKS.false in let e = c.len.ensures in let n = c.args.self.now.tasks.ok.0 in omega arith)
    )
    (le-leb (length c.args.accesses.now) 8 c.if-accesses-gt-MOST_ACCESSES.false) (sym c.has_regions.ensures ∙ c.if-not-has_regions.false) (sym c.kinds_known.ensures ∙ c.if-not-kinds_known.false)
    (
    not-true _
    (
    sym
    (commutative_read c.args.self.now.cells c.args.self.now.tasks.items c.args.self.now.sound c.args.parent c.in_ok-task.ensures.number c.in_ok-task.task.now c.in_ok-task.ensures.stands c.has_commutative.result c.has_commutative.ensures)
    ∙ c.if-has_commutative.true
    )
    )

pub returns-then-not-covers_all : goal.returns-then-not-covers_all
returns-then-not-covers_all c =
    not_covered (view c.args.self.now) c.args.parent c.args.accesses.now c.in_ok-task.ensures.number
    (
    room_read c.args.self.now.cells c.args.self.now.tasks.items c.args.self.now.sound
    (let h = c.if-len-ge-MOST_TASKS.false in let e = c.len.ensures in let n = c.args.self.now.tasks.ok.0 in omega arith)
    )
    (le-leb (length c.args.accesses.now) 8 c.if-accesses-gt-MOST_ACCESSES.false) (sym c.has_regions.ensures ∙ c.if-not-has_regions.false) (sym c.kinds_known.ensures ∙ c.if-not-kinds_known.false)
    (
    not-false _
    (
    sym
    (commutative_read c.args.self.now.cells c.args.self.now.tasks.items c.args.self.now.sound c.args.parent c.in_ok-task.ensures.number c.in_ok-task.task.now c.in_ok-task.ensures.stands c.has_commutative.result c.has_commutative.ensures)
    ∙ c.if-has_commutative.false
    )
    )
    (
    sym
    (
    covers_read c.args.self.now.cells c.args.self.now.tasks.items c.args.self.now.sound c.args.parent c.in_ok-task.ensures.number c.in_ok-task.task.now c.in_ok-task.ensures.stands c.args.accesses.now c.of_accesses-asked.result
    (c.of_accesses-asked.ensures.held, c.of_accesses-asked.ensures.reach (view c.args.self.now) (sym c.has_regions.ensures ∙ c.if-not-has_regions.false))
    c.covers_all.result c.covers_all.ensures
    )
    ∙ c.if-not-covers_all.true
    )

pub returns : goal.returns
returns c = (
  all_asked (view c.args.self.now) c.args.parent c.args.accesses.now c.in_ok-task.ensures.number
      (
      room_read c.args.self.now.cells c.args.self.now.tasks.items c.args.self.now.sound
      (let h = c.if-len-ge-MOST_TASKS.false in let e = c.len.ensures in let n = c.args.self.now.tasks.ok.0 in omega arith)
      )
      (le-leb (length c.args.accesses.now) 8 c.if-accesses-gt-MOST_ACCESSES.false) (sym c.has_regions.ensures ∙ c.if-not-has_regions.false) (sym c.kinds_known.ensures ∙ c.if-not-kinds_known.false)
      (
      not-false _
      (
      sym
      (commutative_read c.args.self.now.cells c.args.self.now.tasks.items c.args.self.now.sound c.args.parent c.in_ok-task.ensures.number c.in_ok-task.task.now c.in_ok-task.ensures.stands c.has_commutative.result c.has_commutative.ensures)
      ∙ c.if-has_commutative.false
      )
      )
      (
      sym
      (
      covers_read c.args.self.now.cells c.args.self.now.tasks.items c.args.self.now.sound c.args.parent c.in_ok-task.ensures.number c.in_ok-task.task.now c.in_ok-task.ensures.stands c.args.accesses.now c.of_accesses-asked.result
      (c.of_accesses-asked.ensures.held, c.of_accesses-asked.ensures.reach (view c.args.self.now) (sym c.has_regions.ensures ∙ c.if-not-has_regions.false))
      c.covers_all.result c.covers_all.ensures
      )
      ∙ c.if-not-covers_all.false
      ),
  (c.of_accesses-asked.ensures.held, c.of_accesses-asked.ensures.reach (view c.args.self.now) (sym c.has_regions.ensures ∙ c.if-not-has_regions.false)),
)
