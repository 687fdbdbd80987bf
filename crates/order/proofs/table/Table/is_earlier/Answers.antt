use Rattle.std.proofs.Common.{◌≡◌, ℕ, ◌<◌, ◌≤◌, Bool, false, not, eqb, List, length, vec_items, sym, ap, ◌∙◌, arith}
use Rattle.order.specs.declared.task.Task.{Task}
use Rattle.order.specs.Records.{Sound, parent_at}
use Rattle.order.proofs.Climbing.{found, found_first, found_left, found_right}
use Rattle.order.proofs.table.Table.is_earlier.Goals as goal

module _ (cells : ℕ) (tasks : List Task) (sound : Sound cells tasks) (t a b r : ℕ) (f e : Bool) (ha : a < length tasks) (le : b ≤ t) (inv : e ≡ found cells tasks t a b f) where
  left : b < a → r ≡ parent_at tasks a → (r < length tasks) × (b ≤ t) × (e ≡ found cells tasks t r b (not (eqb b t)))
  left lt is =
      let low = sound.2 a (omega arith) ha in (
        omega arith,
        le,
        inv ∙ (found_left cells tasks sound t a b f ha lt ∙ ap (λ (x : ℕ). found cells tasks t x b (not (eqb b t))) (sym is)),
      )

  right : t < length tasks → a < b → r ≡ parent_at tasks b → (a < length tasks) × (r ≤ t) × (e ≡ found cells tasks t a r false)
  right ht lt is =
      let low = sound.2 b (omega arith) (omega arith) in (
        ha,
        omega arith,
        inv ∙ (found_right cells tasks sound t a b f le (omega arith) lt ∙ ap (λ (x : ℕ). found cells tasks t a x false) (sym is)),
      )

pub loop-a-init : goal.loop-a-init
loop-a-init c = (
  c.requires.0,
  omega arith,
  found_first c.args.self.now.cells (vec_items c.args.self.now.tasks) c.args.self.now.sound c.args.u c.args.t,
)

pub loop-a-preserved-then-a-b : goal.loop-a-preserved-then-a-b
loop-a-preserved-then-a-b c =
    left c.args.self.now.cells (vec_items c.args.self.now.tasks) c.args.self.now.sound c.args.t c.loop-a.a c.loop-a.b
    c.parent-a.result c.loop-a.lower _ c.loop-a.invariant.0 c.loop-a.invariant.1 c.loop-a.invariant.2 c.if-a-b.true c.parent-a.ensures

pub loop-a-preserved : goal.loop-a-preserved
loop-a-preserved c =
    right c.args.self.now.cells (vec_items c.args.self.now.tasks) c.args.self.now.sound c.args.t c.loop-a.a c.loop-a.b
    c.parent-b.result c.loop-a.lower _ c.loop-a.invariant.0 c.loop-a.invariant.1 c.loop-a.invariant.2 c.requires.1 (omega (arith, c.if-a-b.false, c.loop-a-test.true)) c.parent-b.ensures
