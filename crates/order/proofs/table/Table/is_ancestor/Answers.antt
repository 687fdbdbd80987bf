use Rattle.std.proofs.Common.{◌≡◌, ℕ, ◌<◌, ◌≤◌, Bool, ◌&&◌, eqb, List, length, vec_items, sym, ap, ◌∙◌, arith}
use Rattle.std.proofs.lemmas.Bool.{lt-ltb, le-ltb}
use Rattle.order.specs.declared.task.Task.{Task}
use Rattle.order.specs.Records.{Sound, parent_at}
use Rattle.order.proofs.Climbing.{reached, reached_up, reached_last}
use Rattle.order.proofs.table.Table.is_ancestor.Goals as goal

climbed :
    (cells : ℕ) (tasks : List Task) (sound : Sound cells tasks) (u t b r : ℕ) (a : Bool) →
    t < length tasks →
    u < b →
    b ≤ t →
    r ≡ parent_at tasks b →
    a ≡ reached cells tasks u t b →
    (r ≤ t) × (a ≡ reached cells tasks u t r)
climbed cells tasks sound u t b r a ht lt le e inv =
    let low = sound.2 b (omega arith) (omega arith) in (
      omega arith,
      inv ∙ (reached_up cells tasks sound u t b lt le (omega arith) ∙ ap (reached cells tasks u t) (sym e)),
    )

pub loop-b-preserved : goal.loop-b-preserved
loop-b-preserved c =
    climbed c.args.self.now.cells (vec_items c.args.self.now.tasks) c.args.self.now.sound c.args.u c.args.t c.loop-b.b
    c.parent-b.result _ c.requires.1 c.loop-b-test.true c.loop-b.invariant.0 c.parent-b.ensures c.loop-b.invariant.1

pub returns-then-b-t : goal.returns-then-b-t
returns-then-b-t c =
    sym (c.loop-b.invariant.1
    ∙ (reached_last c.args.self.now.cells (vec_items c.args.self.now.tasks) c.args.self.now.sound c.args.u c.args.t c.loop-b.b c.requires.0 c.loop-b-test.false
    ∙ ap (λ (x : Bool). x && eqb c.loop-b.b c.args.u) (lt-ltb c.loop-b.b c.args.t c.if-b-t.true)))

pub returns-else-b-t : goal.returns-else-b-t
returns-else-b-t c =
    le-ltb c.loop-b.b c.args.t c.if-b-t.false
    ∙ sym (c.loop-b.invariant.1
    ∙ (reached_last c.args.self.now.cells (vec_items c.args.self.now.tasks) c.args.self.now.sound c.args.u c.args.t c.loop-b.b c.requires.0 c.loop-b-test.false
    ∙ ap (λ (x : Bool). x && eqb c.loop-b.b c.args.u) (le-ltb c.loop-b.b c.args.t c.if-b-t.false)))
