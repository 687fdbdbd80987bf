use Rattle.std.proofs.Common.{refl}
use Rattle.std.proofs.lemmas.Result.{err_from_is_err_and}
use Rattle.order.specs.declared.turns.Turn.TheVariants.{Resume}
use Rattle.order.specs.Questions.{resume}
use Rattle.order.specs.View.{view}
use Rattle.order.proofs.Answering.{refused_did}
use Rattle.order.proofs.Turning.{sound_turned, resume_asks, resume_did}
use Rattle.order.proofs.table.Table.resume.Goals as goal

pub returns-in_err-may_resume : goal.returns-in_err-may_resume
returns-in_err-may_resume c =
    let p = err_from_is_err_and c.from_residual-in_err-may_resume.result c.from_residual-in_err-may_resume.ensures.1 in
    refused_did (view c.args.self.now) (resume c.args.t) c.from_residual-in_err-may_resume.result p.0
    c.in_err-may_resume.field-0.0 p.1 p.2
    (
    resume_asks c.args.self.now.cells c.args.self.now.tasks.items c.args.self.now.sound c.args.t c.in_ok-known.ensures.0
    c.in_ok-known.field-0.now c.in_ok-known.ensures.1 _ c.in_err-may_resume.ensures
    )

pub invariant_of-self : goal.invariant_of-self
invariant_of-self c = record {
  room = c.args.self.now.room;
  sound = sound_turned c.args.self.now.cells c.args.self.now.tasks.items c.args.self.now.sound c.args.t c.in_ok-known.ensures.0
      c.index_mut.result.now c.index_mut.ensures.value Resume refl c.turn.result c.turn.new.self c.turn.ensures;
}

pub returns : goal.returns
returns c =
    resume_did c.args.self.now.cells c.args.self.now.tasks.items c.args.self.now.sound c.args.t c.in_ok-known.ensures.0
    c.index_mut.result.now c.index_mut.ensures.value c.turn.result c.turn.new.self
    (
    resume_asks c.args.self.now.cells c.args.self.now.tasks.items c.args.self.now.sound c.args.t c.in_ok-known.ensures.0
    c.in_ok-known.field-0.now c.in_ok-known.ensures.1 0 c.in_ok-may_resume.ensures
    )
    c.turn.ensures
