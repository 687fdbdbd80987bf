use Rattle.std.proofs.Common.{string_bytes, ap, ◌∙◌, subst}
use Rattle.std.proofs.lemmas.Result.{IfOk-weaker}
use Rattle.calls.specs.Header.{HeaderRead, NoHeader}
use Rattle.text.specs.Lines.{line_of, after_line}
use Rattle.lists.specs.Printing.{headless, headed, BodyOf}
use Rattle.lists.proofs.list.run_list.Goals as goal

pub returns-in-Ok : goal.returns-in-Ok
returns-in-Ok c =
    let e = c.take_line-rest.ensures.rest ∙ ap after_line c.new.ensures in
    let l = c.take_line-rest.ensures.line ∙ ap line_of c.new.ensures in
    IfOk-weaker c.run_body.result _ _
    (λ out body. headed c.if-text-gt-MOST_BYTES.false c.in-Ok.header (subst (λ bs. HeaderRead bs c.in-Ok.header) l c.in-Ok.ensures) (subst (λ bs. BodyOf c.in-Ok.header bs (string_bytes out)) e body))
    c.run_body.ensures

pub returns-in-Err : goal.returns-in-Err
returns-in-Err c =
    let l = c.take_line-rest.ensures.line ∙ ap line_of c.new.ensures in
    IfOk-weaker c.to_string-in-Err.result _ _
    (λ out told. headless c.if-text-gt-MOST_BYTES.false c.in-Err.why (subst (λ bs. NoHeader bs c.in-Err.why) l c.in-Err.ensures) told)
    c.to_string-in-Err.ensures.ok
