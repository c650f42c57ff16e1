use Rattle.std.proofs.Common.{sym}
use Rattle.std.proofs.lemmas.Bool.{true≢false}
use Rattle.std.proofs.lemmas.Result.{on_ok_weaker}
use Rattle.std.specs.Prelude.{codes}
use Rattle.work_code.specs.Steps.{steps}
use Rattle.work_code.specs.Printed.{more_text, body_text, else_text}
use Rattle.work_code.proofs.Texts.{two, three, body_text-is, else_of}
use Rattle.river_print.proofs.printing.+write_step.Goals as goal

pub write_body-returns : goal.write_body-returns
write_body-returns t c =
    let all = steps c.args.body.now in
    on_ok_weaker c.extend-2.result (λ third.
    three c.args.to.now (codes "{") (more_text all) (codes " }") (body_text all) c.extend.new.self c.write_steps.new.to c.extend-2.new.self
    c.in_ok-extend.ensures.ok c.in_ok-write_steps.ensures third (body_text-is all))
    c.extend-2.ensures.ok

pub write_else-returns : goal.write_else-returns
write_else-returns t c =
    let full = rw c.if-is_empty.false at c.is_empty.ensures in
    let all = steps c.args.body.now in
    on_ok_weaker c.write_body.result (λ second.
    two c.args.to.now (codes " else ") (body_text all) (else_text all) c.extend.new.self c.write_body.new.to
    c.in_ok-extend.ensures.ok second (else_of c.args.body.now (λ e. true≢false (sym (full.1 e)))))
    c.write_body.ensures
