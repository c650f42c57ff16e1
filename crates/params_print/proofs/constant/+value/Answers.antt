use Rattle.std.proofs.Common.{◌≡◌, rules, ap, ◌∙◌}
use Rattle.work_code.specs.Value.{applied}
use Rattle.streamit_text.specs.Tree.{expression}
use Rattle.params_model.specs.Environment.{value}
use Rattle.params_print.proofs.Values.{value-bin, expression-bin}
use Rattle.params_print.proofs.constant.+value.Goals as goal

pub returns-in-Bin : goal.returns-in-Bin
returns-in-Bin t c =
    let env = c.args.known.now in
    let l = c.in-Bin.left in
    let r = c.in-Bin.right in
    let parts : value env (expression c.args.c.now) ≡ applied c.in-Bin.op (value env (expression l.value)) (value env (expression r.value)) =
    ap (λ e. value env (expression e)) c.in-Bin.is ∙ ap (value env) (expression-bin c.in-Bin.op l r)
    ∙ value-bin env c.in-Bin.op (expression l.value) (expression r.value) in
    rw parts (search rules)
