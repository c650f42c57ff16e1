use Rattle.std.proofs.Common.{◌++◌, ap, ◌∙◌}
use Rattle.saw_model.specs.Meaning.{eval as value_said, eval_all}
use Rattle.saw_text.specs.Tree.{expression, option_expression}
use Rattle.saw_text.specs.View.{expressions}
use Rattle.slow_sawzall.specs.Sawzall.{named_values}
use Rattle.slow_sawzall.proofs.Runs.{pushed_value, emit_values, row_few}
use Rattle.slow_sawzall.proofs.run.emitted_row.Goals as goal

pub from_slice-requires-clause-at_most : goal.from_slice-requires-clause-at_most
from_slice-requires-clause-at_most c =
    let is = expressions c.args.indexes.now in let v = expression c.args.first.now in let w = option_expression c.args.weight.now in
    let r = c.args.row.now in let env = named_values c.args.locals.now in
    let a = c.add_values.new.values.items in let b = c.push.new.self.items in let all = c.add_weight.new.values.items in
    row_few is v w r env c.as_slice.result.now
    (c.as_slice.ensures.value
    ∙ emit_values is v w r env a b all
    (c.in_ok-add_values.ensures {u = tt} ∙ ap (λ l. l ++ eval_all is r env) c.new-values.ensures.items)
    (pushed_value a b c.value.result (value_said v r env) (record { sfits = c.value.type_inv }) (c.in_ok-push.ensures {u = tt}).items c.value.ensures)
    (c.in_ok-add_weight.ensures {u = tt}))
    c.requires.3

pub returns : goal.returns
returns c =
    let is = expressions c.args.indexes.now in let v = expression c.args.first.now in let w = option_expression c.args.weight.now in
    let r = c.args.row.now in let env = named_values c.args.locals.now in
    let a = c.add_values.new.values.items in let b = c.push.new.self.items in let all = c.add_weight.new.values.items in
    c.from_slice.ensures
    ∙ c.as_slice.ensures.value
    ∙ emit_values is v w r env a b all
    (c.in_ok-add_values.ensures {u = tt} ∙ ap (λ l. l ++ eval_all is r env) c.new-values.ensures.items)
    (pushed_value a b c.value.result (value_said v r env) (record { sfits = c.value.type_inv }) (c.in_ok-push.ensures {u = tt}).items c.value.ensures)
    (c.in_ok-add_weight.ensures {u = tt})
