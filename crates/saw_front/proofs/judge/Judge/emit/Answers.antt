use Rattle.std.proofs.Common.{◌∷◌, [], sym, ap, ◌∙◌, rules}
use Rattle.river_base.proofs.Lists.{kept_by}
use Rattle.work_code.specs.Steps as tree
use Rattle.work_code.specs.Term.{terms}
use Rattle.work_code.specs.declared.code.Stmt as built
use Rattle.work_code.proofs.Running.{step-push}
use Rattle.saw_model.specs.Elaborate.{step_of}
use Rattle.saw_text.specs.Tree as source
use Rattle.saw_text.specs.Tree.{expression, option_expression}
use Rattle.saw_text.specs.View.{expressions}
use Rattle.saw_front.specs.Judging.{at_of}
use Rattle.saw_front.proofs.Statements.{counted_fault, emit_table_fault, emit_row_fault, emit_read}
use Rattle.saw_front.proofs.SoFar.{reads_err}
use Rattle.saw_front.proofs.SoFar.{good as answered}
use Rattle.saw_front.specs.declared.refused.RefusedUnit.TheVariants as why
use Rattle.saw_front.proofs.judge.Judge.emit.Goals as goal

pub returns-in_err-counted : goal.returns-in_err-counted
returns-in_err-counted c =
    let f = c.in_err-counted.field-0.0 in
    let s = at_of c.args.self.now in
    reads_err c.from_residual.result (why.Fault f) c.args.out.now c.args.out.now c.args.self.now c.counted.new.self
    (step_of (source.Emit c.args.table.now (expressions c.args.indexes.now) (expression c.args.value.now) (option_expression c.args.weight.now))
    s) (search rules)
    (counted_fault (source.Emit c.args.table.now (expressions c.args.indexes.now) (expression c.args.value.now)
    (option_expression c.args.weight.now)) s f c.in_err-counted.ensures.judged)

pub returns-in_err-port : goal.returns-in_err-port
returns-in_err-port c =
    let f = c.in_err-port.field-0.0 in
    let s = at_of c.args.self.now in
    reads_err c.from_residual-in_err-port.result (why.Fault f) c.args.out.now c.args.out.now c.args.self.now c.counted.new.self
    (step_of (source.Emit c.args.table.now (expressions c.args.indexes.now) (expression c.args.value.now) (option_expression c.args.weight.now))
    s) (search rules)
    (emit_table_fault c.args.table.now (expressions c.args.indexes.now) (expression c.args.value.now) (option_expression c.args.weight.now) s
    (at_of c.counted.new.self) c.in_ok-counted.ensures.judged f c.in_err-port.ensures)

pub returns-in_err-values : goal.returns-in_err-values
returns-in_err-values c =
    let f = c.in_err-values.field-0.0 in
    let s = at_of c.args.self.now in
    reads_err c.from_residual-in_err-values.result f c.args.out.now c.args.out.now c.args.self.now c.counted.new.self
    (step_of (source.Emit c.args.table.now (expressions c.args.indexes.now) (expression c.args.value.now) (option_expression c.args.weight.now))
    s) (search rules)
    (emit_row_fault c.args.table.now (expressions c.args.indexes.now) (expression c.args.value.now) (option_expression c.args.weight.now) s
    (at_of c.counted.new.self) c.in_ok-counted.ensures.judged c.in_ok-port.port c.in_ok-port.kind c.in_ok-port.ensures f c.in_err-values.ensures)

pub returns : goal.returns
returns c =
    let values = c.in_ok-values.values in
    let port = c.in_ok-port.port in
    let read = emit_read c.args.table.now (expressions c.args.indexes.now) (expression c.args.value.now) (option_expression c.args.weight.now)
    (at_of c.args.self.now) (at_of c.counted.new.self) c.in_ok-counted.ensures.judged port c.in_ok-port.kind c.in_ok-port.ensures (terms values)
    c.in_ok-values.ensures in (
      built.Push port values ∷ [],
      c.in_ok-push.ensures.ok,
      read ∙ ap (λ x. answered (tree.Then x tree.Done, at_of c.counted.new.self)) (sym (step-push port values)),
      kept_by c.args.self.now.names.items.items c.counted.new.self.names.items.items (ap (λ n. n.items.items) c.in_ok-counted.ensures.names),
    )
