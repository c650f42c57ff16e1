use Rattle.std.proofs.Common.{◌∷◌, [], sym, ap, ◌∙◌, rules}
use Rattle.river_base.proofs.Lists.{kept_by}
use Rattle.work_code.specs.Steps as tree
use Rattle.work_code.specs.Term.{term}
use Rattle.work_code.specs.declared.code.Stmt as built
use Rattle.work_code.proofs.Running.{step-set}
use Rattle.saw_model.specs.Elaborate.{step_of}
use Rattle.saw_text.specs.Tree as source
use Rattle.saw_text.specs.Tree.{expression}
use Rattle.saw_front.specs.Judging.{at_of}
use Rattle.saw_front.proofs.Statements.{counted_fault, assign_slot_fault, assign_value_fault, assign_read}
use Rattle.saw_front.proofs.SoFar.{reads_err}
use Rattle.saw_front.proofs.SoFar.{good as answered}
use Rattle.saw_front.specs.declared.refused.RefusedUnit.TheVariants as why
use Rattle.saw_front.proofs.judge.Judge.assign.Goals as goal

pub returns-in_err-counted : goal.returns-in_err-counted
returns-in_err-counted c =
    let f = c.in_err-counted.field-0.0 in
    let s = at_of c.args.self.now in
    reads_err c.from_residual.result (why.Fault f) c.args.out.now c.args.out.now c.args.self.now c.counted.new.self
    (step_of (source.Assign c.args.name.now (expression c.args.value.now)) s) (search rules)
    (counted_fault (source.Assign c.args.name.now (expression c.args.value.now)) s f c.in_err-counted.ensures.judged)

pub returns-in_err-slot : goal.returns-in_err-slot
returns-in_err-slot c =
    let f = c.in_err-slot.field-0.0 in
    let s = at_of c.args.self.now in
    reads_err c.from_residual-in_err-slot.result (why.Fault f) c.args.out.now c.args.out.now c.args.self.now c.counted.new.self
    (step_of (source.Assign c.args.name.now (expression c.args.value.now)) s) (search rules)
    (assign_slot_fault c.args.name.now (expression c.args.value.now) s (at_of c.counted.new.self) c.in_ok-counted.ensures.judged f c.in_err-slot.ensures)

pub returns-in_err-value : goal.returns-in_err-value
returns-in_err-value c =
    let f = c.in_err-value.field-0.0 in
    let s = at_of c.args.self.now in
    reads_err c.from_residual-in_err-value.result f c.args.out.now c.args.out.now c.args.self.now c.counted.new.self
    (step_of (source.Assign c.args.name.now (expression c.args.value.now)) s) (search rules)
    (assign_value_fault c.args.name.now (expression c.args.value.now) s (at_of c.counted.new.self) c.in_ok-counted.ensures.judged c.in_ok-slot.slot
    c.in_ok-slot.ensures f c.in_err-value.ensures)

pub returns : goal.returns
returns c =
    let slot = c.in_ok-slot.slot in
    let value = c.in_ok-value.value in
    let read = assign_read c.args.name.now (expression c.args.value.now) (at_of c.args.self.now) (at_of c.counted.new.self)
    c.in_ok-counted.ensures.judged slot (term value) c.in_ok-slot.ensures c.in_ok-value.ensures in (
      built.Set slot value ∷ [],
      c.in_ok-push.ensures.ok,
      read ∙ ap (λ x. answered (tree.Then x tree.Done, at_of c.counted.new.self)) (sym (step-set slot value)),
      kept_by c.args.self.now.names.items.items c.counted.new.self.names.items.items (ap (λ n. n.items.items) c.in_ok-counted.ensures.names),
    )
