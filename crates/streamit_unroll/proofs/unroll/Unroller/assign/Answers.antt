use Rattle.std.proofs.Common.{◌∷◌, [], sym, ap, ◌∙◌, rules}
use Rattle.river_base.proofs.Lists.{kept_by}
use Rattle.work_code.specs.Steps as tree
use Rattle.work_code.specs.Term.{term}
use Rattle.work_code.specs.declared.code.Stmt as built
use Rattle.work_code.proofs.Running.{step-set}
use Rattle.streamit_model.specs.Elaborate.{step_of}
use Rattle.streamit_text.specs.Tree as source
use Rattle.streamit_text.specs.Tree.{expression}
use Rattle.streamit_unroll.specs.Unrolling.{at_of}
use Rattle.streamit_unroll.proofs.Statements.{assign_count_fault, assign_slot_fault, assign_value_fault, assign_read}
use Rattle.streamit_unroll.proofs.SoFar.{reads_err}
use Rattle.streamit_unroll.proofs.SoFar.{good as answered}
use Rattle.streamit_unroll.proofs.unroll.Unroller.assign.Goals as goal

pub returns-in_err-counted : goal.returns-in_err-counted
returns-in_err-counted c =
    let f = c.in_err-counted.field-0.0 in
    let s = at_of c.args.self.now in
    let t = expression c.args.value.now in
    reads_err c.from_residual.result f c.args.out.now c.args.out.now c.args.self.now c.counted.new.self (step_of c.args.peek (source.Assign c.args.name t) s)
    (search rules)
    (assign_count_fault c.args.peek c.args.name t s f c.in_err-counted.ensures.judged)

pub returns-in_err-slot : goal.returns-in_err-slot
returns-in_err-slot c =
    let f = c.in_err-slot.field-0.0 in
    let s = at_of c.args.self.now in
    let t = expression c.args.value.now in
    reads_err c.from_residual-in_err-slot.result f c.args.out.now c.args.out.now c.args.self.now c.counted.new.self
    (step_of c.args.peek (source.Assign c.args.name t) s) (search rules)
    (assign_slot_fault c.args.peek c.args.name t s (at_of c.counted.new.self) c.in_ok-counted.ensures.judged f c.in_err-slot.ensures)

pub returns-in_err-value : goal.returns-in_err-value
returns-in_err-value c =
    let f = c.in_err-value.field-0.0 in
    let s = at_of c.args.self.now in
    let t = expression c.args.value.now in
    reads_err c.from_residual-in_err-value.result f c.args.out.now c.args.out.now c.args.self.now (record c.counted.new.self { popped = c.term.new.popped })
    (step_of c.args.peek (source.Assign c.args.name t) s) (search rules)
    (assign_value_fault c.args.peek c.args.name t s
    (at_of c.counted.new.self) c.in_ok-counted.ensures.judged c.in_ok-slot.slot c.in_ok-slot.ensures f c.in_err-value.ensures.judged)

pub returns : goal.returns
returns c =
    let slot = c.in_ok-slot.slot in
    let value = c.in_ok-value.value in
    let old = c.counted.new.self in
    let popped = c.term.new.popped in
    let read = assign_read c.args.peek c.args.name (expression c.args.value.now) (at_of c.args.self.now)
    (at_of old) c.in_ok-counted.ensures.judged slot c.in_ok-slot.ensures (term value) popped c.in_ok-value.ensures.judged c.in_ok-value.ensures.popped in (
      built.Set slot value ∷ [],
      c.in_ok-push.ensures.ok,
      read ∙ ap (λ x. answered (tree.Then x tree.Done, record (at_of old) { popped = popped })) (sym (step-set slot value)),
      kept_by c.args.self.now.names.items.items old.names.items.items (ap (λ n. n.items.items) c.in_ok-counted.ensures.names),
    )
