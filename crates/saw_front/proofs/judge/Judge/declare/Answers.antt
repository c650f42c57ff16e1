use Rattle.std.proofs.Common.{◌≡◌, ◌+◌, List, ◌∷◌, ◌++◌, [], sym, ap, ◌∙◌, rules}
use Rattle.river_base.proofs.Lists.{front_kept}
use Rattle.work_code.specs.Steps as tree
use Rattle.work_code.specs.Term.{term}
use Rattle.work_code.specs.declared.code.Stmt as built
use Rattle.work_code.proofs.Running.{step-set}
use Rattle.river_plan.specs.Forms.{Name}
use Rattle.saw_model.specs.Elaborate.{Var, step_of}
use Rattle.saw_text.specs.Tree as source
use Rattle.saw_text.specs.Tree.{option_expression}
use Rattle.saw_front.specs.Judging.{at_of}
use Rattle.saw_front.specs.View.{scope_of}
use Rattle.saw_front.specs.declared.names.Known.{Known}
use Rattle.saw_front.specs.declared.names.Known.TheVariants as code
use Rattle.saw_front.proofs.Scopes.{scope-push}
use Rattle.saw_front.proofs.Statements.{counted_fault, declare_name_fault, declare_slot_fault, declare_value_fault, declare_read}
use Rattle.saw_front.proofs.SoFar.{reads_err}
use Rattle.saw_front.proofs.SoFar.{good as answered}
use Rattle.saw_front.specs.declared.refused.RefusedUnit.TheVariants as why
use Rattle.saw_front.proofs.judge.Judge.declare.Goals as goal

pub returns-in_err-counted : goal.returns-in_err-counted
returns-in_err-counted c =
    let f = c.in_err-counted.field-0.0 in
    let s = at_of c.args.self.now in
    reads_err c.from_residual.result (why.Fault f) c.args.out.now c.args.out.now c.args.self.now c.counted.new.self
    (step_of (source.Declare c.args.name (option_expression c.args.value.now)) s) (search rules)
    (counted_fault (source.Declare c.args.name (option_expression c.args.value.now)) s f c.in_err-counted.ensures.judged)

pub returns-in_err-new_name : goal.returns-in_err-new_name
returns-in_err-new_name c =
    let f = c.in_err-new_name.field-0.0 in
    let s = at_of c.args.self.now in
    reads_err c.from_residual-in_err-new_name.result (why.Fault f) c.args.out.now c.args.out.now c.args.self.now c.counted.new.self
    (step_of (source.Declare c.args.name (option_expression c.args.value.now)) s) (search rules)
    (declare_name_fault c.args.name (option_expression c.args.value.now) s (at_of c.counted.new.self) c.in_ok-counted.ensures.judged f
    c.in_err-new_name.ensures)

pub returns-then-slot-ge-MOST_SLOTS : goal.returns-then-slot-ge-MOST_SLOTS
returns-then-slot-ge-MOST_SLOTS c = declare_slot_fault c.args.name (option_expression c.args.value.now) (at_of c.args.self.now) (at_of c.counted.new.self)
    c.in_ok-counted.ensures.judged c.in_ok-new_name.ensures c.if-slot-ge-MOST_SLOTS.true

pub returns-in_err-value : goal.returns-in_err-value
returns-in_err-value c =
    let f = c.in_err-value.field-0.0 in
    let s = at_of c.args.self.now in
    reads_err c.from_residual-in_err-value.result f c.args.out.now c.args.out.now c.args.self.now c.counted.new.self
    (step_of (source.Declare c.args.name (option_expression c.args.value.now)) s) (search rules)
    (declare_value_fault c.args.name (option_expression c.args.value.now) s (at_of c.counted.new.self) c.in_ok-counted.ensures.judged
    c.in_ok-new_name.ensures c.if-slot-ge-MOST_SLOTS.false f c.in_err-value.ensures)

pub returns : goal.returns
returns c =
    let value = c.in_ok-value.value in
    let read = declare_read c.args.name (option_expression c.args.value.now) (at_of c.args.self.now) (at_of c.counted.new.self)
    c.in_ok-counted.ensures.judged c.in_ok-new_name.ensures c.if-slot-ge-MOST_SLOTS.false (term value) c.in_ok-value.ensures in
    let old = c.counted.new.self in
    let known : List (Name × Known) = old.names.items.items in
    let one : Name × Known = (c.args.name, code.Slot old.slots) in
    let more : c.push.new.self.items ≡ known ++ one ∷ [] = search rules in
    let scope : scope_of c.push.new.self.items ≡ (c.args.name, Var old.slots) ∷ scope_of known = ap scope_of more ∙ scope-push known one in (
      built.Set old.slots value ∷ [],
      c.in_ok-push-2.ensures.ok,
      read ∙ (λ i. answered (
        tree.Then (sym (step-set old.slots value) i) tree.Done,
        record { scope = sym scope i; slots = old.slots + 1; size = old.size; tables = old.tables },
      )),
      front_kept c.args.self.now.names.items.items known c.push.new.self.items one more (ap (λ n. n.items.items) c.in_ok-counted.ensures.names),
    )
