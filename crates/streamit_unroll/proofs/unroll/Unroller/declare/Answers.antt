use Rattle.std.proofs.Common.{◌≡◌, ◌+◌, List, ◌∷◌, ◌++◌, [], sym, ap, ◌∙◌, rules}
use Rattle.river_base.proofs.Lists.{front_kept}
use Rattle.work_code.specs.Steps as tree
use Rattle.work_code.specs.Term.{term}
use Rattle.work_code.specs.declared.code.Stmt as built
use Rattle.work_code.proofs.Running.{step-set}
use Rattle.river_plan.specs.Forms.{Name}
use Rattle.streamit_model.specs.Elaborate.{Var, step_of}
use Rattle.streamit_text.specs.Tree as source
use Rattle.streamit_text.specs.Tree.{option_expression}
use Rattle.streamit_unroll.specs.Unrolling.{at_of}
use Rattle.streamit_unroll.specs.View.{scope_of}
use Rattle.streamit_unroll.specs.declared.names.Known.{Known}
use Rattle.streamit_unroll.specs.declared.names.Known.TheVariants as code
use Rattle.streamit_unroll.proofs.Scopes.{scope-push}
use Rattle.streamit_unroll.proofs.Statements.{declare_count_fault, declare_name_fault, declare_slot_fault, declare_value_fault, declare_read}
use Rattle.streamit_unroll.proofs.SoFar.{reads_err}
use Rattle.streamit_unroll.proofs.SoFar.{good as answered}
use Rattle.streamit_unroll.proofs.unroll.Unroller.declare.Goals as goal

pub returns-in_err-counted : goal.returns-in_err-counted
returns-in_err-counted c =
    let f = c.in_err-counted.field-0.0 in
    let s = at_of c.args.self.now in
    let t = option_expression c.args.value.now in
    reads_err c.from_residual.result f c.args.out.now c.args.out.now c.args.self.now c.counted.new.self (step_of c.args.peek (source.Declare c.args.name t) s)
    (search rules)
    (declare_count_fault c.args.peek c.args.name t s f c.in_err-counted.ensures.judged)

pub returns-in_err-new_name : goal.returns-in_err-new_name
returns-in_err-new_name c =
    let f = c.in_err-new_name.field-0.0 in
    let s = at_of c.args.self.now in
    let t = option_expression c.args.value.now in
    reads_err c.from_residual-in_err-new_name.result f c.args.out.now c.args.out.now c.args.self.now c.counted.new.self
    (step_of c.args.peek (source.Declare c.args.name t) s) (search rules)
    (declare_name_fault c.args.peek c.args.name t s (at_of c.counted.new.self) c.in_ok-counted.ensures.judged f c.in_err-new_name.ensures)

pub returns-then-slot-ge-MOST_SLOTS : goal.returns-then-slot-ge-MOST_SLOTS
returns-then-slot-ge-MOST_SLOTS c =
    declare_slot_fault c.args.peek c.args.name (option_expression c.args.value.now) (at_of c.args.self.now)
    (at_of c.counted.new.self) c.in_ok-counted.ensures.judged c.in_ok-new_name.ensures c.if-slot-ge-MOST_SLOTS.true

pub returns-in_err-value : goal.returns-in_err-value
returns-in_err-value c =
    let f = c.in_err-value.field-0.0 in
    let s = at_of c.args.self.now in
    let t = option_expression c.args.value.now in
    reads_err c.from_residual-in_err-value.result f c.args.out.now c.args.out.now c.args.self.now c.first_term.new.self
    (step_of c.args.peek (source.Declare c.args.name t) s) (search rules)
    (declare_value_fault c.args.peek c.args.name t s
    (at_of c.counted.new.self) c.in_ok-counted.ensures.judged c.in_ok-new_name.ensures c.if-slot-ge-MOST_SLOTS.false f c.in_err-value.ensures.judged)

pub returns : goal.returns
returns c =
    let value = c.in_ok-value.value in
    let old = c.counted.new.self in
    let behind = c.first_term.new.self in
    let read = declare_read c.args.peek c.args.name (option_expression c.args.value.now) (at_of c.args.self.now)
    (at_of old) c.in_ok-counted.ensures.judged c.in_ok-new_name.ensures c.if-slot-ge-MOST_SLOTS.false (term value) c.in_ok-value.ensures.judged in
    let names : behind.names.items.items ≡ old.names.items.items = ap (λ n. n.items.items) c.in_ok-value.ensures.names in
    let known : List (Name × Known) = behind.names.items.items in
    let one : Name × Known = (c.args.name, code.Var old.slots) in
    let more : c.push-2.new.self.items ≡ known ++ one ∷ [] = search rules in
    let scope : scope_of c.push-2.new.self.items ≡ (c.args.name, Var old.slots) ∷ scope_of old.names.items.items =
    ap scope_of more ∙ scope-push known one ∙ ap (λ l. (c.args.name, Var old.slots) ∷ scope_of l) names in
    let at = c.in_ok-value.ensures.popped in (
      built.Set old.slots value ∷ [],
      c.in_ok-push.ensures.ok,
      read
          ∙ (λ i. answered (
            tree.Then (sym (step-set old.slots value) i) tree.Done,
            record { scope = sym scope i; slots = old.slots + 1; popped = (sym at i).popped; pushed = (sym at i).pushed; size = (sym at i).size },
          )),
      front_kept c.args.self.now.names.items.items known c.push-2.new.self.items one more (names ∙ ap (λ n. n.items.items) c.in_ok-counted.ensures.names),
    )
