use Rattle.std.proofs.Common.{◌≡◌, ◌∷◌, [], map, sym, ap, ◌∙◌, rules}
use Rattle.river_base.proofs.Lists.{kept_by}
use Rattle.work_code.specs.Steps as tree
use Rattle.work_code.specs.Term.{term, all_exprs}
use Rattle.work_code.specs.declared.code.Stmt as built
use Rattle.work_code.proofs.Running.{step-push}
use Rattle.streamit_model.specs.Elaborate.{step_of}
use Rattle.streamit_text.specs.Tree as source
use Rattle.streamit_text.specs.Tree.{expression}
use Rattle.streamit_unroll.specs.Unrolling.{at_of}
use Rattle.streamit_unroll.proofs.Statements.{push_count_fault, push_value_fault, push_read}
use Rattle.streamit_unroll.proofs.SoFar.{reads_err}
use Rattle.streamit_unroll.proofs.SoFar.{good as answered}
use Rattle.streamit_unroll.proofs.unroll.Unroller.push.Goals as goal

pub returns-in_err-counted : goal.returns-in_err-counted
returns-in_err-counted c =
    let f = c.in_err-counted.field-0.0 in
    let s = at_of c.args.self.now in
    let t = expression c.args.value.now in
    reads_err c.from_residual.result f c.args.out.now c.args.out.now c.args.self.now c.counted.new.self (step_of c.args.peek (source.Push t) s) (search rules)
    (push_count_fault c.args.peek t s f c.in_err-counted.ensures.judged)

pub returns-in_err-value : goal.returns-in_err-value
returns-in_err-value c =
    let f = c.in_err-value.field-0.0 in
    let s = at_of c.args.self.now in
    let t = expression c.args.value.now in
    reads_err c.from_residual-in_err-value.result f c.args.out.now c.args.out.now c.args.self.now
    (record c.counted.new.self { pushed = c.in_ok-self.field-0; popped = c.term.new.popped }) (step_of c.args.peek (source.Push t) s) (search rules)
    (push_value_fault c.args.peek t s (at_of c.counted.new.self) c.in_ok-counted.ensures.judged f c.in_err-value.ensures.judged)

pub returns : goal.returns
returns c =
    let value = c.in_ok-value.value in
    let values = c.push.new.self in
    let old = c.counted.new.self in
    let popped = c.term.new.popped in
    let pushed = c.in_ok-self.field-0 in
    let all : all_exprs values ≡ value ∷ [] = search rules in
    let read = push_read c.args.peek (expression c.args.value.now) (at_of c.args.self.now) (at_of old) c.in_ok-counted.ensures.judged
    (term value) popped pushed c.in_ok-value.ensures.judged c.in_ok-value.ensures.popped c.in_ok-self.ensures in
    let made = step-push 0 values ∙ ap (λ es. tree.Push 0 (map term es)) all in (
      built.Push 0 values ∷ [],
      c.in_ok-push-2.ensures.ok,
      read ∙ ap (λ x. answered (tree.Then x tree.Done, record (at_of old) { popped = popped; pushed = pushed })) (sym made),
      kept_by c.args.self.now.names.items.items old.names.items.items (ap (λ n. n.items.items) c.in_ok-counted.ensures.names),
    )
