use Rattle.std.proofs.Common.{◌≡◌, ◌+◌, ap, sym, ◌∙◌, arith, rules}
use Rattle.streamit_text.specs.Tree as tree
use Rattle.streamit_unroll.specs.View.{scope_of}
use Rattle.streamit_text.specs.Tree.{expression}
use Rattle.streamit_unroll.proofs.Constants.{peek_pops}
use Rattle.streamit_text.proofs.Trees.{expression-peek}
use Rattle.work_code.specs.Term.{term}
use Rattle.work_code.specs.Term as built
use Rattle.streamit_model.specs.Meaning.{pops}
use Rattle.streamit_model.specs.Elaborate.{term_of}
use Rattle.streamit_unroll.proofs.SoFar.{good}
use Rattle.streamit_unroll.proofs.Expressions.{expression-neg, expression-not, expression-bin, term-bin, judged_err, judged_as, popped_as, peek_fault, neg_fault}
use Rattle.streamit_unroll.proofs.Expressions.{neg_read, not_fault, not_read, left_fault, right_fault, bin_read}
use Rattle.streamit_unroll.proofs.term.+term.Goals as goal

pub term-returns-in_ok-index-in-Peek-clause-popped : goal.term-returns-in_ok-index-in-Peek-clause-popped
term-returns-in_ok-index-in-Peek-clause-popped t c =
    peek_pops c.peeked.result c.args.popped.now (scope_of c.args.names.now.items.items) (expression c.args.e.now)
    (expression c.deref.result.now) c.in_ok-index-in-Peek.index
    (ap expression c.in-Peek.is ∙ expression-peek c.in-Peek.inner ∙ ap (λ v. tree.Peek (expression v)) (sym c.deref.ensures)) c.in_ok-index-in-Peek.ensures

pub term-returns-in_err-index-in-Peek-clause-judged : goal.term-returns-in_err-index-in-Peek-clause-judged
term-returns-in_err-index-in-Peek-clause-judged t c =
    let is = ap expression c.in-Peek.is ∙ expression-peek c.in-Peek.inner ∙ ap (λ v. tree.Peek (expression v)) (sym c.deref.ensures) in
    let f = c.in_err-index-in-Peek.field-0.0 in
    judged_err term c.from_residual.result f (term_of c.args.peek (scope_of c.args.names.now.items.items) (expression c.args.e.now) c.args.popped.now)
    (search rules)
    (peek_fault c.args.peek (scope_of c.args.names.now.items.items) c.args.popped.now (expression c.args.e.now)
    (expression c.deref.result.now) is f c.in_err-index-in-Peek.ensures)

pub term-returns-in_err-inner-in-Neg-clause-judged : goal.term-returns-in_err-inner-in-Neg-clause-judged
term-returns-in_err-inner-in-Neg-clause-judged t c =
    let is = ap expression c.in-Neg.is ∙ expression-neg c.in-Neg.inner ∙ ap (λ v. tree.Neg (expression v)) (sym c.deref-in-Neg.ensures) in
    let f = c.in_err-inner-in-Neg.field-0.0 in
    judged_err term c.from_residual-in_err-inner-in-Neg.result f
    (term_of c.args.peek (scope_of c.args.names.now.items.items) (expression c.args.e.now) c.args.popped.now) (search rules)
    (neg_fault c.args.peek (scope_of c.args.names.now.items.items) c.args.popped.now (expression c.args.e.now) (expression c.deref-in-Neg.result.now) is f
    (c.in_err-inner-in-Neg.ensures {u = tt}).judged)

pub term-returns-in_ok-new-in-Neg-clause-judged : goal.term-returns-in_ok-new-in-Neg-clause-judged
term-returns-in_ok-new-in-Neg-clause-judged t c =
    let is = ap expression c.in-Neg.is ∙ expression-neg c.in-Neg.inner ∙ ap (λ v. tree.Neg (expression v)) (sym c.deref-in-Neg.ensures) in
    neg_read c.args.peek (scope_of c.args.names.now.items.items) c.args.popped.now (expression c.args.e.now)
    (expression c.deref-in-Neg.result.now) is c.in_ok-inner-in-Neg.inner c.in_ok-new-in-Neg.field-0 (search rules)
    (c.in_ok-inner-in-Neg.ensures {u = tt}).judged

pub term-returns-in_ok-new-in-Neg-clause-popped : goal.term-returns-in_ok-new-in-Neg-clause-popped
term-returns-in_ok-new-in-Neg-clause-popped t c =
    let is = ap expression c.in-Neg.is ∙ expression-neg c.in-Neg.inner ∙ ap (λ v. tree.Neg (expression v)) (sym c.deref-in-Neg.ensures) in
    (c.in_ok-inner-in-Neg.ensures {u = tt}).popped ∙ ap (λ x. c.args.popped.now + pops x) (sym is)

pub term-returns-in_err-inner-in-Not-clause-judged : goal.term-returns-in_err-inner-in-Not-clause-judged
term-returns-in_err-inner-in-Not-clause-judged t c =
    let is = ap expression c.in-Not.is ∙ expression-not c.in-Not.inner ∙ ap (λ v. tree.Not (expression v)) (sym c.deref-in-Not.ensures) in
    let f = c.in_err-inner-in-Not.field-0.0 in
    judged_err term c.from_residual-in_err-inner-in-Not.result f
    (term_of c.args.peek (scope_of c.args.names.now.items.items) (expression c.args.e.now) c.args.popped.now) (search rules)
    (not_fault c.args.peek (scope_of c.args.names.now.items.items) c.args.popped.now (expression c.args.e.now) (expression c.deref-in-Not.result.now) is f
    (c.in_err-inner-in-Not.ensures {u = tt}).judged)

pub term-returns-in_ok-new-in-Not-clause-judged : goal.term-returns-in_ok-new-in-Not-clause-judged
term-returns-in_ok-new-in-Not-clause-judged t c =
    let is = ap expression c.in-Not.is ∙ expression-not c.in-Not.inner ∙ ap (λ v. tree.Not (expression v)) (sym c.deref-in-Not.ensures) in
    not_read c.args.peek (scope_of c.args.names.now.items.items) c.args.popped.now (expression c.args.e.now)
    (expression c.deref-in-Not.result.now) is c.in_ok-inner-in-Not.inner c.in_ok-new-in-Not.field-0 (search rules)
    (c.in_ok-inner-in-Not.ensures {u = tt}).judged

pub term-returns-in_ok-new-in-Not-clause-popped : goal.term-returns-in_ok-new-in-Not-clause-popped
term-returns-in_ok-new-in-Not-clause-popped t c =
    let is = ap expression c.in-Not.is ∙ expression-not c.in-Not.inner ∙ ap (λ v. tree.Not (expression v)) (sym c.deref-in-Not.ensures) in
    (c.in_ok-inner-in-Not.ensures {u = tt}).popped ∙ ap (λ x. c.args.popped.now + pops x) (sym is)

pub term-returns-in-Bin-clause-judged : goal.term-returns-in-Bin-clause-judged
term-returns-in-Bin-clause-judged t c =
    let is = ap expression c.in-Bin.is ∙ expression-bin c.in-Bin.op c.in-Bin.left c.in-Bin.right
    ∙ (λ i. tree.Bin c.in-Bin.op (expression (sym c.deref-in-Bin.ensures i)) (expression (sym c.deref-in-Bin-2.ensures i))) in
    judged_as c.args.peek (scope_of c.args.names.now.items.items) c.args.popped.now c.terms.result is c.terms.ensures.judged

pub term-returns-in-Bin-clause-popped : goal.term-returns-in-Bin-clause-popped
term-returns-in-Bin-clause-popped t c =
    let is = ap expression c.in-Bin.is ∙ expression-bin c.in-Bin.op c.in-Bin.left c.in-Bin.right
    ∙ (λ i. tree.Bin c.in-Bin.op (expression (sym c.deref-in-Bin.ensures i)) (expression (sym c.deref-in-Bin-2.ensures i))) in
    popped_as c.args.peek (scope_of c.args.names.now.items.items) c.args.popped.now c.terms.result c.terms.new.popped is c.terms.ensures.popped

pub terms-returns-in_err-term-clause-judged : goal.terms-returns-in_err-term-clause-judged
terms-returns-in_err-term-clause-judged t c =
    let f = c.in_err-term.field-0.0 in
    judged_err term c.from_residual.result f
    (term_of c.args.peek (scope_of c.args.names.now.items.items)
    (tree.Bin c.args.op (expression c.args.left.now) (expression c.args.right.now)) c.args.popped.now) (search rules)
    (left_fault c.args.peek (scope_of c.args.names.now.items.items) c.args.popped.now c.args.op (expression c.args.left.now) (expression c.args.right.now) f
    (c.in_err-term.ensures {u = tt}).judged)

pub terms-returns-in_err-term-2-clause-judged : goal.terms-returns-in_err-term-2-clause-judged
terms-returns-in_err-term-2-clause-judged t c =
    let f = c.in_err-term-2.field-0.0 in
    judged_err term c.from_residual-in_err-term-2.result f
    (term_of c.args.peek (scope_of c.args.names.now.items.items)
    (tree.Bin c.args.op (expression c.args.left.now) (expression c.args.right.now)) c.args.popped.now) (search rules)
    (right_fault c.args.peek (scope_of c.args.names.now.items.items) c.args.popped.now c.args.op (expression c.args.left.now) (expression c.args.right.now)
    (term c.in_ok-term.field-0) c.term.new.popped (c.in_ok-term.ensures {u = tt}).judged (c.in_ok-term.ensures {u = tt}).popped f
    (c.in_err-term-2.ensures {u = tt}).judged)

pub terms-returns-clause-judged : goal.terms-returns-clause-judged
terms-returns-clause-judged t c =
    let left = c.in_ok-left.left in
    let right = c.in_ok-right.right in
    let l : left.value ≡ c.in_ok-term.field-0 = search rules in
    let r : right.value ≡ c.in_ok-term-2.field-0 = search rules in
    bin_read c.args.peek (scope_of c.args.names.now.items.items) c.args.popped.now c.args.op (expression c.args.left.now) (expression c.args.right.now)
    (term c.in_ok-term.field-0) c.term.new.popped (c.in_ok-term.ensures {u = tt}).judged (c.in_ok-term.ensures {u = tt}).popped (term c.in_ok-term-2.field-0)
    (c.in_ok-term-2.ensures {u = tt}).judged
    ∙ ap good (sym (term-bin c.args.op left right ∙ (λ i. built.Bin c.args.op (term (l i)) (term (r i)))))

pub terms-returns-clause-popped : goal.terms-returns-clause-popped
terms-returns-clause-popped t c =
    let l = (c.in_ok-term.ensures {u = tt}).popped in
    let r = (c.in_ok-term-2.ensures {u = tt}).popped in
    omega (arith, l, r)
