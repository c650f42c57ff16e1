use Rattle.std.proofs.Common.{◌≡◌, subst, sym, ap, ◌∙◌, arith, rules, ◌+◌, [], ◌∷◌, drop, map}
use Rattle.river_base.proofs.Lists.{map_next, map_none, kept_by}
use Rattle.work_code.specs.Steps.{step, steps, statements, in_turn}
use Rattle.work_code.specs.Steps as tree
use Rattle.work_code.specs.Term.{term}
use Rattle.work_code.specs.declared.code.Stmt as built
use Rattle.work_code.proofs.Running.{step-if}
use Rattle.work_code.proofs.Texts.{steps-is}
use Rattle.saw_model.specs.Elaborate.{step_of}
use Rattle.saw_text.specs.Tree as source
use Rattle.saw_text.specs.Tree.{expression, statement, block, or_unwritten}
use Rattle.saw_text.specs.View.{option_block}
use Rattle.saw_text.proofs.Trees.{block-is, statement-if}
use Rattle.saw_front.specs.Judging.{at_of}
use Rattle.saw_front.specs.Valued.{AreValuedOptional}
use Rattle.saw_front.specs.View.{IsWhyUnit}
use Rattle.saw_front.proofs.SoFar.{BlockSoFar, block_next, block_err, block_end, if_read, if_fault, reads_err, arm_none}
use Rattle.saw_front.proofs.SoFar.{good as answered}
use Rattle.saw_front.proofs.judge.Judge.+judge.Goals as goal

pub block-returns-in_err-statement : goal.block-returns-in_err-statement
block-returns-in_err-statement t c =
    let items = c.as_slice-s-items.result.now in
    let f = subst (λ l. BlockSoFar (map statement items) l c.args.self.now c.loop-s.self c.args.out.now c.loop-s.out)
    (map_next statement items c.loop-s.s-index c.s-item.result (omega arith) c.s-item.is) c.loop-s.invariant in
    let r = block_err (map statement items) (statement c.s-item.result)
    (map statement (drop
    (c.loop-s.s-index + 1) items)) c.args.self.now c.loop-s.self c.statement.new.self c.args.self.now c.statement.new.self c.args.out.now c.loop-s.out
    c.statement.new.out c.args.out.now c.statement.new.out c.from_residual.result c.in_err-statement.field-0.0 (search rules) f
    (c.in_err-statement.ensures {u = tt}) in
    rw (block-is c.args.b.now, ← c.as_slice-s-items.ensures.value) r

pub block-loop-s-preserved : goal.block-loop-s-preserved
block-loop-s-preserved t c =
    let items = c.as_slice-s-items.result.now in
    let f = subst (λ l. BlockSoFar (map statement items) l c.args.self.now c.loop-s.self c.args.out.now c.loop-s.out)
    (map_next statement items c.loop-s.s-index c.s-item.result (omega arith) c.s-item.is) c.loop-s.invariant in
    block_next (map statement items) (statement c.s-item.result)
    (map statement (drop (c.loop-s.s-index + 1) items)) c.args.self.now c.loop-s.self c.statement.new.self c.args.out.now c.loop-s.out c.statement.new.out f
    (c.in_ok-statement.ensures {u = tt})

pub block-returns : goal.block-returns
block-returns t c =
    let items = c.as_slice-s-items.result.now in
    let f = subst (λ l. BlockSoFar (map statement items) l c.args.self.now c.loop-s.self c.args.out.now c.loop-s.out)
    (map_none statement items c.loop-s.s-index (omega arith)) c.loop-s.invariant in
    rw (block-is c.args.b.now, ← c.as_slice-s-items.ensures.value) (block_end (map statement items) c.args.self.now c.loop-s.self c.args.out.now c.loop-s.out f)

pub statement-returns-in_err-second-in-If : goal.statement-returns-in_err-second-in-If
statement-returns-in_err-second-in-If t c =
    let one = c.in_ok-first-in-If.ensures {u = tt} in
    let cond = expression c.in-If.cond in
    let yes = block c.in-If.yes in
    let no = or_unwritten (option_block c.in-If.no) in
    let w : step_of (statement c.args.s.now) (at_of c.args.self.now) ≡ step_of (source.If cond yes no) (at_of c.args.self.now) =
    ap (λ x. step_of x (at_of c.args.self.now)) (ap statement c.in-If.is ∙ statement-if c.in-If.cond c.in-If.yes c.in-If.no) in
    reads_err c.from_residual-in_err-second-in-If.result c.in_err-second-in-If.field-0.0 c.args.out.now c.args.out.now c.args.self.now c.otherwise.new.self
    (step_of (statement c.args.s.now) (at_of c.args.self.now)) (search rules)
    (subst (IsWhyUnit c.in_err-second-in-If.field-0.0) (sym w)
    (if_fault cond yes no (at_of c.args.self.now) (at_of c.counted.new.self) (at_of c.arm.new.self) one.0 (term c.in_ok-cond-in-If.cond)
    (in_turn (map step (statements c.in_ok-first-in-If.first)))
    c.in_ok-counted-in-If.ensures.judged c.in_ok-cond-in-If.ensures one.1 one.2 c.in_err-second-in-If.field-0.0 (c.in_err-second-in-If.ensures {u = tt})))

pub statement-returns-in_ok-push-in-If : goal.statement-returns-in_ok-push-in-If
statement-returns-in_ok-push-in-If t c =
    let one = c.in_ok-first-in-If.ensures {u = tt} in
    let two = c.in_ok-second-in-If.ensures {u = tt} in
    let first = c.in_ok-first-in-If.first in
    let second = c.in_ok-second-in-If.second in
    let cond = c.in_ok-cond-in-If.cond in
    let r = if_read (expression c.in-If.cond) (block c.in-If.yes) (or_unwritten (option_block c.in-If.no)) (at_of c.args.self.now) (at_of c.counted.new.self)
    (at_of c.arm.new.self) one.0 (term cond) (in_turn (map step (statements first)))
    c.in_ok-counted-in-If.ensures.judged c.in_ok-cond-in-If.ensures one.1 one.2 (at_of c.otherwise.new.self) two.0
    (in_turn (map step (statements second))) two.1 two.2 in
    let made = step-if cond first second ∙ ap (λ a. tree.If (term cond) a (steps second)) (steps-is first)
    ∙ ap (λ b. tree.If (term cond) (in_turn (map step (statements first))) b) (steps-is second) in (
      built.If cond first second ∷ [],
      c.in_ok-push-in-If.ensures.ok,
      ap (λ x. step_of x (at_of c.args.self.now)) (ap statement c.in-If.is ∙ statement-if c.in-If.cond c.in-If.yes c.in-If.no) ∙ r
          ∙ ap (λ x. answered (tree.Then x tree.Done, at_of c.otherwise.new.self)) (sym made),
      kept_by c.args.self.now.names.items.items c.otherwise.new.self.names.items.items
          (two.3 ∙ one.3 ∙ ap (λ n. n.items.items) c.in_ok-counted-in-If.ensures.names),
    )

pub otherwise-arm-requires : goal.otherwise-arm-requires
otherwise-arm-requires t c = (search rules, subst (λ o. AreValuedOptional (or_unwritten (option_block o))) c.in-Some.is c.requires)

pub otherwise-returns-in-None : goal.otherwise-returns-in-None
otherwise-returns-in-None t c = arm_none (option_block c.args.no.now) c.new.result c.args.self.now (ap option_block c.in-None.is) c.new.ensures
