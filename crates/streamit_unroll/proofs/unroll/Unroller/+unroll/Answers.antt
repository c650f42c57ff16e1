use Rattle.streamit_text.specs.Tree.{expression, is_turn}
use Rattle.streamit_unroll.specs.Lean.{flat, lean, lean_block, lean_optional}
use Rattle.streamit_unroll.specs.View.{IsWhyUnit}
use Rattle.streamit_model.specs.Meaning.{numbers_from}
use Rattle.streamit_model.specs.Elaborate.{step_of, steps_of, unrolled}
use Rattle.streamit_unroll.specs.Unrolling.{at_of, Reads, AreWritten}
use Rattle.work_code.specs.Steps.{step, steps, statements, in_turn}
use Rattle.work_code.specs.Term.{term}
use Rattle.work_code.specs.Steps as tree
use Rattle.work_code.proofs.Running.{step-if}
use Rattle.work_code.proofs.Texts.{steps-is}
use Rattle.work_code.specs.declared.code.Stmt as built
use Rattle.streamit_text.specs.Tree as source
use Rattle.streamit_unroll.proofs.Leans.{lean_block-is, lean-pops, lean-declare, lean-assign, lean-push, lean-if, lean-for}
use Rattle.streamit_unroll.proofs.Items.{EachWritten, each_written}
use Rattle.streamit_unroll.proofs.SoFar.{BlockSoFar, block_start, block_more, block_fault, block_end, one_read, turns_start, turns_next}
use Rattle.streamit_unroll.proofs.SoFar.{turns_fault, turns_end, for_turns, for_fault}
use Rattle.streamit_unroll.proofs.SoFar.{good as answered, if_read, turn_is, reads_as, reads_err}
use Rattle.streamit_unroll.proofs.Branches.{if_count_fault, if_cond_fault, if_first_fault, if_second_fault}
use Rattle.std.proofs.Common.{subst, sym, ap, ◌∙◌, arith, refl, rules, ◌≡◌, ◌+◌, ◌-◌, Err, [], ◌∷◌, drop, map}
use Rattle.river_base.proofs.Lists.{map_next, map_none, kept_by}
use Rattle.streamit_unroll.proofs.unroll.Unroller.+unroll.Goals as goal

pub block-loop-s-init : goal.block-loop-s-init
block-loop-s-init t c =
    let b = c.args.b.now in
    let w = subst AreWritten (lean_block-is b) c.requires in
    record {
      so_far = subst (λ l. BlockSoFar c.args.peek (flat (map lean l)) (flat (map lean l)) c.args.self.now c.args.self.now c.args.out.now c.args.out.now)
          (sym c.as_slice-s-items.ensures.value) (block_start c.args.peek (flat (map lean b.items.items)) c.args.self.now c.args.out.now w);
      each = subst (λ l. EachWritten (map lean l)) (sym c.as_slice-s-items.ensures.value) (each_written (map lean b.items.items) w);
    }

pub block-loop-s-preserved : goal.block-loop-s-preserved
block-loop-s-preserved t c =
    let items = c.as_slice-s-items.result.now in
    let all = flat (map lean items) in
    let rest = flat (map lean (drop (c.loop-s.s-index + 1) items)) in
    let next = map_next lean items c.loop-s.s-index c.s-item.result (omega arith) c.s-item.is in
    let f = subst (λ l. BlockSoFar c.args.peek all (flat l) c.args.self.now c.loop-s.self c.args.out.now c.loop-s.out) next c.loop-s.invariant.so_far in
    record {
      so_far = block_more c.args.peek all (lean c.s-item.result) rest c.args.self.now c.loop-s.self c.statement.new.self c.args.out.now c.loop-s.out
          c.statement.new.out f (c.in_ok-statement.ensures {u = tt});
      each = (subst EachWritten next c.loop-s.invariant.each).1;
    }

pub block-returns-in_err-statement : goal.block-returns-in_err-statement
block-returns-in_err-statement t c =
    let items = c.as_slice-s-items.result.now in
    let all = flat (map lean items) in
    let rest = flat (map lean (drop (c.loop-s.s-index + 1) items)) in
    let f = subst (λ l. BlockSoFar c.args.peek all (flat l) c.args.self.now c.loop-s.self c.args.out.now c.loop-s.out)
    (map_next lean items c.loop-s.s-index c.s-item.result (omega arith) c.s-item.is) c.loop-s.invariant.so_far in
    let r = block_fault c.args.peek all (lean c.s-item.result) rest c.args.self.now c.loop-s.self c.args.self.now c.statement.new.self c.args.out.now c.loop-s.out
    c.args.out.now c.statement.new.out c.from_residual.result c.in_err-statement.field-0.0 (search rules) f (c.in_err-statement.ensures {u = tt}) in
    rw (lean_block-is c.args.b.now, ← c.as_slice-s-items.ensures.value) r

pub block-returns : goal.block-returns
block-returns t c =
    let items = c.as_slice-s-items.result.now in
    let all = flat (map lean items) in
    let f = subst (λ l. BlockSoFar c.args.peek all (flat l) c.args.self.now c.loop-s.self c.args.out.now c.loop-s.out)
    (map_none lean items c.loop-s.s-index (omega arith)) c.loop-s.invariant.so_far in
    rw (lean_block-is c.args.b.now, ← c.as_slice-s-items.ensures.value)
    (block_end c.args.peek all c.args.self.now c.loop-s.self c.args.out.now c.loop-s.out f)

pub statement-returns-in-Pops : goal.statement-returns-in-Pops
statement-returns-in-Pops t c =
    subst (λ l. Reads c.pops.result c.args.out.now c.pops.new.out c.args.self.now c.pops.new.self (steps_of c.args.peek (source.in_turn l) (at_of c.args.self.now)))
    (sym (ap lean c.in-Pops.is ∙ lean-pops c.in-Pops.count)) c.pops.ensures

pub branch-returns-in_ok-push : goal.branch-returns-in_ok-push
branch-returns-in_ok-push t c =
    let one = c.in_ok-first.ensures {u = tt} in
    let two = c.in_ok-second.ensures {u = tt} in
    let first = c.in_ok-first.first in
    let second = c.in_ok-second.second in
    let cond = c.in_ok-cond.cond in
    let r = if_read c.args.peek (expression c.args.cond.now) (lean_block c.args.yes.now) (lean_optional c.args.no.now) (at_of c.args.self.now)
    (at_of c.counted.new.self) (at_of c.arm.new.self) (at_of c.otherwise.new.self) one.0 two.0 (term cond) c.term.new.popped
    (in_turn (map step (statements first))) (in_turn (map step (statements second)))
    c.in_ok-counted.ensures.judged c.in_ok-cond.ensures.judged c.in_ok-cond.ensures.popped one.1 one.2 two.1 two.2 c.if-popped_first-self.true
    c.if-pushed_first-self.true in
    let made = step-if cond first second ∙ ap (λ a. tree.If (term cond) a (steps second)) (steps-is first)
    ∙ ap (λ b. tree.If (term cond) (in_turn (map step (statements first))) b) (steps-is second) in (
      built.If cond first second ∷ [],
      c.in_ok-push.ensures.ok,
      r ∙ ap (λ x. answered (tree.Then x tree.Done, at_of c.otherwise.new.self)) (sym made),
      kept_by c.args.self.now.names.items.items c.otherwise.new.self.names.items.items (two.3 ∙ one.3 ∙ ap (λ n. n.items.items) c.in_ok-counted.ensures.names),
    )

pub turn-returns : goal.turn-returns
turn-returns t c =
    let r = c.in_ok-block.ensures {u = tt} in
    let d = turn_is c.args.peek (lean_block c.args.b.now) c.args.name c.args.v (at_of c.args.self.now) (at_of c.counted.new.self) (at_of c.block.new.self)
    c.args.self.now.names.items.items c.counted.new.self.names.items.items c.push.new.self.items c.block.new.self.names.items.items c.truncate.new.self.items
    (in_turn (map step r.0))
    refl (c.in_ok-counted.ensures.judged) (search rules) (search rules) r.2 r.3 (search rules) in
    (r.0, r.1, d.0, d.1)

-- an arm that is not written has no statements
pub otherwise-returns-in-None : goal.otherwise-returns-in-None
otherwise-returns-in-None t c = (at_of c.args.self.now, search rules, refl, refl)

pub turns-loop-v-init : goal.turns-loop-v-init
turns-loop-v-init t c = turns_start c.args.peek (lean_block c.args.b.now) c.args.name c.args.span.low c.args.span.end c.args.self.now c.args.out.now

pub turns-loop-v-preserved : goal.turns-loop-v-preserved
turns-loop-v-preserved t c =
    turns_next c.args.peek
    (lean_block c.args.b.now) c.args.name c.args.span.low c.loop-v.v c.args.span.end c.args.self.now c.loop-v.self c.turn.new.self c.args.out.now c.loop-v.out
    c.turn.new.out
    (search rules) c.loop-v.invariant (c.in_ok-turn.ensures {u = tt})

pub turns-returns-in_err-turn : goal.turns-returns-in_err-turn
turns-returns-in_err-turn t c =
    let low = c.args.span.low in
    let end = c.args.span.end in
    let body = lean_block c.args.b.now in
    turns_fault c.args.peek body c.args.name low c.loop-v.v end c.args.self.now c.loop-v.self c.turn.new.self c.args.self.now c.turn.new.self c.args.out.now
    c.loop-v.out c.turn.new.out c.args.out.now c.turn.new.out
    (unrolled (steps_of c.args.peek body) c.args.name (numbers_from low (end - low)) (at_of c.args.self.now)) c.from_residual.result c.in_err-turn.field-0.0
    (search rules) (search rules) refl c.loop-v.invariant (c.in_err-turn.ensures {u = tt})

pub turns-returns : goal.turns-returns
turns-returns t c =
    let low = c.args.span.low in
    let end = c.args.span.end in
    let body = lean_block c.args.b.now in
    turns_end c.args.peek body c.args.name low c.loop-v.v end c.args.self.now c.loop-v.self c.args.out.now c.loop-v.out
    (unrolled (steps_of c.args.peek body) c.args.name (numbers_from low (end - low)) (at_of c.args.self.now)) (search rules) refl c.loop-v.invariant

pub statement-returns-in_ok-span-in-For : goal.statement-returns-in_ok-span-in-For
statement-returns-in_ok-span-in-For t c =
    let s = c.in_ok-span-in-For.span in
    let at = at_of c.args.self.now in
    let w =
    ap (λ x. steps_of c.args.peek (source.in_turn x) at) (ap lean c.in-For.is ∙ lean-for c.in-For.name c.in-For.low c.in-For.until c.in-For.high c.in-For.body)
    ∙ one_read c.args.peek
    (source.For c.in-For.name (expression c.in-For.low.now) (is_turn c.in-For.until) (expression c.in-For.high.now) (lean_block c.in-For.body)) at
    ∙ for_turns c.args.peek c.in-For.name (expression c.in-For.low.now) (expression c.in-For.high.now) (is_turn c.in-For.until) (lean_block c.in-For.body) at s.low s.end
    (c.in_ok-span-in-For.ensures {u = tt}) in
    subst (Reads c.turns.result c.args.out.now c.turns.new.out c.args.self.now c.turns.new.self) (sym w) c.turns.ensures

pub statement-returns-in_err-span-in-For : goal.statement-returns-in_err-span-in-For
statement-returns-in_err-span-in-For t c =
    let at = at_of c.args.self.now in
    let f = c.in_err-span-in-For.field-0.0 in
    let is : c.from_residual.result ≡ Err f = search rules in
    let w = ap (λ x. steps_of c.args.peek (source.in_turn x) at)
    (ap lean c.in-For.is ∙ lean-for c.in-For.name c.in-For.low c.in-For.until c.in-For.high c.in-For.body)
    ∙ one_read c.args.peek
    (source.For c.in-For.name (expression c.in-For.low.now) (is_turn c.in-For.until) (expression c.in-For.high.now) (lean_block c.in-For.body)) at in
    subst (λ r. Reads r c.args.out.now c.args.out.now c.args.self.now c.args.self.now (steps_of c.args.peek (source.in_turn (lean c.args.s.now)) at)) (sym is)
    (subst (IsWhyUnit f) (sym w)
    (for_fault c.args.peek c.in-For.name (expression c.in-For.low.now) (expression c.in-For.high.now) (is_turn c.in-For.until) (lean_block c.in-For.body) at f
    (c.in_err-span-in-For.ensures {u = tt})))

pub statement-returns-in-Push : goal.statement-returns-in-Push
statement-returns-in-Push t c =
    reads_as c.push.result c.args.out.now c.push.new.out c.args.self.now c.push.new.self c.args.peek (at_of c.args.self.now)
    (ap lean c.in-Push.is ∙ lean-push c.in-Push.value) c.push.ensures

pub statement-returns-in-Declare : goal.statement-returns-in-Declare
statement-returns-in-Declare t c =
    reads_as c.declare.result c.args.out.now c.declare.new.out c.args.self.now c.declare.new.self c.args.peek (at_of c.args.self.now)
    (ap lean c.in-Declare.is ∙ lean-declare c.in-Declare.name c.in-Declare.value) c.declare.ensures

pub statement-returns-in-Assign : goal.statement-returns-in-Assign
statement-returns-in-Assign t c =
    reads_as c.assign.result c.args.out.now c.assign.new.out c.args.self.now c.assign.new.self c.args.peek (at_of c.args.self.now)
    (ap lean c.in-Assign.is ∙ lean-assign c.in-Assign.name c.in-Assign.value) c.assign.ensures

pub statement-returns-in-If : goal.statement-returns-in-If
statement-returns-in-If t c =
    reads_as c.branch-self.result c.args.out.now c.branch-self.new.out c.args.self.now c.branch-self.new.self c.args.peek (at_of c.args.self.now)
    (ap lean c.in-If.is ∙ lean-if c.in-If.cond c.in-If.yes c.in-If.no) c.branch-self.ensures

pub branch-returns-in_err-counted : goal.branch-returns-in_err-counted
branch-returns-in_err-counted t c =
    let f = c.in_err-counted.field-0.0 in
    let s = at_of c.args.self.now in
    let cond = expression c.args.cond.now in
    let yes = lean_block c.args.yes.now in
    let no = lean_optional c.args.no.now in
    reads_err c.from_residual.result f c.args.out.now c.args.out.now c.args.self.now c.counted.new.self (step_of c.args.peek (source.If cond yes no) s)
    (search rules)
    (if_count_fault c.args.peek cond yes no s f c.in_err-counted.ensures.judged)

pub branch-returns-in_err-cond : goal.branch-returns-in_err-cond
branch-returns-in_err-cond t c =
    let f = c.in_err-cond.field-0.0 in
    let s = at_of c.args.self.now in
    let cond = expression c.args.cond.now in
    let yes = lean_block c.args.yes.now in
    let no = lean_optional c.args.no.now in
    reads_err c.from_residual-in_err-cond.result f c.args.out.now c.args.out.now c.args.self.now (record c.counted.new.self { popped = c.term.new.popped })
    (step_of c.args.peek (source.If cond yes no) s) (search rules)
    (if_cond_fault c.args.peek cond yes no s (at_of c.counted.new.self) c.in_ok-counted.ensures.judged f c.in_err-cond.ensures.judged)

pub branch-returns-in_err-first : goal.branch-returns-in_err-first
branch-returns-in_err-first t c =
    let f = c.in_err-first.field-0.0 in
    let s = at_of c.args.self.now in
    let cond = expression c.args.cond.now in
    let yes = lean_block c.args.yes.now in
    let no = lean_optional c.args.no.now in
    reads_err c.from_residual-in_err-first.result f c.args.out.now c.args.out.now c.args.self.now c.arm.new.self
    (step_of c.args.peek (source.If cond yes no) s) (search rules)
    (if_first_fault c.args.peek cond yes no s (at_of c.counted.new.self) c.in_ok-counted.ensures.judged
    (term c.in_ok-cond.cond) c.term.new.popped c.in_ok-cond.ensures.judged c.in_ok-cond.ensures.popped f
    (c.in_err-first.ensures {u = tt}))

pub branch-returns-in_err-second : goal.branch-returns-in_err-second
branch-returns-in_err-second t c =
    let f = c.in_err-second.field-0.0 in
    let s = at_of c.args.self.now in
    let cond = expression c.args.cond.now in
    let yes = lean_block c.args.yes.now in
    let no = lean_optional c.args.no.now in
    let one = c.in_ok-first.ensures {u = tt} in
    reads_err c.from_residual-in_err-second.result f c.args.out.now c.args.out.now c.args.self.now c.otherwise.new.self
    (step_of c.args.peek (source.If cond yes no) s) (search rules)
    (if_second_fault c.args.peek cond yes no s (at_of c.counted.new.self) c.in_ok-counted.ensures.judged
    (term c.in_ok-cond.cond) c.term.new.popped c.in_ok-cond.ensures.judged c.in_ok-cond.ensures.popped
    (in_turn (map step (statements c.in_ok-first.first))) one.0 (at_of c.arm.new.self) one.1 one.2 f (c.in_err-second.ensures {u = tt}))
