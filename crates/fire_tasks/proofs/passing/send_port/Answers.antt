use Rattle.std.proofs.Common.{subst, ◌∙◌}
use Rattle.fire_tasks.specs.Ports.{SentAt}
use Rattle.fire_tasks.proofs.PassLemmas.{goes_first, goes_next, goes_after, may_still}
use Rattle.fire_tasks.proofs.passing.send_port.Goals as goal

pub returns-then-not-branch : goal.returns-then-not-branch
returns-then-not-branch c =
    subst (SentAt c.args.port c.args.outs.now c.args.pending.now c.send_at.new.outs c.send_at.new.pending) c.if-not-branch.true c.in_ok-send_at.ensures.sent

pub send_at-requires-in-loop-more-clause-may : goal.send_at-requires-in-loop-more-clause-may
send_at-requires-in-loop-more-clause-may c =
    let s = c.in_ok-send_at.ensures.sent.sent in
    let g = c.loop-more.invariant in
    may_still c.args.outs.now c.args.pending.now c.loop-more.outs c.loop-more.pending (g.ends ∙ s.ends) (λ j. g.given j ∙ s.given j) c.requires.may

pub loop-more-init : goal.loop-more-init
loop-more-init c = goes_first c.args.port c.send_at.new.outs c.send_at.new.pending

pub loop-more-preserved : goal.loop-more-preserved
loop-more-preserved c =
    goes_next c.args.port c.send_at.new.outs c.send_at.new.pending c.loop-more.outs c.loop-more.pending c.send_at-in-loop-more.new.outs
    c.send_at-in-loop-more.new.pending
    c.in_ok-send_at-2.field-0 c.loop-more.invariant c.in_ok-send_at-2.ensures.sent

pub returns-then-not-branch-2 : goal.returns-then-not-branch-2
returns-then-not-branch-2 c =
    goes_after c.args.port c.args.outs.now c.args.pending.now c.send_at.new.outs c.send_at.new.pending c.send_at-in-loop-more.new.outs
    c.send_at-in-loop-more.new.pending
    c.in_ok-send_at.field-0 c.in_ok-send_at.ensures.sent c.if-not-branch.false
    (goes_next c.args.port c.send_at.new.outs c.send_at.new.pending c.loop-more.outs c.loop-more.pending c.send_at-in-loop-more.new.outs
    c.send_at-in-loop-more.new.pending
    c.in_ok-send_at-2.field-0 c.loop-more.invariant c.in_ok-send_at-2.ensures.sent)

pub returns : goal.returns
returns c =
    goes_after c.args.port c.args.outs.now c.args.pending.now c.send_at.new.outs c.send_at.new.pending c.loop-more.outs c.loop-more.pending
    c.in_ok-send_at.field-0 c.in_ok-send_at.ensures.sent c.if-not-branch.false c.loop-more.invariant
