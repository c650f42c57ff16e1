use Rattle.river_plan.specs.Caps.{capacity, first_cap}
use Rattle.fire_run.proofs.RunLemmas.{has_closed, ran_first, ran_has, ran_less, ran_next}
use Rattle.fire_run.proofs.running.run_plan.Goals as goal

pub loop-net-init : goal.loop-net-init
loop-net-init g c =
    ran_first c.args.plan.now c.args.inputs
    (capacity c.args.cap (first_cap c.args.caps.now)) c.in_ok-net-2.rounds c.in_ok-net.net c.in_ok-net-2.net c.in_ok-net.ensures.valid c.in_ok-net.ensures.net
    c.in_ok-net-2.ensures.stays c.in_ok-net-2.ensures.rounds

pub close-requires-clause-net : goal.close-requires-clause-net
close-requires-clause-net g c =
    let caps = capacity c.args.cap (first_cap c.args.caps.now) in
    ran_has c.args.plan.now c.args.inputs caps c.in_ok-net-2.rounds c.one.new.self
    (ran_next c.args.plan.now c.args.inputs caps c.in_ok-net-2.rounds c.loop-net.net c.one.new.self c.in_ok-one.field-0 c.loop-net.invariant
    c.in_ok-one.ensures.stays c.in_ok-one.ensures.moved)

pub returns-then-not-branch-clause-ran : goal.returns-then-not-branch-clause-ran
returns-then-not-branch-clause-ran g c =
    let caps = capacity c.args.cap (first_cap c.args.caps.now) in
    let r = ran_next c.args.plan.now c.args.inputs caps c.in_ok-net-2.rounds c.loop-net.net c.one.new.self c.in_ok-one.field-0 c.loop-net.invariant
    c.in_ok-one.ensures.stays c.in_ok-one.ensures.moved in
    c.close.ensures.ran c.args.inputs caps r.has.is

pub returns-then-not-branch-clause-closed : goal.returns-then-not-branch-clause-closed
returns-then-not-branch-clause-closed g c =
    let caps = capacity c.args.cap (first_cap c.args.caps.now) in
    let r = ran_next c.args.plan.now c.args.inputs caps c.in_ok-net-2.rounds c.loop-net.net c.one.new.self c.in_ok-one.field-0 c.loop-net.invariant
    c.in_ok-one.ensures.stays c.in_ok-one.ensures.moved in
    has_closed c.args.plan.now c.args.inputs caps c.in_ok-net-2.rounds c.one.new.self c.close.result r (c.in_ok-one.ensures.idle c.if-not-branch.true)
    c.close.ensures.net c.close.ensures.logs

pub loop-net-smaller : goal.loop-net-smaller
loop-net-smaller g c =
    ran_less c.args.plan.now c.args.inputs (capacity c.args.cap (first_cap c.args.caps.now)) c.in_ok-net-2.rounds c.loop-net.net c.one.new.self
    c.in_ok-one.field-0 c.loop-net.invariant c.in_ok-one.ensures.stays c.in_ok-one.ensures.moved c.if-not-branch.false

pub loop-net-preserved : goal.loop-net-preserved
loop-net-preserved g c =
    ran_next c.args.plan.now c.args.inputs (capacity c.args.cap (first_cap c.args.caps.now)) c.in_ok-net-2.rounds c.loop-net.net c.one.new.self
    c.in_ok-one.field-0 c.loop-net.invariant c.in_ok-one.ensures.stays c.in_ok-one.ensures.moved
