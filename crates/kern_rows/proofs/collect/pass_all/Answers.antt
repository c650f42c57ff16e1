use Rattle.std.proofs.Common.{◌<◌, ◌∙◌, ap, sym, subst}
use Rattle.std.specs.Prelude.{slice_index_or}
use Rattle.river_base.proofs.PlaceLemmas.{on_err}
use Rattle.kern_rows.specs.Turns.{shares, waiting}
use Rattle.kern_rows.proofs.JoinLaws.{took, fewer_wait, joined_start, given_step, given_part, joined_end, plain_end}
use Rattle.kern_rows.proofs.collect.pass_all.Goals as goal

pub loop-port-init : goal.loop-port-init
loop-port-init c = joined_start (shares c.args.weights.now) c.args.state.now c.args.out.now c.requires.shape

pub loop-port-smaller : goal.loop-port-smaller
loop-port-smaller c =
    let ws = shares c.args.weights.now in
    let t = took ws c.share.result c.in-Some.port c.in-Some.item c.loop-port.state c.take.new.self
    (c.share.ensures ∙ ap (λ q. slice_index_or ws q 0) c.turn.ensures) c.in-Some.ensures.turns c.take.ensures.owed in
    subst (λ u. waiting u.lists < waiting c.loop-port.state.turns.lists) (sym c.in_ok-give.ensures.turns)
    (fewer_wait ws c.loop-port.state c.take.new.self c.in-Some.port c.in-Some.item c.loop-port.invariant.keeps.shape.joined t)

pub loop-port-preserved : goal.loop-port-preserved
loop-port-preserved c =
    let ws = shares c.args.weights.now in
    let t = took ws c.share.result c.in-Some.port c.in-Some.item c.loop-port.state c.take.new.self
    (c.share.ensures ∙ ap (λ q. slice_index_or ws q 0) c.turn.ensures) c.in-Some.ensures.turns c.take.ensures.owed in
    given_step ws c.args.state.now c.loop-port.state c.take.new.self c.give.new.self c.in-Some.port c.in-Some.item c.args.out.now c.loop-port.out c.give.new.out
    c.requires.weights c.loop-port.invariant t c.in_ok-give.ensures.turns c.in_ok-give.ensures.ok

pub returns-in_err-give-clause-err : goal.returns-in_err-give-clause-err
returns-in_err-give-clause-err c =
    let ws = shares c.args.weights.now in
    let t = took ws c.share.result c.in-Some.port c.in-Some.item c.loop-port.state c.take.new.self
    (c.share.ensures ∙ ap (λ q. slice_index_or ws q 0) c.turn.ensures) c.in-Some.ensures.turns c.take.ensures.owed in
    on_err c.from_residual.result
    (given_part ws c.args.state.now c.loop-port.state c.take.new.self c.in-Some.port c.in-Some.item c.args.out.now c.loop-port.out c.give.new.out
    c.loop-port.invariant t
    c.in_err-give.ensures.err)

pub returns-clause-contents : goal.returns-clause-contents
returns-clause-contents c =
    joined_end (shares c.args.weights.now) c.args.state.now c.loop-port.state c.take.new.self c.args.out.now c.loop-port.out c.loop-port.invariant
    c.in_default.ensures.turns c.take.ensures.owed

pub returns-clause-plain : goal.returns-clause-plain
returns-clause-plain c =
    plain_end (shares c.args.weights.now) c.args.state.now c.loop-port.state c.take.new.self c.args.out.now c.loop-port.out c.loop-port.invariant
    c.in_default.ensures.turns c.take.ensures.owed
