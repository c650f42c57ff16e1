use Rattle.std.proofs.Common.{ap, ◌∙◌, arith, take, length}
use Rattle.std.proofs.lemmas.List.{take_all}
use Rattle.river_base.specs.Places.{each_grew, list_at}
use Rattle.river_base.proofs.PlaceLemmas.{length-each_grew}
use Rattle.brooklet_step.specs.ByPlace.{joined_at}
use Rattle.brooklet_step.proofs.Moving.{emptied, emptied_next, emptied_all}
use Rattle.brooklet_step.proofs.QueuePlaces.{send_start, send_step}
use Rattle.brooklet_run.proofs.turn.send.Goals as goal

pub loop-port-init : goal.loop-port-init
loop-port-init c = record { queues = send_start (list_at c.args.outs.now) c.args.queues.now; left = emptied c.args.outs.now }

pub send_port-requires-clause-queue : goal.send_port-requires-clause-queue
send_port-requires-clause-queue c =
    let e = ap length c.loop-port.invariant.queues
    ∙ length-each_grew c.args.queues.now (joined_at (take c.loop-port.port c.args.to.now) (list_at c.args.outs.now)) in
    let q = c.requires.places c.loop-port.port (omega arith) in
    omega (arith, e, q)

pub send_port-requires-clause-port : goal.send_port-requires-clause-port
send_port-requires-clause-port c = let m = c.loop-port.invariant.left.left.many in let r = c.requires.ports in omega (arith, m, r)

pub loop-port-preserved : goal.loop-port-preserved
loop-port-preserved c = record {
  queues =
      send_step c.args.to.now (list_at c.args.outs.now) c.loop-port.port c.args.queues.now c.loop-port.queues c.send_port.new.queues
      (list_at c.loop-port.outs c.loop-port.port) (omega arith) c.loop-port.invariant.queues
      (c.loop-port.invariant.left.left.rest c.loop-port.port (omega arith)) c.in_ok-send_port.ensures.queues;
  left =
      emptied_next c.loop-port.port c.args.outs.now c.loop-port.outs c.send_port.new.outs c.loop-port.invariant.left
      (let r = c.requires.ports in omega (arith, r)) c.in_ok-send_port.ensures.outs;
}

pub returns-clause-queues : goal.returns-clause-queues
returns-clause-queues c =
    c.loop-port.invariant.queues
    ∙ ap (λ ws. each_grew c.args.queues.now (joined_at ws (list_at c.args.outs.now))) (take_all c.loop-port.port c.args.to.now (omega arith))

pub returns-clause-blank : goal.returns-clause-blank
returns-clause-blank c = emptied_all c.loop-port.port c.args.outs.now c.loop-port.outs c.loop-port.invariant.left (let r = c.requires.ports in omega (arith, r))
