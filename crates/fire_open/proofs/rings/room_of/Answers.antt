use Rattle.std.proofs.Common.{subst, sym, ap, ◌∙◌}
use Rattle.river_plan.specs.Caps.{IsCap, capacity, own_of}
use Rattle.river_plan.proofs.CapLemmas.{capacity_fits}
use Rattle.brooklet_step.proofs.NextLemmas.{op_there}
use Rattle.fire_open.proofs.RoomLemmas.{port_there, queue_found}
use Rattle.fire_open.proofs.rings.room_of.Goals as goal

pub at-requires : goal.at-requires
at-requires c =
    let k = c.requires.link in
    op_there c.raw.result.now c.args.plan.now c.args.link.writer k.write c.raw.ensures.raw k.write_is

pub at-queue-requires : goal.at-queue-requires
at-queue-requires c =
    let d = c.at.result.now in
    port_there c.raw.result.now c.args.plan.now c.args.link d c.raw.ensures.raw c.requires.link (c.at.ensures d)

pub returns-clause-fits : goal.returns-clause-fits
returns-clause-fits c =
    subst IsCap (sym c.capacity.ensures) (capacity_fits (own_of c.args.own.now) c.args.cap _ c.requires.cap (c.requires.own _))

pub returns-clause-room : goal.returns-clause-room
returns-clause-room c =
    let d = c.at.result.now in
    let q = c.at-queue.result.now in
    c.capacity.ensures
    ∙ ap (λ n. capacity c.args.cap (own_of c.args.own.now) n)
    (queue_found c.raw.result.now c.args.plan.now c.args.link d q c.raw.ensures.raw c.requires.link (c.at.ensures d) (c.at-queue.ensures q))
