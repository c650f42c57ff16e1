use Rattle.std.proofs.Common.{refl}
use Rattle.river_plan.specs.Caps.{first_cap}
use Rattle.fire_open.specs.Links.{room_of}
use Rattle.fire_open.proofs.OpenLemmas.{fresh_there, none_moved}
use Rattle.fire_run.proofs.OpenNet.{opened}
use Rattle.fire_run.proofs.net.Net.open.Goals as goal

pub returns-clause-net : goal.returns-clause-net
returns-clause-net c =
    let t = c.in_ok-tasks.ensures in
    record {
      fine = refl;
      is = opened c.args.plan.now c.args.inputs c.args.cap c.args.caps.now t.0 c.in_ok-tasks.tasks c.in_ok-links.links c.in_ok-cells.cells
          c.links_of.ensures.valid c.requires.fits.typed
          c.requires.cap c.requires.caps t.1 c.in_ok-links.ensures.links t.2 c.in_ok-cells.ensures.cells c.in_ok-cells.ensures.empty;
    }

pub returns-clause-none : goal.returns-clause-none
returns-clause-none c =
    let t = c.in_ok-tasks.ensures in
    none_moved (room_of c.args.plan.now c.args.cap (first_cap c.args.caps.now)) t.0 c.in_ok-tasks.tasks c.in_ok-links.links _
    (fresh_there c.args.plan.now c.args.inputs t.0 c.in_ok-links.links c.links_of.ensures.valid t.1 c.in_ok-links.ensures.links) t.2
