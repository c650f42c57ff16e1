use Rattle.std.proofs.Common.{subst, sym, ap, length}
use Rattle.std.specs.Prelude.{OnOk}
use Rattle.river_plan.specs.Caps.{IsOwnCap, OwnCaps}
use Rattle.river_plan.proofs.CapLemmas.{first_fits}
use Rattle.fire_open.specs.Links.{room_of}
use Rattle.fire_open.specs.Rings.{AreRung}
use Rattle.fire_open.proofs.rings.put_rings.Goals as goal

pub put_each-requires-clause-own : goal.put_each-requires-clause-own
put_each-requires-clause-own c = λ q.
    subst IsOwnCap (sym (ap (λ (o : OwnCaps). o q) c.in_ok-own.ensures)) (first_fits c.args.caps.now q c.requires.caps)

pub returns : goal.returns
returns c =
    subst (λ (o : OwnCaps). OnOk c.put_each.result
    (AreRung (room_of c.args.plan.now c.args.cap o) c.args.tasks.now c.put_each.new.tasks c.args.links.now (length c.args.links.now)))
    c.in_ok-own.ensures c.put_each.ensures
