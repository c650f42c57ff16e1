use Rattle.std.proofs.Common.{subst, sym}
use Rattle.fire_tasks.specs.Outlet.{SendsTo}
use Rattle.fire_open.specs.Links.{IsBlankRing}
use Rattle.fire_open.proofs.RingLemmas.{blank_ring}
use Rattle.fire_open.proofs.rings.item_ring.Goals as goal

pub returns-clause-ring : goal.returns-clause-ring
returns-clause-ring c =
    let feed = c.in_ok-feed.feed in
    subst (λ o. IsBlankRing c.args.cap o c.of_items-2.result) (sym c.of_items.ensures.is)
    (subst (λ i. IsBlankRing c.args.cap (SendsTo feed) i) (sym c.of_items-2.ensures)
    (blank_ring c.args.cap feed c.in_ok-feed.take c.in_ok-feed.ensures.ends c.in_ok-feed.ensures.feed c.in_ok-feed.ensures.take))
