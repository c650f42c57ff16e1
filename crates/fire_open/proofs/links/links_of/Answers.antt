use Rattle.std.proofs.Common.{◌≡◌, arith}
use Rattle.brooklet_step.proofs.ReadLemmas.{ops_many}
use Rattle.fire_open.proofs.SourceLemmas.{links_first, links_all}
use Rattle.fire_open.proofs.links.links_of.Goals as goal

pub loop-reader-init : goal.loop-reader-init
loop-reader-init c = links_first c.args.plan.now c.new-links.result c.new-links.ensures

pub returns-clause-links : goal.returns-clause-links
returns-clause-links c =
    let e : c.loop-reader.reader ≡ c.len-ops.result = omega arith in
    links_all c.args.plan.now c.loop-reader.reader c.loop-reader.links
    (let l = c.len-ops.ensures in let m = ops_many c.raw.result.now c.args.plan.now c.raw.ensures.raw in omega (arith, e, l, m))
    c.loop-reader.invariant
