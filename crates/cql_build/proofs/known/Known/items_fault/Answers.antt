use Rattle.std.proofs.Common.{arith}
use Rattle.cql_build.proofs.Judging.{items_start, item_next, item_refused}
use Rattle.cql_build.proofs.known.Known.items_fault.Goals as goal

pub loop-i-init : goal.loop-i-init
loop-i-init c = record { low = omega arith; so_far = λ ks k. items_start ks c.args.sources.now }

pub returns-in-Err : goal.returns-in-Err
returns-in-Err c = λ ks k.
    item_refused ks c.args.sources.now c.loop-i.i c.loop-i.width c.index-sources-i.result c.in-Err.fault (c.loop-i.invariant.so_far ks k)
    c.loop-i-test.true c.index-sources-i.is
    (c.in-Err.ensures.bad ks k (c.loop-i.invariant.so_far ks k).width)

pub loop-i-preserved : goal.loop-i-preserved
loop-i-preserved c = record {
  low = c.in-Ok.ensures.within;
  so_far = λ ks k.
      item_next ks c.args.sources.now c.loop-i.i c.loop-i.width c.in-Ok.wider c.index-sources-i.result (c.loop-i.invariant.so_far ks k)
      c.loop-i-test.true c.index-sources-i.is
      (c.in-Ok.ensures.good ks k (c.loop-i.invariant.so_far ks k).width);
}
