use Rattle.std.proofs.Common.{◌≡◌, ◌<◌, ◌∙◌, sym, ap, take, arith, length}
use Rattle.std.specs.BinaryHeap.{heap_items, heap_len}
use Rattle.river_base.specs.Bags.{put_in_order}
use Rattle.kern_tables.specs.Tables.{ranks_before}
use Rattle.kern_tables.proofs.Ranking.{pushed, pop_step, all_best}
use Rattle.kern_tables.proofs.best.Best.add.Goals as goal

pub loop-self-init : goal.loop-self-init
loop-self-init c = (
  c.in_ok-push.ensures.heap_order c.self.invariant,
  ap (take c.args.best) (pushed c.args.r _ _ c.in_ok-push.ensures.permutation ∙ ap (put_in_order ranks_before c.args.r) c.self.view_is),
)

pub loop-self-preserved : goal.loop-self-preserved
loop-self-preserved c =
    let many : length (heap_items c.loop-self.self-inside.heap) ≡ heap_len c.loop-self.self-inside.heap = sym (c.loop-self.self-inside.heap.data.ok.0) in
    let some : 0 < heap_len c.loop-self.self-inside.heap = omega (arith, c.loop-self-test.true, c.len.ensures) in
    pop_step c.args.best c.pop.result _ _ _ (c.pop.ensures.variant.1 some) c.pop.ensures.permutation c.pop.ensures.heap_order c.pop.ensures.below_top
    (omega (arith, many, c.loop-self-test.true, c.len.ensures)) c.loop-self.invariant.0 c.loop-self.invariant.1

pub returns-clause-ok : goal.returns-clause-ok
returns-clause-ok c =
    let many : length (heap_items c.loop-self.self-inside.heap) ≡ heap_len c.loop-self.self-inside.heap = sym (c.loop-self.self-inside.heap.data.ok.0) in
    all_best c.args.best (heap_items c.loop-self.self-inside.heap) _ (omega (arith, many, c.loop-self-test.false, c.len.ensures)) c.loop-self.invariant.1
