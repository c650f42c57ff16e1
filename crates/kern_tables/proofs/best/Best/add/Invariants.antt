use Rattle.std.proofs.Common.{◌≡◌, take}
use Rattle.std.specs.BinaryHeap.{heap_items, heap_len, IsHeap}
use Rattle.river_base.specs.Bags.{put_in_order, ascending}
use Rattle.kern_tables.specs.Tables.{rank_cmp, ranks_before}
use Rattle.kern_tables.proofs.best.Best.add.Given as goal

abbrev pub invariant-loop-self : goal.invariant-loop-self
invariant-loop-self l =
    IsHeap rank_cmp (heap_items l.self-inside.heap)
    × (take l.best (ascending ranks_before (heap_items l.self-inside.heap)) ≡ take l.best (put_in_order ranks_before l.fn.r l.fn.self))

abbrev pub decreases-loop-self : goal.decreases-loop-self
decreases-loop-self l = heap_len l.self-inside.heap
