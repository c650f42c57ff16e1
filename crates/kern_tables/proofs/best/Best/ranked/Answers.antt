use Rattle.std.proofs.Common.{◌∙◌, subst}
use Rattle.std.specs.List.Sorted.{IsPermutation}
use Rattle.std.specs.BinaryHeap.{heap_items}
use Rattle.std.proofs.lemmas.List.{take_all}
use Rattle.kern_tables.proofs.Ranking.{ranked_from_sort}
use Rattle.kern_tables.proofs.best.Best.ranked.Goals as goal

pub returns : goal.returns
returns c =
    let perm : IsPermutation (heap_items c.self.inside.heap) c.sort.new.self.items =
    subst (λ l. IsPermutation l c.sort.new.self.items) (c.in_ok-items.ensures.items ∙ c.as_slice.ensures.value) c.in_ok-sort.ensures.permutation in
    c.loop-r.invariant ∙ take_all c.loop-r.r-index _ c.loop-r-test.false ∙ c.as_slice-r-items.ensures.value
    ∙ ranked_from_sort (heap_items c.self.inside.heap) c.sort.new.self.items perm c.in_ok-sort.ensures.sorted ∙ c.self.view_is
