use Rattle.std.proofs.Common.{◌≡◌, ◌∙◌, sym, ap, take, length, arith, false}
use Rattle.std.specs.BinaryHeap.{heap_items, heap_len}
use Rattle.std.specs.Ordering.{is_lt}
use Rattle.std.proofs.lemmas.Bool.{not-true}
use Rattle.river_base.specs.Bags.{put_in_order}
use Rattle.kern_tables.specs.Tables.{ranks_before}
use Rattle.kern_tables.proofs.Ranking.{stays_out}
use Rattle.kern_tables.proofs.best.Best.keeps_out.Goals as goal

pub returns-in-Some : goal.returns-in-Some
returns-in-Some c = λ h.
    let many : length (heap_items c.self.inside.heap) ≡ heap_len c.self.inside.heap = sym (c.self.inside.heap.data.ok.0) in
    let low : ranks_before c.args.r.now c.in-Some.worst.now ≡ false = ap is_lt (sym c.compare_ranks.ensures) ∙ sym c.is_lt.ensures ∙ not-true c.is_lt.result h in
    ap (λ l. take c.args.best (put_in_order ranks_before c.args.r.now l)) (sym c.self.view_is)
    ∙ stays_out c.args.best c.args.r.now c.in-Some.worst.now (heap_items c.self.inside.heap) (omega (arith, many, c.if-len-best.false, c.len.ensures))
    (c.in-Some.ensures.greatest c.self.invariant) low
    ∙ c.self.view_is
