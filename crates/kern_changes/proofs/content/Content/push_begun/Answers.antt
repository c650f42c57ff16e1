use Rattle.std.proofs.Common.{w64, to_z, of_z, sym, ◌∙◌}
use Rattle.std.specs.BTreeMap.Range.{entries_between}
use Rattle.std.specs.declared.ops.Bound.TheVariants.{Included}
use Rattle.river_base.specs.Row.{row_cmp}
use Rattle.kern_changes.proofs.Ranged.{begun_start, begun_more, begun_past}
use Rattle.kern_changes.proofs.content.Content.push_begun.Goals as goal

pub loop-row-init : goal.loop-row-init
loop-row-init c =
    let v = to_z w64 (of_z w64 c.args.value) in
    let es = c.self.inside.counts.entries in
    begun_start v c.args.all.now c.args.self.now es c.range-row-items.result c.into_iter-row-iterator.result
    (c.range-row-items.ensures.between tt ∙ (λ i. entries_between row_cmp (Included (c.one.ensures i)) (c.behind.ensures i) es))
    c.into_iter-row-iterator.ensures.into_iter_gives c.self.view_is

pub loop-row-preserved-in-Continue-1 : goal.loop-row-preserved-in-Continue-1
loop-row-preserved-in-Continue-1 c =
    begun_more _ c.in-Some.row.now c.in-Some.count.now c.loop-row.row-iterator c.next.new.self c.loop-row.all c.push_copies.new.all _
    c.in-Some.ensures.steps (sym c.begins.ensures ∙ c.if-begins.true) c.in_ok-push_copies.ensures c.loop-row.invariant

pub loop-row-preserved : goal.loop-row-preserved
loop-row-preserved c =
    begun_past _ c.in-Some.row.now c.in-Some.count.now c.loop-row.row-iterator c.next.new.self c.loop-row.all _
    c.in-Some.ensures.steps (sym c.begins.ensures ∙ c.if-begins.false) c.loop-row.invariant
