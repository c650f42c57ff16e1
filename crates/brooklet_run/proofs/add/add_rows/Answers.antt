use Rattle.std.proofs.Common.{◌∙◌, sym, ap, length, take, get_or, arith}
use Rattle.kern_tables.specs.Kept.{width_of_table}
use Rattle.brooklet_run.proofs.Adding.{all_width}
use Rattle.brooklet_run.proofs.add.add_rows.Goals as goal

pub add-requires : goal.add-requires
add-requires c =
    let rows = c.as_slice-row-items.result.now in
    let row = c.row-item.result in
    let same = c.as_slice-row-items.ensures in
    ap length (c.row-item.is ∙ (λ i. get_or (same i) c.loop-row.row-index row))
    ∙ c.requires c.loop-row.row-index row (let l = ap length same in omega (arith, l, c.loop-row-test.true))
    ∙ sym (ap width_of_table c.loop-row.invariant ∙ all_width c.args.table.now (take c.loop-row.row-index rows))
