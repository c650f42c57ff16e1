use Rattle.std.proofs.Common.{rules, ◌≡◌, ◌+◌, ◌-◌, List, [], ◌∷◌, ◌++◌, length, take, ap, sym, ◌∙◌, arith, append_assoc}
use Rattle.std.proofs.lemmas.Slice.{take-put_mid}
use borrow.Rule.Slice.PartMut.{put_mid}
use Rattle.river_base.specs.declared.item.Item as item
use Rattle.river_rings.specs.Rows.{row_item, rows_in}
use Rattle.river_rings.proofs.RowLemmas.{row-more, whole_more}
use Rattle.fire_tasks.proofs.ports.kept_rows.Goals as goal

pub loop-row-preserved : goal.loop-row-preserved
loop-row-preserved c =
    let n = c.loop-row.count in
    let w = c.args.width in
    let old = c.loop-row.rows in
    let row = c.kept_row.new.row in
    let i = c.loop-row.invariant in
    let room = c.if-rows-count.false in
    let same : length old ≡ length c.args.rows.now = search rules in
    let l : length row ≡ w = search rules in
    let within = i.within in
    let now = put_mid n (n + w - n) old row in
    let front : take (n + w) now ≡ take n old ++ row = take-put_mid n (n + w - n) old row (n + w) (omega (arith, l)) (omega (arith, same, within)) in
    record {
      line = c.kept_row.ensures.same ∙ i.line;
      within = omega (arith, room, same, within);
      whole = whole_more w (take n old) row (take (n + w) now) i.whole l front;
      taken = c.kept_row.ensures.taken c.if-not-kept_row.false
          ∙ ap (λ (t : List item.Item). t ++ row_item row ∷ []) i.taken
          ∙ append_assoc (take c.args.kept.now.taken c.args.kept.now.line) (rows_in w (take n old)) (row_item row ∷ [])
          ∙ ap (λ t. take c.args.kept.now.taken c.args.kept.now.line ++ t) (sym (row-more w (take n old) row (take (n + w) now) i.whole l front));
      none = λ z. absurd (let some = c.requires.some in omega (arith, z, some));
    }
