use Rattle.std.proofs.Common.{◌≡◌, true, false, sym, ap, ◌∙◌, subst, arith}
use Rattle.river_base.specs.Row.{row_eq}
use Rattle.river_base.specs.Changes.{without}
use Rattle.kern_changes.proofs.Merged.{Up, up_of, row_taken, row_left, row_last, merged_all, left_in_order}
use Rattle.kern_changes.proofs.difference.without.Goals.{then-place-len+then-eq, else-place-len+in_ok-push, else-place-len-via-then-place-len+else-eq}
use Rattle.kern_changes.proofs.difference.without.Goals.{else-place-len-via-else-place-len}
use Rattle.kern_changes.proofs.difference.without.Goals as goal

pub loop-row-preserved : goal.loop-row-preserved
loop-row-preserved c =
    let rows = c.as_slice-row-items.result.now in
    let others = c.args.others.now in
    let n = c.loop-row.row-index in
    let p = c.loop-row.place in
    let q = c.place_from-place.result in
    let x = c.row-item.result in
    let left = c.loop-row.left in
    let u : Up rows = subst Up (sym c.as_slice-row-items.ensures) (up_of c.args.rows.now c.requires.rows) in
    let v : Up others = up_of others c.requires.others in
    let at = c.row-item.is in
    let from = c.place_from-place.ensures.rest in
    let m = c.loop-row.invariant.merged in
    elim c.if-place-len.branch [
      | then-place-len+then-eq w ↦
          let y = w.at.result.now in
          let e : row_eq y x ≡ true = sym w.eq.ensures ∙ w.if-eq.true in
          record {
            within = omega arith;
            merged = rw (w.place-is, w.left-is) (row_taken rows others u v n p q x left (omega arith) at from m y (omega arith) (w.at.ensures y) e);
          }
      | else-place-len+in_ok-push w ↦
          elim w.else-place-len.branch [
            | else-place-len-via-then-place-len+else-eq w' ↦
                let y = w'.at.result.now in
                let e : row_eq y x ≡ false = sym w'.eq.ensures ∙ w'.if-eq.false in
                record {
                  within = omega arith;
                  merged =
                      rw (w.place-is, w.left-is)
                      (row_left rows others u v n p q x left (omega arith) at from m y w.push.new.self (omega arith)
                      (w'.at.ensures y) e w.in_ok-push.ensures.ok);
                }
            | else-place-len-via-else-place-len w' ↦
                record {
                  within = omega arith;
                  merged =
                      rw (w.place-is, w.left-is)
                      (row_last rows others u v n p q x left (omega arith) at from m w.push.new.self (omega arith) w.in_ok-push.ensures.ok);
                }
          ]
    ]

pub returns : goal.returns
returns c =
    merged_all c.as_slice-row-items.result.now c.args.others.now c.loop-row.row-index c.loop-row.place c.loop-row.left (omega arith) c.loop-row.invariant.merged
    ∙ ap (λ xs. without xs c.args.others.now) c.as_slice-row-items.ensures
    ∙ left_in_order c.args.rows.now c.args.others.now c.requires.rows
