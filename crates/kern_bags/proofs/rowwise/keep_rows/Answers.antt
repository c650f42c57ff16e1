use Rattle.std.proofs.Common.{ℤ, List, [], ◌<◌, ◌+◌, take, drop, Bool, length, sym, ap, ◌∙◌, subst, arith}
use Rattle.std.proofs.lemmas.List.{length-set}
use Rattle.std.proofs.lemmas.Grind.{drop_more_same}
use Rattle.work_code.specs.Term.{term}
use Rattle.work_code.specs.Value.{val, is_true, IsWithin}
use Rattle.kern_changes.proofs.InPlace.{as_it_was, rest_beside, kept_next, left_next}
use Rattle.kern_bags.proofs.rowwise.keep_rows.Goals.{then-passes, else-passes}
use Rattle.kern_bags.proofs.rowwise.keep_rows.Goals as goal

pub passes-requires : goal.passes-requires
passes-requires c =
    let n = c.loop-place.place in
    let row = c.at.result.now in
    let is = c.at.ensures row ∙ as_it_was c.loop-place.rows c.args.rows.now n row c.loop-place.invariant.back in
    let lt : n < length c.args.rows.now = let e = c.len-place-end.ensures in let t = c.loop-place-test.true in omega (arith, e, t) in
    subst (λ (r : List ℤ). IsWithin (length r) 0 (term c.args.cond.now)) (sym is) (c.requires n row lt)

pub loop-place-preserved : goal.loop-place-preserved
loop-place-preserved c =
    let n = c.loop-place.place in
    let k = c.loop-place.kept in
    let x = c.at.result.now in
    let xs = c.loop-place.rows in
    let old = c.args.rows.now in
    let test : List ℤ → Bool = λ row. is_true (val (term c.args.cond.now) row []) in
    let fewer = c.loop-place.invariant.fewer in
    let back = c.loop-place.invariant.back in
    let in_old : n < length old = let e = c.len-place-end.ensures in let t = c.loop-place-test.true in omega (arith, e, t) in
    let in_rows : n < length xs = let a = c.loop-place.invariant.all in omega (arith, in_old, a) in
    let is = c.at.ensures x ∙ as_it_was xs old n x back in
    elim c.if-passes.branch [
      | then-passes w ↦ record {
        fewer = let e = w.kept-is in omega (arith, e, fewer);
        all = ap length w.rows-is ∙ length-set xs k x ∙ c.loop-place.invariant.all;
        front = ap (λ m. take m c.if-passes.rows) w.kept-is ∙ ap (take (k + 1)) w.rows-is
            ∙ kept_next test xs old k n x fewer in_rows c.loop-place.invariant.all c.loop-place.invariant.front is (sym c.passes.ensures ∙ w.if-passes.true);
        back = ap (drop (n + 1)) w.rows-is ∙ rest_beside xs old k n x fewer back;
      }
      | else-passes w ↦ record {
        fewer = let e = w.kept-is in omega (arith, e, fewer);
        all = ap length w.rows-is ∙ c.loop-place.invariant.all;
        front = ap (λ m. take m c.if-passes.rows) w.kept-is ∙ ap (take k) w.rows-is
            ∙ left_next test old (take k xs) n x in_old c.loop-place.invariant.front is (sym c.passes.ensures ∙ w.if-passes.false);
        back = ap (drop (n + 1)) w.rows-is ∙ drop_more_same xs old n back;
      }
    ]
