use Rattle.std.proofs.Common.{ℤ, List, [], ◌<◌, ◌+◌, length, set, take, map, sym, ap, ◌∙◌, subst, arith}
use Rattle.std.specs.List.{AllByRecursion}
use Rattle.std.proofs.lemmas.List.{length-set}
use Rattle.work_code.specs.Term.{terms}
use Rattle.work_code.specs.Value.{val, IsWithin}
use Rattle.kern_changes.proofs.InPlace.{as_it_was, rest_beside, changed_next}
use Rattle.kern_bags.proofs.rowwise.project_rows.Goals as goal

pub project_row-row-requires-clause-within : goal.project_row-row-requires-clause-within
project_row-row-requires-clause-within c =
    let n = c.loop-place.place in
    let row = c.at.result.now in
    let is = c.at.ensures row ∙ as_it_was c.loop-place.rows c.args.rows.now n row c.loop-place.invariant.back in
    let lt : n < length c.args.rows.now = let e = c.len-place-end.ensures in let t = c.loop-place-test.true in omega (arith, e, t) in
    subst (λ (r : List ℤ). AllByRecursion (IsWithin (length r) 0) (terms c.args.list.now)) (sym is) (c.requires.within n row lt)

pub loop-place-preserved : goal.loop-place-preserved
loop-place-preserved c =
    let n = c.loop-place.place in
    let x = c.at.result.now in
    let xs = c.loop-place.rows in
    let old = c.args.rows.now in
    let change : List ℤ → List ℤ = λ row. map (λ t. val t row []) (terms c.args.list.now) in
    let back = c.loop-place.invariant.back in
    let lt : n < length xs = let e = c.len-place-end.ensures in let t = c.loop-place-test.true in let a = c.loop-place.invariant.all in
    omega (arith, e, t, a) in
    let done = ap (λ y. set xs n y) c.project_row-row.ensures in
    record {
      all = length-set xs n c.project_row-row.result ∙ c.loop-place.invariant.all;
      front =
          ap (take (n + 1)) done
          ∙ changed_next change xs old n x lt c.loop-place.invariant.all c.loop-place.invariant.front (c.at.ensures x ∙ as_it_was xs old n x back);
      back = rest_beside xs old n n c.project_row-row.result (omega arith) back;
    }
