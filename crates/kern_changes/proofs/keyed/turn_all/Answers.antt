use Rattle.std.proofs.Common.{ℤ, List, ◌<◌, ◌+◌, length, set, take, ap, ◌∙◌, arith}
use Rattle.std.proofs.lemmas.List.{length-set}
use Rattle.kern_changes.specs.Keyed.{turned}
use Rattle.kern_changes.proofs.InPlace.{as_it_was, rest_beside, changed_next}
use Rattle.kern_changes.proofs.keyed.turn_all.Goals as goal

pub loop-place-preserved : goal.loop-place-preserved
loop-place-preserved c =
    let n = c.loop-place.place in
    let x = c.at.result.now in
    let xs = c.loop-place.rows in
    let old = c.args.rows.now in
    let change : List ℤ → List ℤ = turned c.args.column in
    let back = c.loop-place.invariant.back in
    let lt : n < length xs = let e = c.len-place-end.ensures in let t = c.loop-place-test.true in let a = c.loop-place.invariant.all in
    omega (arith, e, t, a) in
    let done = ap (λ y. set xs n y) c.turned-row.ensures in
    record {
      all = length-set xs n c.turned-row.result ∙ c.loop-place.invariant.all;
      front =
          ap (take (n + 1)) done
          ∙ changed_next change xs old n x lt c.loop-place.invariant.all c.loop-place.invariant.front (c.at.ensures x ∙ as_it_was xs old n x back);
      back = rest_beside xs old n n c.turned-row.result (omega arith) back;
    }
