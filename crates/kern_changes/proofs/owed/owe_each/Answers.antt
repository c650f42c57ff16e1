use Rattle.std.proofs.Common.{◌≡◌, ◌<◌, ◌+◌, ℕ, List, length, get_or, set, map, take, drop, ap, ◌∙◌, arith}
use Rattle.std.proofs.lemmas.List.{length-set, get_or_default}
use Rattle.kern_changes.proofs.InPlace.{as_it_was, rest_beside, changed_next}
use Rattle.kern_changes.specs.declared.owed.Debt.{Debt}
use Rattle.kern_changes.specs.Owed.{debt_at, owing, no_debt}
use Rattle.kern_changes.proofs.owed.owe_each.Goals as goal

-- the debt at the next place, changed
changed_by : (f : Debt → Debt) (xs old : List Debt) (n : ℕ) → n < length xs → length xs ≡ length old → take n xs ≡ map f (take n old) → drop n xs ≡ drop n old
    → take (n + 1) (set xs n (f (debt_at xs n))) ≡ map f (take (n + 1) old)
changed_by f xs old n lt same front back =
    let x = debt_at xs n in
    let e : get_or xs n no_debt ≡ get_or old n no_debt = as_it_was xs old n no_debt back in
    changed_next f xs old n x lt same front (e ∙ get_or_default old n no_debt x (omega (arith, lt, same)))

pub owe_at-requires : goal.owe_at-requires
owe_at-requires c = let e = c.len-place-end.ensures in let t = c.loop-place-test.true in let a = c.loop-place.invariant.all in omega (arith, e, t, a)

pub loop-place-preserved : goal.loop-place-preserved
loop-place-preserved c =
    let n = c.loop-place.place in
    let xs = c.loop-place.debts in
    let old = c.args.debts.now in
    let x = debt_at xs n in
    let f = owing c.args.plus.now c.args.minus.now in
    let back = c.loop-place.invariant.back in
    let lt : n < length xs = let e = c.len-place-end.ensures in let t = c.loop-place-test.true in let a =
    c.loop-place.invariant.all in omega (arith, e, t, a) in
    let done = c.in_ok-owe_at.ensures in
    record {
      all = ap length done ∙ length-set xs n (f x) ∙ c.loop-place.invariant.all;
      front = ap (take (n + 1)) done ∙ changed_by f xs old n lt c.loop-place.invariant.all c.loop-place.invariant.front back;
      back = ap (drop (n + 1)) done ∙ rest_beside xs old n n (f x) (omega arith) back;
    }
