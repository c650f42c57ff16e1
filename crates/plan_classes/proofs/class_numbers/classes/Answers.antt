use Rattle.std.proofs.Common.{rules, ◌≡◌, ◌<◌, ◌∙◌, ◌+◌, ◌++◌, ◌∷◌, [], suc, ℤ, pos, List, length, take, take-suc, sym, ap, subst, arith}
use Rattle.std.specs.Int.{w64}
use Rattle.std.proofs.lemmas.Int.{to_z-of_z}
use Rattle.std.proofs.lemmas.List.{take_all}
use Rattle.plan_classes.specs.Sets.{place_in, with_list}
use Rattle.plan_classes.proofs.Numbering.{IsNumbered, one_more, are_classes}
use Rattle.plan_classes.proofs.class_numbers.classes.Goals as goal

pub loop-list-preserved : goal.loop-list-preserved
loop-list-preserved c =
    let i = c.loop-list.list-index in
    let xs = c.as_slice-list-items.result.now in
    let x = c.list-item.result in
    let lt : i < length xs = c.loop-list-test.true in
    let next : suc i ≡ i + 1 = omega arith in
    let taken : take (i + 1) xs ≡ take i xs ++ x ∷ [] = ap (λ k. take k xs) (sym next)
    ∙ (take-suc xs i x lt ∙ ap (λ (y : List ℤ). take i xs ++ y ∷ []) (sym c.list-item.is)) in
    let copy = c.in_ok-copy.ensures in
    let seen = c.in_ok-class.ensures.added ∙ ap (λ (y : List ℤ). with_list c.loop-list.seen y) copy in
    let place = c.in_ok-class.ensures.place ∙ ap (λ (y : List ℤ). place_in c.loop-list.seen y) copy in
    let classes = c.in_ok-push.ensures.ok
    ∙ ap (λ (n : ℤ). c.loop-list.classes ++ n ∷ []) (to_z-of_z w64 c.in_ok-number_of.field-0 (search rules) ∙ (c.in_ok-number_of.ensures ∙ ap pos place)) in
    let r = one_more (take i xs) c.loop-list.seen c.loop-list.classes x c.loop-list.invariant in
    subst (λ (l : List (List ℤ)). IsNumbered l c.class_of.new.self c.push.new.self) (sym taken)
    (subst (λ (l : List (List ℤ)). IsNumbered (take i xs ++ x ∷ []) l c.push.new.self) (sym seen)
    (subst (λ (l : List ℤ). IsNumbered (take i xs ++ x ∷ []) (with_list c.loop-list.seen x) l) (sym classes) r))

pub returns : goal.returns
returns c =
    let i = c.loop-list.list-index in
    let xs = c.as_slice-list-items.result.now in
    let whole : take i xs ≡ c.args.users.now = take_all i xs c.loop-list-test.false ∙ c.as_slice-list-items.ensures in
    are_classes c.args.users.now c.loop-list.seen c.loop-list.classes
    (subst (λ (l : List (List ℤ)). IsNumbered l c.loop-list.seen c.loop-list.classes) whole c.loop-list.invariant)
