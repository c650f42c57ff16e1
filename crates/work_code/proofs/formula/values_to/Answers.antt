use Rattle.std.proofs.Common.{rules, w64, ◌≡◌, ℕ, ℤ, suc, List, [], ◌∷◌, ◌++◌, ◌+◌, ◌<◌, ◌≤◌, length, map, take, drop, get_or, slice_set, to_z, of_z, sym, ap}
use Rattle.std.proofs.Common.{◌∙◌, arith, append_assoc, add-one}
use Rattle.std.proofs.lemmas.Int.{to_z-of_z}
use Rattle.std.proofs.lemmas.List.{map-append, take_all, length-map, set-append_right, drop-set-add, drop-set}
use Rattle.std.proofs.lemmas.Slice.{drop-append-drop}
use Rattle.river_base.proofs.Lists.{map_more, take_length}
use Rattle.work_code.specs.declared.calc.Calc.{Calc}
use Rattle.work_code.specs.Calcs.{calc_term}
use Rattle.work_code.specs.Term.{Term}
use Rattle.work_code.specs.Value.{val, IsWithin}
use Rattle.work_code.proofs.Running.{within_each}
use Rattle.work_code.proofs.formula.values_to.Goals as goal

-- a value behind those that were put
put_next : (xs old : List ℤ) (i : ℕ) (y : ℤ) → length xs ≡ i → i < length old → slice_set (xs ++ drop i old) i y ≡ (xs ++ y ∷ []) ++ drop (i + 1) old
put_next xs old i y n lt =
    set-append_right xs (drop i old) i i y n (omega arith) ∙ ap (λ ys. xs ++ ys) (ap (λ k. slice_set (drop i old) k y) (omega arith) ∙ sym (drop-set-add i old 0 y)
    ∙ ap (λ k. drop i (slice_set old k y)) (omega arith) ∙ drop-set old i y lt) ∙ sym (append_assoc xs (y ∷ []) (drop (i + 1) old))

-- one more value in the place of one that stood there
values-next : (f : Term → ℤ) (old now : List ℤ) (cs : List Calc) (i : ℕ) (x : Calc) (y : ℤ) → i < length cs → x ≡ get_or cs i x → length cs ≤ length old
    → now ≡ map f (map calc_term (take i cs)) ++ drop i old → y ≡ f (calc_term x)
    → slice_set now i y ≡ map f (map calc_term (take (i + 1) cs)) ++ drop (i + 1) old
values-next f old now cs i x y lt is fits n v =
    ap (λ now. slice_set now i y) n ∙ put_next (map f (map calc_term (take i cs))) old i y
    (length-map (map calc_term (take i cs)) f ∙ length-map (take i cs) calc_term ∙ take_length cs i lt) (omega (arith, lt, fits))
    ∙ ap (λ ys. ys ++ drop (i + 1) old) (ap (λ z. map f (map calc_term (take i cs)) ++ z ∷ []) v
    ∙ sym (ap (map f) (map_more calc_term cs i x lt is) ∙ map-append f (map calc_term (take i cs)) (calc_term x ∷ [])))

pub value_of-requires : goal.value_of-requires
value_of-requires c =
    within_each calc_term (IsWithin (length c.args.row.now) 0) c.args.calcs.now c.loop-i.i c.index-calcs-i.result c.requires.within (omega arith) c.index-calcs-i.is

pub loop-i-preserved : goal.loop-i-preserved
loop-i-preserved c =
    values-next (λ t. val t c.args.row.now []) c.args.to.now c.loop-i.to c.args.calcs.now c.loop-i.i c.index-calcs-i.result (to_z w64 (of_z w64 c.value_of.result))
    (omega arith) c.index-calcs-i.is c.requires.room c.loop-i.invariant (to_z-of_z w64 c.value_of.result (search rules) ∙ c.value_of.ensures)
