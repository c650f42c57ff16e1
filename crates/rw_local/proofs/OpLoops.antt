-- Loops over operators.
use Rattle.std.proofs.Common.{◌≡◌, ℕ, zero, suc, ◌+◌, ◌<◌, ◌≤◌, Some, None, List, [], ◌∷◌, ◌++◌, length, take, get_or, refl, sym, ap, ◌∙◌, arith}
use Rattle.std.proofs.lemmas.List.{map-append}
use Rattle.river_plan.proofs.ValidLaw.{total-append}
use Rattle.river_base.proofs.PlaceLemmas.{if_lt, if_ge}
use Rattle.river_base.proofs.Lists.{take_next}
use Rattle.river_plan.specs.declared.op.Op.{Op}
use Rattle.river_plan.specs.Forms.{OpForm, op_form, op_forms}
use Rattle.river_plan.specs.Uses.{total}
use Rattle.plan_edits.specs.Lists.{first_with}

-- one operator more
pub forms_next : (xs : List Op) (i : ℕ) (x : Op) → i < length xs → x ≡ get_or xs i x → op_forms (take (i + 1) xs) ≡ op_forms (take i xs) ++ op_form x ∷ []
forms_next xs i x lt e = ap op_forms (take_next xs i x lt e) ∙ map-append op_form (take i xs) (x ∷ [])

-- an operator at which the number is 0
pub total_next : (f : OpForm → ℕ) (xs : List Op) (i : ℕ) (x : Op) → i < length xs → x ≡ get_or xs i x → f (op_form x) ≡ 0 → total f (op_forms (take i xs)) ≡ 0
    → total f (op_forms (take (i + 1) xs)) ≡ 0
total_next f xs i x lt e z h =
    let a = ap (total f) (forms_next xs i x lt e) in
    let b = total-append f (op_forms (take i xs)) (op_form x ∷ []) in
    omega (arith, a, b, z, h)

-- the first operator at which the number is not 0
pub found_at : (f : OpForm → ℕ) (xs ys : List Op) (i : ℕ) (x : Op) → i < length xs → x ≡ get_or xs i x → xs ≡ ys → 0 < f (op_form x)
    → total f (op_forms (take i xs)) ≡ 0 → first_with f (op_forms ys) ≡ Some (op_form x)
found_at f xs ys i x lt e s p z = ap (λ l. first_with f (op_forms l)) (sym s) ∙ go xs i lt e z
  where
    go : (zs : List Op) (j : ℕ) → j < length zs → x ≡ get_or zs j x → total f (op_forms (take j zs)) ≡ 0 → first_with f (op_forms zs) ≡ Some (op_form x)
    go [] j l d h = absurd (omega (arith, l))
    go (y ∷ zs) zero l d h =
        ap (λ o. first_with f (op_form o ∷ op_forms zs)) (sym d) ∙ if_lt 0 (f (op_form x)) (Some (op_form x)) (first_with f (op_forms zs)) p
    go (y ∷ zs) (suc j) l d h =
        if_ge 0 (f (op_form y)) (Some (op_form y)) (first_with f (op_forms zs)) (omega (arith, h)) ∙ go zs j (omega (arith, l)) d (omega (arith, h))

-- no operator has a number above 0
pub found_none : (f : OpForm → ℕ) (xs ys : List Op) (i : ℕ) → length xs ≤ i → xs ≡ ys → total f (op_forms (take i xs)) ≡ 0 → first_with f (op_forms ys) ≡ None
found_none f xs ys i ge s z = ap (λ l. first_with f (op_forms l)) (sym s) ∙ go xs i ge z
  where
    go : (zs : List Op) (j : ℕ) → length zs ≤ j → total f (op_forms (take j zs)) ≡ 0 → first_with f (op_forms zs) ≡ None
    go [] j l h = refl
    go (y ∷ zs) zero l h = absurd (omega (arith, l))
    go (y ∷ zs) (suc j) l h =
        if_ge 0 (f (op_form y)) (Some (op_form y)) (first_with f (op_forms zs)) (omega (arith, h)) ∙ go zs j (omega (arith, l)) (omega (arith, h))
