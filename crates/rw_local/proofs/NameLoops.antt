-- Loops over names.
use Rattle.std.proofs.Common.{◌≡◌, ℕ, zero, suc, ◌+◌, ◌<◌, ◌≤◌, true, false, List, [], ◌∷◌, length, take, get_or, sym, ap, ◌∙◌, arith, ⊎_elim}
use Rattle.std.proofs.lemmas.Bool.{cases_Bool}
use Rattle.river_base.proofs.PlaceLemmas.{if_true, if_false}
use Rattle.river_base.proofs.Lists.{take_next}
use Rattle.river_base.specs.Name.{name_eq}
use Rattle.river_plan.specs.Forms.{Name}
use Rattle.river_plan.specs.Names.{count, one_if}
use Rattle.river_plan.proofs.NameLemmas.{count-append}
use Rattle.plan_edits.specs.Lists.{place_of_name}

-- another name is not the one that is looked for
pub none_next : (q : Name) (xs : List Name) (i : ℕ) (x : Name) → i < length xs → x ≡ get_or xs i x → name_eq x q ≡ false → count q (take i xs) ≡ 0
    → count q (take (i + 1) xs) ≡ 0
none_next q xs i x lt e n z =
    let a = ap (count q) (take_next xs i x lt e) in
    let b = count-append q (take i xs) (x ∷ []) in
    let d = ap one_if n in
    omega (arith, a, b, d, z)

-- the name is in the list
pub there_at : (q : Name) (xs : List Name) (i : ℕ) (x : Name) → i < length xs → x ≡ get_or xs i x → name_eq x q ≡ true → 0 < count q xs
there_at q [] i x lt e t = absurd (omega (arith, lt))
there_at q (y ∷ xs) zero x lt e t = let d = ap one_if (sym (ap (λ n. name_eq n q) e) ∙ t) in omega (arith, d)
there_at q (y ∷ xs) (suc i) x lt e t = let r = there_at q xs i x (omega (arith, lt)) e t in omega (arith, r)

-- the first place of the name
pub place_at : (q : Name) (xs : List Name) (i : ℕ) (x : Name) → i < length xs → x ≡ get_or xs i x → name_eq x q ≡ true → count q (take i xs) ≡ 0
    → i ≡ place_of_name q xs
place_at q [] i x lt e t z = absurd (omega (arith, lt))
place_at q (y ∷ xs) zero x lt e t z = sym (if_true (name_eq y q) 0 (suc (place_of_name q xs)) (sym (ap (λ n. name_eq n q) e) ∙ t))
place_at q (y ∷ xs) (suc i) x lt e t z = ⊎_elim
    (λ c. absurd (let d = ap one_if c in omega (arith, d, z)))
    (λ c. ap suc (place_at q xs i x (omega (arith, lt)) e t (omega (arith, z))) ∙ sym (if_false (name_eq y q) 0 (suc (place_of_name q xs)) c))
    (cases_Bool (name_eq y q))

-- where the name is not in the list, its place is the length
pub place_past : (q : Name) (xs : List Name) (i : ℕ) → length xs ≤ i → i ≤ length xs → count q (take i xs) ≡ 0 → i ≡ place_of_name q xs
place_past q [] i ge le z = omega (arith, le)
place_past q (y ∷ xs) zero ge le z = absurd (omega (arith, ge))
place_past q (y ∷ xs) (suc i) ge le z = ⊎_elim
    (λ c. absurd (let d = ap one_if c in omega (arith, d, z)))
    (λ c. ap suc (place_past q xs i (omega (arith, ge)) (omega (arith, le)) (omega (arith, z))) ∙ sym (if_false (name_eq y q) 0 (suc (place_of_name q xs)) c))
    (cases_Bool (name_eq y q))
