-- Keys of at most so many values.
use Rattle.std.proofs.Common.{◌≡◌, ℕ, zero, suc, ◌+ℤ◌, ◌+◌, ℤ, pos, ◌≤◌, List, [], ◌∷◌, length, drop, refl}
use Rattle.std.specs.Prelude.{slice_index_or}
use Rattle.std.proofs.Common.{ap, ◌∙◌, arith}
use Rattle.std.specs.Int.{w64, int_wrap}
use Rattle.std.specs.Int.RustNames.{FitsSigned}
use mir.Val.{to_z, of_z}
use Rattle.std.proofs.lemmas.Int.{to_z-of_z, int_wrap_fits, ints}
use Rattle.river_base.specs.Number.{add}
use Rattle.kern_tables.specs.declared.ranked.Ranked.{Ranked}
use Rattle.kern_tables.specs.Tables.{ranked_in}
use Rattle.std.specs.declared.cmp.Ordering.{Ordering}
use Rattle.std.specs.declared.cmp.Ordering.TheVariants.{Less, Equal, Greater}
use Rattle.std.specs.Ordering.{match_ordering}
use Rattle.std.specs.BTreeMap.{insert_entry}
use Rattle.river_base.specs.Row.{row_cmp}
use Rattle.kern_tables.specs.Entries.{AreShort}

-- keys stay short where a short one is put in
pub short_insert : {V : Type 0} (n : ℕ) (es : List (List ℤ × V)) (k : List ℤ) (v : V) → AreShort n es → length k ≤ n → AreShort n (insert_entry row_cmp es k v)
short_insert n [] k v a h = (h, tt)
short_insert {V} n (e ∷ es) k v a h = step (row_cmp k e.0) (short_insert n es k v a.1 h) where
  step : (r : Ordering) → AreShort n (insert_entry row_cmp es k v)
      → AreShort {V = V} n (match_ordering r ((k, v) ∷ e ∷ es) ((e.0, v) ∷ es) (e ∷ insert_entry row_cmp es k v))
  step Less more = (h, a)
  step Equal more = (a.0, a.1)
  step Greater more = (a.0, more)

-- what stands at a place is first behind it
pub first_of_rest : (n : ℕ) (row : List ℤ) → slice_index_or row n (pos 0) ≡ slice_index_or (drop n row) 0 (pos 0)
first_of_rest zero row = refl
first_of_rest (suc n) [] = refl
first_of_rest (suc n) (x ∷ xs) = first_of_rest n xs

pub second_of_rest : (n : ℕ) (row : List ℤ) → slice_index_or row (suc n) (pos 0) ≡ slice_index_or (drop n row) 1 (pos 0)
second_of_rest zero row = refl
second_of_rest (suc n) [] = refl
second_of_rest (suc n) (x ∷ xs) = second_of_rest n xs

abbrev made : Ranked → Ranked
made r = r

-- what is read of a row is what follows its key
pub ranked_there : (a b row : List ℤ) (n : ℕ) → a ≡ row → b ≡ row → FitsSigned w64 (slice_index_or a (n + 1) (pos 0))
    → FitsSigned w64 (slice_index_or b n (pos 0))
    → made (record { weight = to_z w64 (of_z w64 (slice_index_or a (n + 1) (pos 0))); value = to_z w64 (of_z w64 (slice_index_or b n (pos 0))) }) ≡ ranked_in
    (drop n row)
ranked_there a b row n ea eb fa fb =
    let w = to_z-of_z w64 (slice_index_or a (n + 1) (pos 0)) fa ∙ ap (λ l. slice_index_or l (n + 1) (pos 0)) ea
    ∙ ap (λ k. slice_index_or row k (pos 0)) (let e : n + 1 ≡ suc n = omega arith in e) ∙ second_of_rest n row in
    let v = to_z-of_z w64 (slice_index_or b n (pos 0)) fb ∙ ap (λ l. slice_index_or l n (pos 0)) eb ∙ first_of_rest n row in
    λ i. record { weight = w i; value = v i }

-- the sum of one value
pub first_sum : (v : ℤ) → FitsSigned w64 v → add (pos 0) v ≡ v
first_sum v f = let e : pos 0 +ℤ v ≡ v = omega (arith, ints) in ap (int_wrap w64) e ∙ int_wrap_fits w64 v f
