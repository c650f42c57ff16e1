-- The field at a place, and the fields in front of it.
use Rattle.std.proofs.Common.{◌≡◌, ℕ, zero, suc, ◌+◌, ◌<◌, ◌≤◌, List, [], ◌∷◌, ◌++◌, length, take, refl, sym, ◌∙◌, ap, arith}
use Rattle.std.specs.Prelude.{ℤ, Option, Some, Result, Ok, Err, option_and_then}
use Rattle.csv.specs.Records.{field_at}
use Rattle.csv_streams.specs.Number.{number_in}
use Rattle.csv_streams.specs.Numbered.{numbered_results}
use Rattle.csv_streams.specs.Rows.{value_or, value_of_field}
use Rattle.csv_streams.specs.declared.fault.InFault.{InFault}
use Rattle.csv_streams.proofs.Numbered.{numbered-push, numbered-fault}

-- the field at a place below w, and how it lies among the first w fields
record Place (w i : ℕ) (fields : List (List ℕ)) : Type 0 where
  text : List ℕ
  more : List (List ℕ)
  here : field_at fields i ≡ Some text
  parts : take w fields ≡ take i fields ++ text ∷ more
  next : take (suc i) fields ≡ take i fields ++ text ∷ []
  size : length (take i fields) ≡ i

place_of : (w i : ℕ) (fields : List (List ℕ)) → i < w → w ≤ length fields → Place w i fields
unfolding field_at
place_of zero i fields lt le = absurd (omega (arith, lt))
place_of (suc w) i [] lt le = absurd (omega (arith, le))
place_of (suc w) zero (f ∷ fs) lt le = record { text = f; more = take w fs; here = refl; parts = refl; next = refl; size = refl }
place_of (suc w) (suc i) (f ∷ fs) lt le =
    let p = place_of w i fs (omega (arith, lt)) (omega (arith, le)) in
    record {
      text = p.text;
      more = p.more;
      here = p.here;
      parts = ap (λ (l : List (List ℕ)). f ∷ l) p.parts;
      next = ap (λ (l : List (List ℕ)). f ∷ l) p.next;
      size = ap suc p.size;
    }

abbrev read_at : ℕ → ℕ → Option (List ℕ) → Result ℤ InFault
read_at rec field o = value_or rec field (option_and_then number_in o)

-- one field more has a value
pub fields-push : (rec w i : ℕ) (fields : List (List ℕ)) (xs : List ℤ) (x : ℤ) → i < w → w ≤ length fields
    → numbered_results (value_of_field rec) 1 (take i fields) ≡ Ok xs
    → value_or rec (i + 1) (option_and_then number_in (field_at fields i)) ≡ Ok x
    → numbered_results (value_of_field rec) 1 (take (i + 1) fields) ≡ Ok (xs ++ x ∷ [])
fields-push rec w i fields xs x lt le so_far is =
    let p = place_of w i fields lt le in
    let one_more : i + 1 ≡ suc i = omega arith in
    ap (λ (n : ℕ). numbered_results (value_of_field rec) 1 (take n fields)) one_more ∙ ap (numbered_results (value_of_field rec) 1) p.next
    ∙ numbered-push (value_of_field rec) 1 (i + 1) (take i fields) p.text xs x so_far (omega (arith, p.size)) (sym (ap (read_at rec (i + 1)) p.here) ∙ is)

-- the first field that is no number
pub fields-fault : (rec w i : ℕ) (fields : List (List ℕ)) (xs : List ℤ) (fault : InFault) → i < w → w ≤ length fields
    → numbered_results (value_of_field rec) 1 (take i fields) ≡ Ok xs → value_or rec (i + 1) (option_and_then number_in (field_at fields i)) ≡ Err fault
    → numbered_results (value_of_field rec) 1 (take w fields) ≡ Err fault
fields-fault rec w i fields xs fault lt le so_far is =
    let p = place_of w i fields lt le in
    ap (numbered_results (value_of_field rec) 1) p.parts
    ∙ numbered-fault (value_of_field rec) 1 (i + 1) (take i fields) p.text p.more xs fault so_far (omega (arith, p.size))
    (sym (ap (read_at rec (i + 1)) p.here) ∙ is)
