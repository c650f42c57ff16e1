-- A mark tells its place.
use Rattle.std.proofs.Common.{◌≡◌, ℕ, ◌-◌, ◌≤◌, ◌^◌, true, false, List, [], ◌∷◌, ◌++◌, drop, refl, ap, ◌∙◌, arith}
use Rattle.std.specs.Fmt.{decimal}
use Rattle.std.proofs.lemmas.Fmt.{digits_decimal, digits_value-decimal}
use Rattle.std.proofs.lemmas.Bool.{le-leb}
use Rattle.std.proofs.lemmas.List.{append_assoc}
use Rattle.river_base.specs.Name.{is_digit}
use Rattle.csv_streams.specs.Number.{after_digits, digits_of, value_after}
use Rattle.csv_streams.specs.Writing.{AllDigits}
use Rattle.csv_streams.proofs.PrintedRead.{numerals}
use Rattle.piece_keep.specs.Mark.{count_in, place_in, MarksTellPlaces}

digit-from : (c : ℕ) → 48 ≤ c → c ≤ 57 → is_digit c ≡ true
unfolding is_digit
digit-from c low high = rw (le-leb 48 c low, le-leb c 57 high) refl

-- the digits before a blank
digits-front : (ds rest : List ℕ) → AllDigits ds → digits_of (ds ++ 32 ∷ rest) ≡ ds
unfolding is_digit
digits-front [] rest h = refl
digits-front (d ∷ ds) rest h = rw (digit-from d h.0 h.1) (ap (λ l. d ∷ l) (digits-front ds rest h.2))

-- the number before a blank
place-front : (at : ℕ) (rest : List ℕ) → at ≤ 2 ^ 64 - 1 → place_in (decimal at ++ 32 ∷ rest) ≡ at
place-front at rest h =
    let digits : digits_of (decimal at ++ 32 ∷ rest) ≡ decimal at = digits-front (decimal at) rest (digits_decimal numerals at (omega (arith, h))) in
    let value : value_after 0 (decimal at) ≡ at = digits_value-decimal numerals at (omega (arith, h)) in
    let both = ap (value_after 0) digits ∙ value in
    omega (arith, both, h)

-- what stands behind the digits before a blank
behind-front : (ds rest : List ℕ) → AllDigits ds → after_digits (ds ++ 32 ∷ rest) ≡ 32 ∷ rest
unfolding is_digit
behind-front [] rest h = refl
behind-front (d ∷ ds) rest h = rw (digit-from d h.0 h.1) (behind-front ds rest h.2)

-- the number behind the first blank
count-front : (at records : ℕ) (rest : List ℕ) → at ≤ 2 ^ 64 - 1 → records ≤ 2 ^ 64 - 1 → count_in (decimal at ++ 32 ∷ (decimal records ++ 32 ∷ rest)) ≡ records
count-front at records rest h few =
    let behind = behind-front (decimal at) (decimal records ++ 32 ∷ rest) (digits_decimal numerals at (omega (arith, h))) in
    ap (λ (l : List ℕ). place_in (drop 1 l)) behind ∙ place-front records rest few

both-tell : (at records : ℕ) (rest kept : List ℕ) → at ≤ 2 ^ 64 - 1 → records ≤ 2 ^ 64 - 1
    → (place_in ((decimal at ++ 32 ∷ (decimal records ++ 32 ∷ rest)) ++ kept) ≡ at)
    × (count_in ((decimal at ++ 32 ∷ (decimal records ++ 32 ∷ rest)) ++ kept) ≡ records)
both-tell at records rest kept h few =
    let e = append_assoc (decimal at) (32 ∷ (decimal records ++ 32 ∷ rest)) kept in
    let f = append_assoc (decimal records) (32 ∷ rest) kept in (
      ap place_in e ∙ place-front at _ h,
      ap count_in (e ∙ ap (λ (l : List ℕ). decimal at ++ 32 ∷ l) f) ∙ count-front at records (rest ++ kept) h few,
    )

-- a mark tells its place, and the number of records before it
pub marks_tell_places : MarksTellPlaces
marks_tell_places at records true front program kept h few = both-tell at records _ _ h few
marks_tell_places at records false front program kept h few = both-tell at records _ _ h few
