-- The values of the fields of a record.
use Rattle.std.proofs.Common.{◌≡◌, ℕ, zero, suc, ◌+◌, ◌<◌, ◌≤◌, ℤ, List, [], ◌∷◌, ◌++◌, length, take, refl, sym, subst, arith}
use Rattle.std.specs.Prelude.{Option, None, Some, option_and_then}
use Rattle.csv.specs.Records.{field_at}
use Rattle.csv_streams.specs.Number.{number_in}
use Rattle.csv_streams.specs.Written.{AllWrite}
use Rattle.csv_streams.proofs.Writings.{read-is_written, written-is_read}

-- the value of a field at a place
abbrev pub value_in : List (List ℕ) → ℕ → Option ℤ
value_in fields i = option_and_then number_in (field_at fields i)

none-some : (o : Option ℤ) (x : ℤ) → o ≡ None → o ≡ Some x → ⊥
none-some o x e f = cc

-- no field is read at first
pub write-first : (fields : List (List ℕ)) (values : List ℤ) → AllWrite (take 0 fields) (take 0 values)
write-first [] [] = tt
write-first [] (v ∷ vs) = tt
write-first (f ∷ fs) [] = tt
write-first (f ∷ fs) (v ∷ vs) = tt

-- one field more
next-writes : (fields : List (List ℕ)) (i : ℕ) (xs : List ℤ) (x : ℤ) → AllWrite (take i fields) xs → value_in fields i ≡ Some x
    → AllWrite (take (suc i) fields) (xs ++ x ∷ [])
unfolding field_at
next-writes [] i xs x h e = absurd (none-some _ x refl e)
next-writes (f ∷ fs) zero [] x h e = (read-is_written f x e, write-first fs [])
next-writes (f ∷ fs) zero (y ∷ ys) x h e = absurd h
next-writes (f ∷ fs) (suc i) [] x h e = absurd h
next-writes (f ∷ fs) (suc i) (y ∷ ys) x h e = (h.0, next-writes fs i ys x h.1 e)

-- so with the place behind it
write-next : (fields : List (List ℕ)) (i : ℕ) (xs : List ℤ) (x : ℤ) → AllWrite (take i fields) xs → value_in fields i ≡ Some x
    → AllWrite (take (i + 1) fields) (xs ++ x ∷ [])
write-next fields i xs x h e =
    let one : suc i ≡ i + 1 = omega arith in subst (λ (n : ℕ). AllWrite (take n fields) (xs ++ x ∷ [])) one (next-writes fields i xs x h e)

-- so in a list that is this one
pub write-after : (fields : List (List ℕ)) (i : ℕ) (xs after : List ℤ) (x : ℤ) → AllWrite (take i fields) xs → value_in fields i ≡ Some x
    → after ≡ xs ++ x ∷ [] → AllWrite (take (i + 1) fields) after
write-after fields i xs after x h e is = subst (AllWrite (take (i + 1) fields)) (sym is) (write-next fields i xs x h e)

-- where a field has no value, no row is written
pub write-none : (fields : List (List ℕ)) (w i : ℕ) → i < w → w ≤ length fields → value_in fields i ≡ None → (row : List ℤ) → AllWrite (take w fields) row → ⊥
unfolding field_at
write-none fields zero i lt le e row h = absurd (omega (arith, lt))
write-none [] (suc w) i lt le e row h = absurd (omega (arith, le))
write-none (f ∷ fs) (suc w) zero lt le e [] h = absurd h
write-none (f ∷ fs) (suc w) zero lt le e (x ∷ xs) h = none-some (number_in f) x e (written-is_read f x h.0)
write-none (f ∷ fs) (suc w) (suc i) lt le e [] h = absurd h
write-none (f ∷ fs) (suc w) (suc i) lt le e (x ∷ xs) h = write-none fs w i (omega (arith, lt)) (omega (arith, le)) e xs h.1
