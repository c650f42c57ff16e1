-- No two files of a work folder have one name.
use Rattle.std.proofs.Common.{◌≡◌, ℕ, ◌^◌, List, ◌∷◌, ◌++◌, Bool, true, false, cond, nat_eq, get_or, drop, refl, sym, ◌∙◌, ap, arith}
use Rattle.std.specs.Prelude.{IsTrue, codes, nat_lt, ◌&&◌}
use Rattle.river_base.proofs.Tests.{lt_by}
use Rattle.std.specs.Fmt.{decimal}
use Rattle.std.specs.Str.Parse.{digits_value}
use Rattle.std.proofs.lemmas.List.{append_cancel_left}
use Rattle.piece_files.specs.Names.{file_name, numbers_fit, NamesDiffer}
use Rattle.piece_files.specs.declared.file.JobFile.{JobFile}
use Rattle.piece_files.specs.declared.file.JobFile.TheVariants as file
use Rattle.piece_files.proofs.Decimals.{before_dot, after_dot, value-decimal, value-before, rest-after}

-- both tests hold
and_first : (x y : Bool) → IsTrue (x && y) → IsTrue x
and_first true y both = refl
and_first false y both = both

and_second : (x y : Bool) → IsTrue (x && y) → IsTrue y
and_second true y both = both
and_second false y both = cc both

-- the file that a name is of
abbrev file_of_w : List ℕ → JobFile
file_of_w bytes = cond (nat_eq (get_or bytes 1 0) 104) file.Whole (file.Words (digits_value 10 (drop 6 bytes)))

abbrev file_of_s : List ℕ → JobFile
file_of_s bytes = cond (nat_eq (get_or bytes 4 0) 101) file.State
    (file.Status (digits_value 10 (before_dot (drop 7 bytes))) (digits_value 10 (after_dot (drop 7 bytes))))

abbrev file_of : List ℕ → JobFile
file_of bytes =
    cond (nat_eq (get_or bytes 0 0) 112) file.Program
    (cond (nat_eq (get_or bytes 0 0) 108) file.List
    (cond (nat_eq (get_or bytes 0 0) 107) file.Kept
    (cond (nat_eq (get_or bytes 0 0) 109) file.Mark
    (cond (nat_eq (get_or bytes 0 0) 105) (file.Input (digits_value 10 (drop 3 bytes)))
    (cond (nat_eq (get_or bytes 0 0) 111) (file.Out (digits_value 10 (before_dot (drop 4 bytes))) (digits_value 10 (after_dot (drop 4 bytes))))
    (cond (nat_eq (get_or bytes 0 0) 101) (file.Err (digits_value 10 (before_dot (drop 4 bytes))) (digits_value 10 (after_dot (drop 4 bytes))))
    (cond (nat_eq (get_or bytes 0 0) 119) (file_of_w bytes) (file_of_s bytes))))))))

-- the numbers before a dot and behind it
two_numbers : (kind : ℕ → ℕ → JobFile) (job turn : ℕ) → IsTrue (nat_lt job (2 ^ 64) && nat_lt turn (2 ^ 32))
    → kind (digits_value 10 (before_dot (decimal job ++ 46 ∷ decimal turn))) (digits_value 10 (after_dot (decimal job ++ 46 ∷ decimal turn))) ≡ kind job turn
two_numbers kind job turn fits =
    let few = lt_by job (2 ^ 64) (and_first (nat_lt job (2 ^ 64)) (nat_lt turn (2 ^ 32)) fits) in
    let fewer = lt_by turn (2 ^ 32) (and_second (nat_lt job (2 ^ 64)) (nat_lt turn (2 ^ 32)) fits) in
    let first = value-before job (decimal turn) few in
    let second = ap (digits_value 10) (rest-after job (decimal turn) few) ∙ value-decimal turn (omega arith) in
    rw (first, second) refl

-- a name is of its file
pub file_of-name : (f : JobFile) → IsTrue (numbers_fit f) → file_of (file_name f) ≡ f
file_of-name file.Program fits = refl
file_of-name file.State fits = refl
file_of-name file.List fits = refl
file_of-name file.Kept fits = refl
file_of-name file.Mark fits = refl
file_of-name file.Whole fits = refl
file_of-name (file.Words job) fits = ap file.Words (value-decimal job (lt_by job (2 ^ 64) fits))
file_of-name (file.Input job) fits = ap file.Input (value-decimal job (lt_by job (2 ^ 64) fits))
file_of-name (file.Out job turn) fits = two_numbers file.Out job turn fits
file_of-name (file.Err job turn) fits = two_numbers file.Err job turn fits
file_of-name (file.Status job turn) fits = two_numbers file.Status job turn fits

-- different files have different names
pub names_differ : NamesDiffer
names_differ path a b fits_a fits_b same =
    let e = append_cancel_left (codes "/") (file_name a) (file_name b)
    (append_cancel_left path (codes "/" ++ file_name a) (codes "/" ++ file_name b) same) in
    sym (file_of-name a fits_a) ∙ ap file_of e ∙ file_of-name b fits_b
