-- What a word of the command line may be.
use Rattle.std.specs.Prelude.{ℕ, List, [], ◌∷◌, length, nat_lt, nat_le, ◌&&◌, Bool, true, false, Option, None, Some, option_map, codes, if◌then◌else◌}
use Rattle.std.specs.List.{list_all}
use Rattle.std.specs.Str.{bytes_eq}
use Rattle.river_base.specs.Name.{is_digit}
use Rattle.csv_streams.specs.Number.{value_after}

-- a word that is a number: 1 to 6 decimal digits
abbrev pub is_number_word : List ℕ → Bool
is_number_word word = nat_lt 0 (length word) && (nat_le (length word) 6 && list_all is_digit word)

-- a number of records that a piece may have at most: 1 to 100,000
abbrev pub up_to_most : ℕ → Option ℕ
up_to_most n = if nat_lt 0 n && nat_le n 100000 then Some n else None

-- SIZE: the number that the word writes, if it is one of those
abbrev pub size_of : List ℕ → Option ℕ
size_of word = if is_number_word word then up_to_most (value_after 0 word) else None

-- in=FILE: the bytes behind `in=`, which are not empty
abbrev pub input_of : List ℕ → Option (List ℕ)
input_of (i ∷ n ∷ e ∷ c ∷ cs) = if bytes_eq (i ∷ n ∷ e ∷ []) (codes "in=") then Some (c ∷ cs) else None
input_of word = None

-- `--keep FOLDER`, where something is kept for the next call, or nothing
abbrev pub keep_of : List (List ℕ) → Option (Option (List ℕ))
keep_of [] = Some None
keep_of (word ∷ folder ∷ []) = if bytes_eq word (codes "--keep") then Some (Some folder) else None
keep_of words = None

-- what may stand behind them: `-H`, where the file begins with a header, and then that
abbrev pub with_keep : Bool → List (List ℕ) → Option (Bool × Option (List ℕ))
with_keep header words = option_map (λ keep. (header, keep)) (keep_of words)

abbrev pub options_of : List (List ℕ) → Option (Bool × Option (List ℕ))
options_of [] = with_keep false []
options_of (word ∷ words) = if bytes_eq word (codes "-H") then with_keep true words else with_keep false (word ∷ words)
