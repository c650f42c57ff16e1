-- What is written of what is kept: how many bytes of the file were read and how many records they have, whether it begins with a header, and the
-- sums of these bytes, of the program, and of what is kept.
use Rattle.std.specs.Prelude.{◌≡◌, ◌≤◌, ℕ, ◌-◌, ◌^◌, List, ◌++◌, drop, Bool, true, false, codes, min}
use Rattle.std.specs.Fmt.{decimal}
use Rattle.hex.specs.Hex.{encode_lower}
use Rattle.sha2.specs.Sha256.{sha256}
use Rattle.csv_streams.specs.Number.{after_digits, digits_of, value_after}

-- the SHA-256 of bytes, in hexadecimal digits
abbrev pub sum_of : List ℕ → List ℕ
sum_of bytes = encode_lower (sha256 bytes)

abbrev pub header_word : Bool → List ℕ
header_word true = codes " -H "
header_word false = codes " "

-- the place, the records before it, the header, and the sums of the front of the file and of the program
abbrev pub front_text : ℕ → ℕ → Bool → List ℕ → List ℕ → List ℕ
front_text at records header front program =
    decimal at ++ (codes " " ++ (decimal records ++ (header_word header ++ (sum_of front ++ (codes " " ++ (sum_of program ++ codes " "))))))

-- and behind them that of what is kept
abbrev pub mark_text : ℕ → ℕ → Bool → List ℕ → List ℕ → List ℕ → List ℕ
mark_text at records header front program kept = front_text at records header front program ++ (sum_of kept ++ codes "\n")

-- the place that a text tells: the number at its front
abbrev pub place_in : List ℕ → ℕ
place_in text = min (value_after 0 (digits_of text)) (2 ^ 64 - 1)

-- the number of records that it tells: the number behind the first blank
abbrev pub count_in : List ℕ → ℕ
count_in text = place_in (drop 1 (after_digits text))

-- a mark tells its place, and the number of records before it
abbrev pub MarksTellPlaces : Type 0
MarksTellPlaces =
    (at records : ℕ) (header : Bool) (front program kept : List ℕ) → at ≤ 2 ^ 64 - 1 → records ≤ 2 ^ 64 - 1
    → (place_in (mark_text at records header front program kept) ≡ at) × (count_in (mark_text at records header front program kept) ≡ records)
