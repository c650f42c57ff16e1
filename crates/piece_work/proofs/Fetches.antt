-- What is done with the bytes that were read is done with those that are held.
use Rattle.std.proofs.Common.{◌≡◌, ℕ, List, length, sym, ap, ◌∙◌}
use Rattle.std.specs.Prelude.{Option, None, Some, IfSome}
use Rattle.river_outside.specs.Fetched.{FetchesAll}
use Rattle.river_outside.specs.Held.{Held}
use Rattle.csv_streams.specs.Records.{csv_records}
use Rattle.piece_work.specs.Faults.{Reads, IsRead, most_file}
use Rattle.piece_work.specs.Held.{bytes_of}

is-some : (o : Option (List ℕ)) (limit : ℕ) (got : List ℕ) → FetchesAll o limit got → o ≡ Some got
is-some None limit got f = absurd f
is-some (Some bytes) limit got f = ap (λ (l : List ℕ). Some l) (sym f.0)

is-bytes : (o : Option (List ℕ)) (limit : ℕ) (got : List ℕ) → FetchesAll o limit got → got ≡ bytes_of o
is-bytes o limit got f = sym (ap bytes_of (is-some o limit got f))

-- its records are counted
pub count-held : (held : Option Held) (file : List ℕ) (limit : ℕ) (got : List ℕ) (count : ℕ)
    → Reads held limit file got → count ≡ length (csv_records got) → IfSome held (λ h. count ≡ length (csv_records (bytes_of (h file))))
count-held None file limit got count f e = tt
count-held (Some h) file limit got count f e = e ∙ ap (λ (l : List ℕ). length (csv_records l)) (is-bytes (h file) limit got f)

-- the file is read
pub read-held : (held : Option Held) (file got : List ℕ) → Reads held most_file file got → IsRead held file
read-held held file got r = record { bytes = got; reads = r }

pub ruleset fetches = (count-held, read-held)
