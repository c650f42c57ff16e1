-- The records of a file, and a reader behind some of them.
use Rattle.std.specs.Prelude.{◌≡◌, ℕ, List, [], ◌∷◌, ◌++◌, Bool, true, false, Some}
use Rattle.std.specs.Borrow.{Bor}
use Rattle.csv.specs.Reading.{records, default_config, strip_bom, source_of, Ready, Reached}
use Rattle.csv.specs.declared.parser.State.TheVariants as st
use Rattle.csv.specs.declared.reader.Reader.{Reader}
use Rattle.csv.specs.declared.reader.Trim.TheVariants as trim

-- the records that `csv` gives for the bytes: commas, double quotes, no header, records of any length
abbrev pub csv_records : List ℕ → List (List (List ℕ))
csv_records bytes = records default_config (strip_bom bytes)

-- the reader has passed over these records of the bytes, and nothing else
pub record IsBehind (bytes : List ℕ) (recs : List (List (List ℕ))) (rdr : Reader (Bor (List ℕ))) : Type 0 where
  pub trims : rdr.trim ≡ trim.None
  pub ready : Ready rdr
  pub config : rdr.config ≡ default_config
  pub left : List ℕ
  pub source : source_of (λ s. Some s.now) rdr ≡ Some left
  pub reached : Reached default_config st.StartRecord (strip_bom bytes) recs rdr.state left

-- behind these records there was another one with these fields, or there was none
abbrev pub ReadsRecord : List ℕ → List (List (List ℕ)) → List (List ℕ) → Reader (Bor (List ℕ)) → Bool → Type 0
ReadsRecord bytes recs fields rdr true = IsBehind bytes (recs ++ fields ∷ []) rdr
ReadsRecord bytes recs fields rdr false = csv_records bytes ≡ recs
