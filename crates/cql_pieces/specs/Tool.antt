-- A program is run on the pieces of files of any length: what is kept of the texts that the runs print is the text of the whole.
use Rattle.std.specs.Prelude.{◌≡◌, ℕ, ◌≤◌, pos, false, List, [], ◌∷◌, length, map, Ok}
use Rattle.std.specs.List.{AllByRecursion}
use Rattle.river_base.specs.Instants.{instants}
use Rattle.river_plan.specs.Forms.{Name}
use Rattle.csv_streams.specs.Outcome.{outputs_text}
use Rattle.csv_streams.specs.Rows.{most_rows}
use Rattle.csv_streams.specs.Timed.{timed_of}
use Rattle.table_texts.specs.Split.{under_names}
use Rattle.cql_text.specs.Grammar.{IsText}
use Rattle.cql_text.specs.Tree.{Program}
use Rattle.cql_model.specs.Meaning.{answers}
use Rattle.cql_model.specs.Instants.{program_means}
use Rattle.cql_pieces.specs.Piece.{File, cut_files}
use Rattle.cql_pieces.specs.Whole.{Part, cuts_of, AreRight, Follow}
use Rattle.cql_pieces.specs.Files.{AreTimed, file_text}
use Rattle.cql_pieces.specs.Text.{kept, sections, texts_behind, no_texts}

-- the files of a program's streams, of these widths, with any number of rows
abbrev pub AreWhole : List ℕ → List File → Type 0
AreWhole [] [] = Unit {0}
AreWhole [] (f ∷ fs) = ⊥
AreWhole (w ∷ ws) [] = ⊥
AreWhole (w ∷ ws) (f ∷ fs) = AreTimed w (pos 0) f × AreWhole ws fs

-- texts are read as timed rows of these widths, as a run reads its files
abbrev pub AreRead : List ℕ → List (List ℕ) → List File → Type 0
AreRead [] [] [] = Unit {0}
AreRead (w ∷ ws) (x ∷ xs) (r ∷ rs) = (timed_of x w false ≡ Ok r) × AreRead ws xs rs
AreRead [] [] (r ∷ rs) = ⊥
AreRead [] (x ∷ xs) rs = ⊥
AreRead (w ∷ ws) [] rs = ⊥
AreRead (w ∷ ws) (x ∷ xs) [] = ⊥

-- The run on a part: the files of its piece are written as texts, none of more rows than a run takes; these are read; and for each
-- query this is printed behind its name of what the program means for what was read.
pub record IsRun (widths : List ℕ) (p : Program) (files : List File) (part : Part) (printed : List (List ℕ)) : Type 0 where
  pub few : AllByRecursion (λ f. length f ≤ most_rows) (cut_files part.upto (cuts_of part files))
  pub read : List File
  pub is_read : AreRead widths (map file_text (cut_files part.upto (cuts_of part files))) read
  pub prints : printed ≡ sections (program_means p read)

-- for each part
abbrev pub AreRun : List ℕ → Program → List File → List Part → List (List (List ℕ)) → Type 0
AreRun widths p files [] [] = Unit {0}
AreRun widths p files [] (x ∷ xs) = ⊥
AreRun widths p files (part ∷ parts) [] = ⊥
AreRun widths p files (part ∷ parts) (x ∷ xs) = IsRun widths p files part x × AreRun widths p files parts xs

-- what is kept of them: query by query the lines of each span, one behind another
abbrev pub kept_of : Program → List File → List Part → List (List (List ℕ)) → List (List ℕ)
kept_of p files [] xs = no_texts (answers (instants files) [] p files)
kept_of p files (part ∷ parts) [] = no_texts (answers (instants files) [] p files)
kept_of p files (part ∷ parts) (x ∷ xs) = texts_behind (map (kept part.first part.upto) x) (kept_of p files parts xs)

-- Files of any length are cut into parts whose spans follow each other and begin above the bounds of their pieces, and the program of a
-- text is run on each piece. Then what is kept, behind the names of the queries, is what is printed of what the program means for the
-- files.
abbrev pub FilesGiveTheWhole : Type 0
FilesGiveTheWhole =
    (names : List Name) (widths : List ℕ) (text : List ℕ) (p : Program) (files : List File) (parts : List Part) (printed : List (List (List ℕ)))
    → IsText text p → AreWhole widths files
    → Follow (instants files) (pos 0) parts → AreRight p files parts
    → AreRun widths p files parts printed
    → under_names names (kept_of p files parts printed) ≡ outputs_text names (program_means p files)
