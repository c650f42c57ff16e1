-- What is kept of the texts that the runs on the pieces print, and what it is together.
use Rattle.std.specs.Prelude.{◌≡◌, ℕ, ℤ, pos, ◌==◌, true, All, List, [], ◌∷◌, ◌++◌, map, int_le, if◌then◌else◌}
use Rattle.std.specs.List.{AllByRecursion}
use Rattle.river_base.specs.Instants.{instants}
use Rattle.river_base.specs.Number.{IsValue}
use Rattle.river_base.specs.declared.item.Item as item
use Rattle.river_plan.specs.Forms.{Name}
use Rattle.csv_streams.specs.Number.{digits_of, value_after}
use Rattle.csv_streams.specs.Outcome.{item_rows, item_text, texts_of, outputs_text}
use Rattle.table_texts.specs.Split.{under_names}
use Rattle.cql_text.specs.Tree.{Program}
use Rattle.cql_model.specs.Meaning.{answers}
use Rattle.cql_model.specs.Instants.{program_means}
use Rattle.cql_pieces.specs.Piece.{File, within, cut_files}
use Rattle.cql_pieces.specs.Whole.{Part, cuts_of, AreRight, Follow}

-- the time at the front of a line
abbrev pub line_time : List ℕ → ℤ
line_time line = pos (value_after 0 (digits_of line))

-- a line, if its time is in the span
abbrev pub kept_line : ℤ → ℤ → List ℕ → List ℕ
kept_line first upto line = if within first upto (line_time line) then line else []

-- the lines whose times are in the span; `line` is what has been read of one
abbrev pub kept_from : ℤ → ℤ → List ℕ → List ℕ → List ℕ
kept_from first upto line [] = []
kept_from first upto line (c ∷ cs) =
    if c == 10 then kept_line first upto (line ++ c ∷ []) ++ kept_from first upto [] cs else kept_from first upto (line ++ c ∷ []) cs

-- of all the text
abbrev pub kept : ℤ → ℤ → List ℕ → List ℕ
kept first upto text = kept_from first upto [] text

-- what is printed of each query, without its name
abbrev pub sections : List (List item.Item) → List (List ℕ)
sections outs = map (λ items. texts_of item_text items) outs

-- what is kept of a part: of what is printed of each query on the piece, the lines of the span
abbrev pub part_texts : Program → List File → Part → List (List ℕ)
part_texts p files part = map (kept part.first part.upto) (sections (program_means p (cut_files part.upto (cuts_of part files))))

-- query by query, one text behind the other
abbrev pub texts_behind : List (List ℕ) → List (List ℕ) → List (List ℕ)
texts_behind [] ys = []
texts_behind (x ∷ xs) [] = x ∷ xs
texts_behind (x ∷ xs) (y ∷ ys) = (x ++ y) ∷ texts_behind xs ys

-- no text, for each query
abbrev pub no_texts : {A : Type 0} → List A → List (List ℕ)
no_texts xs = map (λ x. []) xs

-- what is kept of all parts, query by query
abbrev pub parts_texts : Program → List File → List Part → List (List ℕ)
parts_texts p files [] = no_texts (answers (instants files) [] p files)
parts_texts p files (part ∷ parts) = texts_behind (part_texts p files part) (parts_texts p files parts)

-- all that is printed are values of 64 bits, and no time is below 0; of a run both are so
abbrev pub AreValues : List item.Item → Type 0
AreValues items = AllByRecursion (λ i. AllByRecursion (λ row. All IsValue row) (item_rows i)) items

-- so is what is printed of a part
pub record IsPrinted (p : Program) (files : List File) (part : Part) : Type 0 where
  pub values : AllByRecursion AreValues (program_means p (cut_files part.upto (cuts_of part files)))
  pub times : AllByRecursion (λ t. int_le (pos 0) t ≡ true) (instants (cut_files part.upto (cuts_of part files)))

-- What is kept of the parts, query by query, one behind another, each query behind its name, is what is printed of what the program
-- means for the whole of the files.
abbrev pub TextsGiveTheWhole : Type 0
TextsGiveTheWhole =
    (names : List Name) (p : Program) (files : List File) (t : ℤ) (parts : List Part) → AllByRecursion (λ u. int_le t u ≡ true) (instants files)
    → Follow (instants files) t parts → AreRight p files parts → AllByRecursion (IsPrinted p files) parts
    → under_names names (parts_texts p files parts) ≡ outputs_text names (program_means p files)
