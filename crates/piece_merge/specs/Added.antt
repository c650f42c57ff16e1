-- What runs printed of tables is added, table by table: the rows of its sections, one section behind another.
use Rattle.std.specs.Prelude.{◌≡◌, ⊤, ℕ, ℤ, false, List, [], ◌∷◌, map}
use Rattle.csv_streams.specs.Outcome.{tables_text}
use Rattle.csv_streams.specs.Records.{csv_records}
use Rattle.csv_streams.specs.Written.{WriteRows}
use Rattle.kern_tables.specs.declared.kind.TableKind.{TableKind}
use Rattle.kern_tables.specs.Pieces.{joined}
use Rattle.kern_tables.specs.Tables.{tab, table_width}
use Rattle.river_plan.specs.declared.plan.TableDecl.{TableDecl}
use Rattle.river_plan.specs.Forms.{table_names}
use Rattle.table_texts.specs.Split.{IsSplit, AreSplit}

-- the kinds of the tables
abbrev pub table_kinds : List TableDecl → List TableKind
table_kinds tables = map (λ t. t.kind) tables

-- ONE TEXT

-- Each record of the section writes a row for a table of this kind, and has no further field.
abbrev pub SectionWrites : TableKind → List ℕ → List (List ℤ) → Type 0
SectionWrites kind section rows = WriteRows (table_width kind) false (csv_records section) rows

-- of each table the section has these rows
abbrev pub SectionsWrite : List TableDecl → List (List ℕ) → List (List (List ℤ)) → Type 0
SectionsWrite [] [] [] = ⊤
SectionsWrite [] [] (r ∷ rs) = ⊥
SectionsWrite [] (s ∷ ss) rows = ⊥
SectionsWrite (t ∷ ts) [] rows = ⊥
SectionsWrite (t ∷ ts) (s ∷ ss) [] = ⊥
SectionsWrite (t ∷ ts) (s ∷ ss) (r ∷ rs) = SectionWrites t.kind s r × SectionsWrite ts ss rs

-- the text is split at the lines of the tables' names, and of each table it has these rows
pub record HasRows (tables : List TableDecl) (out : List ℕ) (rows : List (List (List ℤ))) : Type 0 where
  pub sections : List (List ℕ)
  pub split : IsSplit (table_names tables) out sections
  pub write : SectionsWrite tables sections rows

-- ALL TEXTS

-- the text of the first table
abbrev pub first_section : List (List ℕ) → List ℕ
first_section [] = []
first_section (s ∷ ss) = s

-- and those of the others
abbrev pub other_sections : List (List ℕ) → List (List ℕ)
other_sections [] = []
other_sections (s ∷ ss) = ss

-- each section has rows, and these are they
abbrev pub EachWrites : TableKind → List (List ℕ) → List (List (List ℤ)) → Type 0
EachWrites kind [] [] = ⊤
EachWrites kind [] (r ∷ rs) = ⊥
EachWrites kind (s ∷ ss) [] = ⊥
EachWrites kind (s ∷ ss) (r ∷ rs) = SectionWrites kind s r × EachWrites kind ss rs

-- these are the rows of all sections, those of one section behind those of another
pub record AreRowsOf (kind : TableKind) (sections : List (List ℕ)) (rows : List (List ℤ)) : Type 0 where
  pub each : List (List (List ℤ))
  pub write : EachWrites kind sections each
  pub is : rows ≡ joined each

-- of each table these are the rows of its sections in all texts
abbrev pub TablesHaveRows : List TableDecl → List (List (List ℕ)) → List (List (List ℤ)) → Type 0
TablesHaveRows [] splits [] = ⊤
TablesHaveRows [] splits (r ∷ rs) = ⊥
TablesHaveRows (t ∷ ts) splits [] = ⊥
TablesHaveRows (t ∷ ts) splits (r ∷ rs) = AreRowsOf t.kind (map first_section splits) r × TablesHaveRows ts (map other_sections splits) rs

-- Each text is split at the lines of the tables' names, and of each table these are the rows of all texts.
pub record AreAdded (tables : List TableDecl) (outs : List (List ℕ)) (rows : List (List (List ℤ))) : Type 0 where
  pub splits : List (List (List ℕ))
  pub split : AreSplit (table_names tables) outs splits
  pub have : TablesHaveRows tables splits rows

-- THE TABLES

-- the table of the rows of each
abbrev pub tabs : List TableDecl → List (List (List ℤ)) → List (List (List ℤ))
tabs [] rows = []
tabs (t ∷ ts) [] = []
tabs (t ∷ ts) (r ∷ rs) = tab t.kind r ∷ tabs ts rs

-- the text is what a run prints of the tables of all rows that the texts have
pub record IsMergeOf (tables : List TableDecl) (outs : List (List ℕ)) (text : List ℕ) : Type 0 where
  pub rows : List (List (List ℤ))
  pub added : AreAdded tables outs rows
  pub is : text ≡ tables_text (table_names tables) (tabs tables rows)
