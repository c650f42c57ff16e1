-- A program over records that come in pieces, and the programs that merge its tables.
use Rattle.std.specs.Prelude.{◌≡◌, ℕ, zero, suc, ◌+◌, ℤ, All, List, [], ◌∷◌, ◌++◌, map, flat_map, Option, Some, None, Ok}
use Rattle.river_base.specs.Bags.{SameBag}
use Rattle.work_code.specs.Steps.{Steps}
use Rattle.kern_tables.specs.declared.kind.TableKind.{TableKind}
use Rattle.kern_tables.specs.declared.kind.TableKind.TheVariants.{Sum, Collection, Maximum}
use Rattle.kern_tables.specs.Pieces.{AreRowsFor, joined, StandBehind}
use Rattle.kern_tables.specs.Tables.{tab, table_width}
use Rattle.river_plan.specs.declared.plan.TableDecl.{TableDecl}
use Rattle.saw_text.specs.declared.tree.Field.{Field}
use Rattle.saw_text.specs.declared.tree.Kind.{Kind}
use Rattle.saw_text.specs.declared.tree.Kind.TheVariants as code
use Rattle.saw_text.specs.Tree.{Expression}
use Rattle.saw_text.specs.Tree as tree
use Rattle.saw_text.specs.Tree.{Statement, Emit, TableForm, TableUnit, StatementUnit, Program}
use Rattle.saw_model.specs.Elaborate.{At, keys_in}
use Rattle.saw_model.specs.Judged.{judged}
use Rattle.saw_model.specs.Meaning.{tables_in, width, program_tables, emits, rows_for}

-- WHAT IS EMITTED

-- Each row that the records emit to a table of an accepted program is one for it: the keys, the value, and for a maximum the weight.
abbrev pub EmitsAreRows : Type 0
EmitsAreRows =
    (p : Program) (read : Steps × At) (records : List (List ℤ)) → judged p ≡ Ok read
    → All (λ t. AreRowsFor t.kind (rows_for t.name (flat_map (emits p) records))) (tables_in p)

-- THE PROGRAM THAT MERGES A TABLE

-- a field without a name
abbrev pub unnamed : Field
unnamed = record { name = None }

abbrev pub all_unnamed : ℕ → List Field
all_unnamed zero = []
all_unnamed (suc n) = unnamed ∷ all_unnamed n

abbrev pub written_kind : TableKind → Kind
written_kind (Sum keys) = code.Sum
written_kind (Collection keys) = code.Collection
written_kind (Maximum best keys) = code.Maximum best

abbrev pub written_weight : TableKind → Option Field
written_weight (Sum keys) = None
written_weight (Collection keys) = None
written_weight (Maximum best keys) = Some unnamed

-- a table of this name and kind
abbrev pub merge_table : TableDecl → TableForm
merge_table t =
    record { name = t.name; kind = written_kind t.kind; indexes = all_unnamed (keys_in t.kind); value = unnamed; weight = written_weight t.kind }

-- so many fields of the record, from number n
abbrev pub fields_from : ℕ → ℕ → List Expression
fields_from n zero = []
fields_from n (suc m) = tree.Input n ∷ fields_from (n + 1) m

abbrev pub read_weight : TableKind → Option Expression
read_weight (Sum keys) = None
read_weight (Collection keys) = None
read_weight (Maximum best keys) = Some (tree.Input (keys + 1))

-- emits the record itself: NAME[input[0]].. <- input[K], and for a maximum weight input[K + 1], of K keys
abbrev pub merge_emit : TableDecl → Statement
merge_emit t = Emit t.name (fields_from 0 (keys_in t.kind)) (tree.Input (keys_in t.kind)) (read_weight t.kind)

abbrev pub merge_program : TableDecl → Program
merge_program t = TableUnit (merge_table t) ∷ StatementUnit (merge_emit t) ∷ []

-- It is accepted, has this table alone, reads all fields of such a table's rows, and means the table of the rows that it is given.
pub record IsMergeProgram (t : TableDecl) : Type 0 where
  pub accepted : (read : Steps × At) × (judged (merge_program t) ≡ Ok read)
  pub tables : tables_in (merge_program t) ≡ t ∷ []
  pub fields : width (merge_program t) ≡ table_width t.kind
  pub means : (rows : List (List ℤ)) → AreRowsFor t.kind rows → program_tables (merge_program t) rows ≡ tab t.kind rows ∷ []

-- Each table of an accepted program has its merge program.
abbrev pub TablesHaveMergePrograms : Type 0
TablesHaveMergePrograms = (p : Program) (read : Steps × At) → judged p ≡ Ok read → All IsMergeProgram (tables_in p)

-- PIECES

-- the tables that are printed, each as its rows
abbrev pub Answer : Type 0
Answer = List (List (List ℤ))

-- the rows of the first table, and the other tables
abbrev pub first_table : Answer → List (List ℤ)
first_table [] = []
first_table (rows ∷ others) = rows

abbrev pub other_tables : Answer → Answer
other_tables [] = []
other_tables (rows ∷ others) = others

-- Rows are merged by the merge program of a table: at once. Or they are cut into pieces, in any order, and what the program gives
-- for each piece is merged. Or they are parted, so that all of the second part stand behind all of the first, and the table of the
-- second is written behind that of the first.
pub data IsMergedBy : TableDecl → List (List ℤ) → List (List ℤ) → Type 0 where
  AtOnce : (t : TableDecl) (rows table : List (List ℤ)) → program_tables (merge_program t) rows ≡ table ∷ [] → IsMergedBy t rows table
  InPieces : (t : TableDecl) (rows table : List (List ℤ)) (pieces : List (List (List ℤ))) → SameBag rows (joined pieces)
      → IsMergedBy t (flat_map (λ piece. joined (program_tables (merge_program t) piece)) pieces) table → IsMergedBy t rows table
  InOrder : (t : TableDecl) (rows table xs ys first second : List (List ℤ)) → SameBag rows (xs ++ ys) → StandBehind t.kind xs ys
      → IsMergedBy t xs first → IsMergedBy t ys second → table ≡ first ++ second → IsMergedBy t rows table

-- table by table, what the pieces give is merged
abbrev pub AreMergedBy : List TableDecl → List Answer → Answer → Type 0
AreMergedBy [] answers [] = Unit {0}
AreMergedBy [] answers (x ∷ xs) = ⊥
AreMergedBy (t ∷ ts) answers [] = ⊥
AreMergedBy (t ∷ ts) answers (x ∷ xs) = IsMergedBy t (flat_map first_table answers) x × AreMergedBy ts (map other_tables answers) xs

-- An accepted program is run on each piece of the records, and its tables are merged by their merge programs. What comes of
-- this is what the program means for all records.
abbrev pub PiecesMerge : Type 0
PiecesMerge =
    (p : Program) (read : Steps × At) (pieces : List (List (List ℤ))) (answer : Answer) → judged p ≡ Ok read
    → AreMergedBy (tables_in p) (map (program_tables p) pieces) answer → answer ≡ program_tables p (joined pieces)

-- what the merge programs give at once
abbrev pub merged : List TableDecl → List Answer → Answer
merged [] answers = []
merged (t ∷ ts) answers = program_tables (merge_program t) (flat_map first_table answers) ++ merged ts (map other_tables answers)

-- They give what the program means for all records.
abbrev pub PiecesMergeAtOnce : Type 0
PiecesMergeAtOnce =
    (p : Program) (read : Steps × At) (pieces : List (List (List ℤ))) → judged p ≡ Ok read
    → merged (tables_in p) (map (program_tables p) pieces) ≡ program_tables p (joined pieces)
