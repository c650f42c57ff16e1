-- Tables of rows that come in pieces: each piece makes a table of its own, and the rows that are printed of these tables are
-- added to one table more.
use Rattle.std.specs.Prelude.{◌≡◌, ℤ, false, All, List, ◌++◌, flat_map, take}
use Rattle.std.specs.declared.cmp.Ordering.TheVariants.{Less}
use Rattle.river_base.specs.Bags.{SameBag}
use Rattle.river_base.specs.Row.{HaveWidth, row_cmp, row_lt}
use Rattle.kern_tables.specs.declared.kind.TableKind.{TableKind}
use Rattle.kern_tables.specs.declared.kind.TableKind.TheVariants.{Sum, Collection, Maximum}
use Rattle.kern_tables.specs.Tables.{tab, table_width}

-- each row has the keys, the value, and for a maximum the weight
abbrev pub AreRowsFor : TableKind → List (List ℤ) → Type 0
AreRowsFor kind rows = HaveWidth (table_width kind) rows

-- the pieces, one behind another
abbrev pub joined : {A : Type 0} → List (List A) → List A
joined pieces = flat_map (λ piece. piece) pieces

-- the rows that are printed of the tables of the pieces, one table behind another
abbrev pub printed : TableKind → List (List (List ℤ)) → List (List ℤ)
printed kind pieces = flat_map (tab kind) pieces

-- What is printed of a table are rows for such a table.
abbrev pub TablesAreRows : Type 0
TablesAreRows = (kind : TableKind) (adds : List (List ℤ)) → AreRowsFor kind adds → AreRowsFor kind (tab kind adds)

-- The table of what is printed of two tables is the table of what was added to both.
abbrev pub TwoTablesMerge : Type 0
TwoTablesMerge = (kind : TableKind) (xs ys : List (List ℤ)) → AreRowsFor kind xs → AreRowsFor kind ys → tab kind (tab kind xs ++ tab kind ys) ≡ tab kind (xs ++ ys)

-- So is that of any number of tables.
abbrev pub TablesMerge : Type 0
TablesMerge = (kind : TableKind) (pieces : List (List (List ℤ))) → AreRowsFor kind (joined pieces) → tab kind (printed kind pieces) ≡ tab kind (joined pieces)

-- The row y stands behind x: by their keys, and in a collection, where it is not below it.
abbrev pub StandsBehind : TableKind → List ℤ → List ℤ → Type 0
StandsBehind (Sum keys) x y = row_cmp (take keys x) (take keys y) ≡ Less
StandsBehind (Collection keys) x y = row_lt y x ≡ false
StandsBehind (Maximum best keys) x y = row_cmp (take keys x) (take keys y) ≡ Less

abbrev pub StandBehind : TableKind → List (List ℤ) → List (List ℤ) → Type 0
StandBehind kind xs ys = All (λ y. All (λ x. StandsBehind kind x y) xs) ys

-- Where all rows of ys stand behind those of xs, the table of both is that of xs and behind it that of ys.
abbrev pub TablesStandInOrder : Type 0
TablesStandInOrder = (kind : TableKind) (xs ys : List (List ℤ)) → StandBehind kind xs ys → tab kind (xs ++ ys) ≡ tab kind xs ++ tab kind ys

-- One table is made of the rows at once. Or they are cut into pieces, in any order, and what is printed of the tables of these is
-- merged. Or they are parted, so that all of the second part stand behind all of the first, and the table of the second is
-- written behind that of the first.
pub data IsMerged : TableKind → List (List ℤ) → List (List ℤ) → Type 0 where
  AtOnce : (kind : TableKind) (rows table : List (List ℤ)) → table ≡ tab kind rows → IsMerged kind rows table
  InPieces : (kind : TableKind) (rows table : List (List ℤ)) (pieces : List (List (List ℤ))) → SameBag rows (joined pieces)
      → IsMerged kind (printed kind pieces) table → IsMerged kind rows table
  InOrder : (kind : TableKind) (rows table xs ys first second : List (List ℤ)) → SameBag rows (xs ++ ys) → StandBehind kind xs ys
      → IsMerged kind xs first → IsMerged kind ys second → table ≡ first ++ second → IsMerged kind rows table

-- What comes of this is the table of the rows.
abbrev pub MergesAreTables : Type 0
MergesAreTables = (kind : TableKind) (rows table : List (List ℤ)) → AreRowsFor kind rows → IsMerged kind rows table → table ≡ tab kind rows
