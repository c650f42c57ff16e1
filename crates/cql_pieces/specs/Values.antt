-- Programs and files of values of 64 bits mean rows of such values.
use Rattle.std.specs.Prelude.{pos, All, List, [], ◌∷◌}
use Rattle.std.specs.List.{AllByRecursion}
use Rattle.river_base.specs.Number.{IsValue}
use Rattle.cql_text.specs.Tree.{Scalar, Number, Field, ItemField, Neg, Not, Bin, Columns, Star, Chosen, Register, AQuery, Program}
use Rattle.cql_model.specs.Instants.{program_means}
use Rattle.cql_pieces.specs.Piece.{File}
use Rattle.cql_pieces.specs.Text.{AreValues}

-- the numbers of a program are values, as those of a text are
abbrev pub HasNumbers : Scalar → Type 0
HasNumbers (Number n) = IsValue (pos n)
HasNumbers (Field f) = Unit {0}
HasNumbers (ItemField a f) = Unit {0}
HasNumbers (Neg e) = HasNumbers e
HasNumbers (Not e) = HasNumbers e
HasNumbers (Bin o l r) = HasNumbers l × HasNumbers r

abbrev pub ColumnsHaveNumbers : Columns → Type 0
ColumnsHaveNumbers Star = Unit {0}
ColumnsHaveNumbers (Chosen cs) = AllByRecursion (λ c. HasNumbers c.value) cs

-- a condition only chooses
abbrev pub AreNumbers : Program → Type 0
AreNumbers [] = Unit {0}
AreNumbers (Register name fields ∷ ps) = AreNumbers ps
AreNumbers (AQuery q ∷ ps) = ColumnsHaveNumbers q.columns × AreNumbers ps

-- all fields of a file are values, its times too
abbrev pub IsOfValues : File → Type 0
IsOfValues file = All (λ e. All IsValue (e.0 ∷ e.1)) file

-- Programs whose numbers are values mean rows of values, of files of values.
abbrev pub MeansValues : Type 0
MeansValues =
    (p : Program) (files : List File) → AreNumbers p → AllByRecursion IsOfValues files → AllByRecursion AreValues (program_means p files)
