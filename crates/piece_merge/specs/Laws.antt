-- The laws of merging: statements over the definitions alone.
use Rattle.std.specs.Prelude.{◌≡◌, ℕ, ℤ, List, [], ◌∷◌, ◌++◌, map}
use Rattle.kern_tables.specs.Kept.{rows_of}
use Rattle.river_plan.specs.declared.plan.TableDecl.{TableDecl}
use Rattle.piece_merge.specs.Added.{HasRows, AreAdded, tabs, IsMergeOf}
use Rattle.piece_merge.specs.Merging.{kept_each}

-- no row of any table
abbrev pub no_rows : List TableDecl → List (List (List ℤ))
no_rows tables = map (λ t. []) tables

-- further rows behind those of each table
abbrev pub with_more : List (List (List ℤ)) → List (List (List ℤ)) → List (List (List ℤ))
with_more [] more = []
with_more (r ∷ rs) [] = []
with_more (r ∷ rs) (q ∷ qs) = (r ++ q) ∷ with_more rs qs

-- Where there is no text, each table has no row.
abbrev pub NothingIsAdded : Type 0
NothingIsAdded = (tables : List TableDecl) → AreAdded tables [] (no_rows tables)

-- The rows of one text more stand behind those of the texts before it, table by table.
abbrev pub OneMoreIsAdded : Type 0
OneMoreIsAdded =
    (tables : List TableDecl) (outs : List (List ℕ)) (out : List ℕ) (rows more : List (List (List ℤ)))
    → AreAdded tables outs rows → HasRows tables out more → AreAdded tables (outs ++ out ∷ []) (with_more rows more)

-- What is kept of rows has the rows of their tables.
abbrev pub MergingIsTables : Type 0
MergingIsTables = (tables : List TableDecl) (rows : List (List (List ℤ))) → map rows_of (kept_each tables rows) ≡ tabs tables rows

-- Texts have one merge at most.
abbrev pub OneMerge : Type 0
OneMerge = (tables : List TableDecl) (outs : List (List ℕ)) (first second : List ℕ) → IsMergeOf tables outs first → IsMergeOf tables outs second → first ≡ second
