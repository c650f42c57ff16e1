-- Why what a run printed is not added: it has no rows of the tables, or memory was wanting.
use Rattle.std.specs.Prelude.{⊤, ℕ, ℤ, false, List}
use Rattle.csv_streams.specs.Written.{WritesRow}
use Rattle.kern_tables.specs.declared.kind.TableKind.{TableKind}
use Rattle.kern_tables.specs.Tables.{table_width}
use Rattle.river_plan.specs.declared.plan.TableDecl.{TableDecl}
use Rattle.table_texts.specs.declared.split.NoSplit.{NoSplit}
use Rattle.table_texts.specs.declared.split.NoSplit.TheVariants as split
use Rattle.piece_merge.specs.declared.fault.NoMerge.{NoMerge}
use Rattle.piece_merge.specs.declared.fault.NoMerge.TheVariants as why
use Rattle.piece_merge.specs.Added.{SectionWrites, SectionsWrite, HasRows}

-- what is told of a text that has no split
abbrev pub of_split : NoSplit → NoMerge
of_split split.Other = why.Other
of_split split.NoMemory = why.NoMemory

-- why a text is not added: there are no rows of the tables that it has
abbrev pub SaysNoMerge : List TableDecl → List ℕ → NoMerge → Type 0
SaysNoMerge tables out why.Other = (rows : List (List (List ℤ))) → HasRows tables out rows → ⊥
SaysNoMerge tables out why.NoMemory = ⊤

-- why sections are not added
abbrev pub SaysNoSections : List TableDecl → List (List ℕ) → NoMerge → Type 0
SaysNoSections tables sections why.Other = (rows : List (List (List ℤ))) → SectionsWrite tables sections rows → ⊥
SaysNoSections tables sections why.NoMemory = ⊤

-- why one section is not added
abbrev pub SaysNoRows : TableKind → List ℕ → NoMerge → Type 0
SaysNoRows kind section why.Other = (rows : List (List ℤ)) → SectionWrites kind section rows → ⊥
SaysNoRows kind section why.NoMemory = ⊤

-- why one record is not added
abbrev pub SaysNoRow : TableKind → List (List ℕ) → NoMerge → Type 0
SaysNoRow kind fields why.Other = (row : List ℤ) → WritesRow (table_width kind) false fields row → ⊥
SaysNoRow kind fields why.NoMemory = ⊤
