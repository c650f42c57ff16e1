-- Tables to which what runs printed is added.
use Rattle.std.specs.Prelude.{◌≡◌, ℕ, ℤ, List, [], ◌∷◌, map}
use Rattle.kern_tables.specs.declared.kept.Aggregate.{Aggregate}
use Rattle.kern_tables.specs.Kept.{kept_of, added_all}
use Rattle.river_plan.specs.declared.plan.TableDecl.{TableDecl}
use Rattle.piece_merge.specs.Added.{HasRows, AreAdded}

-- the tables, and what each keeps
pub record Merging : Type 0 where
  pub tables : List TableDecl
  pub kept : List Aggregate

-- nothing was added
abbrev pub empty_merging : List TableDecl → Merging
empty_merging tables = record { tables = tables; kept = map (λ t. kept_of t.kind []) tables }

-- what each table keeps after its rows were added
abbrev pub kept_each : List TableDecl → List (List (List ℤ)) → List Aggregate
kept_each [] rows = []
kept_each (t ∷ ts) [] = []
kept_each (t ∷ ts) (r ∷ rs) = kept_of t.kind r ∷ kept_each ts rs

-- and after further rows were added to each
abbrev pub added_each : List Aggregate → List (List (List ℤ)) → List Aggregate
added_each [] rows = []
added_each (k ∷ ks) [] = []
added_each (k ∷ ks) (r ∷ rs) = added_all k r ∷ added_each ks rs

-- the rows of one text more were added, those of each section to its table
pub record IsOneMore (old : Merging) (out : List ℕ) (new : Merging) : Type 0 where
  pub rows : List (List (List ℤ))
  pub has : HasRows old.tables out rows
  pub kept : new.kept ≡ added_each old.kept rows

-- the rows of these texts were added, and no others
pub record HasAdded (m : Merging) (outs : List (List ℕ)) : Type 0 where
  pub rows : List (List (List ℤ))
  pub added : AreAdded m.tables outs rows
  pub kept : m.kept ≡ kept_each m.tables rows
