-- Which contents inputs of these types may have.
use Rattle.std.specs.Prelude.{List, [], ◌∷◌, map}
use Rattle.river_base.specs.Held.{HaveWidth}
use Rattle.river_base.specs.declared.kind.FlatType.TheVariants.{Rows, Stream, Relation}
use Rattle.river_base.specs.declared.kind.QueueType.{QueueType}
use Rattle.river_base.specs.declared.kind.QueueType.TheVariants.{Flat as FlatOf, Pack as PackOf}
use Rattle.csv_streams.specs.Timed.{Entry}
use Rattle.river_plan.specs.declared.plan.Decl.{Decl}
use Rattle.river_road.specs.declared.content.FileContent.{FileContent}
use Rattle.river_road.specs.declared.content.FileContent.TheVariants.{Rows as Plain, Timed}

-- rows of the width, and those of a stream with timestamps; no input is of another type
abbrev pub IsContent : QueueType → FileContent → Type 0
IsContent (FlatOf (Rows w)) (Plain rows) = HaveWidth w rows
IsContent (FlatOf (Rows w)) (Timed rows) = ⊥
IsContent (FlatOf (Stream w)) (Plain rows) = ⊥
IsContent (FlatOf (Stream w)) (Timed rows) = HaveWidth w (map (λ (e : Entry). e.1) rows)
IsContent (FlatOf (Relation w)) content = ⊥
IsContent (PackOf t) content = ⊥

-- there is one for each input, which fits its type
abbrev pub AreContents : List Decl → List FileContent → Type 0
AreContents [] [] = Unit {0}
AreContents [] (f ∷ files) = ⊥
AreContents (d ∷ ds) [] = ⊥
AreContents (d ∷ ds) (f ∷ files) = IsContent d.kind f × AreContents ds files
