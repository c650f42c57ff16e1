-- Which input of a plan is a stream.
use Rattle.std.specs.Prelude.{◌≡◌, ℕ, ◌<◌, List, Option, Some, None, length, slice_get}
use Rattle.river_base.specs.declared.kind.FlatType.TheVariants.{Rows, Stream, Relation}
use Rattle.river_base.specs.declared.kind.QueueType.{QueueType}
use Rattle.river_base.specs.declared.kind.QueueType.TheVariants.{Flat as FlatOf, Pack as PackOf}
use Rattle.river_plan.specs.declared.plan.Decl.{Decl}

-- the type is that of a stream
abbrev pub IsStream : QueueType → Type 0
IsStream (FlatOf (Rows w)) = ⊥
IsStream (FlatOf (Stream w)) = Unit {0}
IsStream (FlatOf (Relation w)) = ⊥
IsStream (PackOf t) = ⊥

-- no input of the first n is a stream
abbrev pub NoStream : ℕ → List Decl → Type 0
NoStream n ds = (i : ℕ) (d : Decl) → i < n → slice_get ds i ≡ Some d → IsStream d.kind → ⊥

-- the place of an input that is a stream, or none is one
abbrev pub IsStreamAt : List Decl → Option ℕ → Type 0
IsStreamAt ds None = NoStream (length ds) ds
IsStreamAt ds (Some i) = (d : Decl) × (slice_get ds i ≡ Some d) × IsStream d.kind
