-- Which inputs fit a plan.
use Rattle.std.specs.Prelude.{◌≡◌, ℤ, pos, ◌<ℤ◌, List, [], ◌∷◌, map}
use Rattle.river_base.specs.declared.item.Item as item
use Rattle.river_base.specs.declared.item.Flat.TheVariants.{One, Batch as Batched, Change as Changed}
use Rattle.river_base.specs.declared.item.Item.TheVariants.{Flat, Pack}
use Rattle.river_base.specs.declared.kind.FlatType.TheVariants.{Rows, Stream, Relation}
use Rattle.river_base.specs.declared.kind.QueueType.{QueueType}
use Rattle.river_base.specs.declared.kind.QueueType.TheVariants.{Flat as FlatOf, Pack as PackOf}
use Rattle.river_plan.specs.declared.plan.Decl.{Decl}
use Rattle.river_plan.specs.Forms.{PlanForm}
use Rattle.brooklet_model.specs.Typed.{AreInputs}

-- the instant of a batch; no other item has one, and 0 stands for it
abbrev pub instant_of : item.Item → ℤ
instant_of (Flat (One row)) = pos 0
instant_of (Flat (Batched b)) = b.at
instant_of (Flat (Changed c)) = pos 0
instant_of (Pack fs) = pos 0

abbrev pub instants_in : List item.Item → List ℤ
instants_in xs = map instant_of xs

-- each is later than the one before it
abbrev pub Rises : List ℤ → Type 0
Rises [] = Unit {0}
Rises (t ∷ []) = Unit {0}
Rises (t ∷ u ∷ ts) = (t <ℤ u) × Rises (u ∷ ts)

-- the items of a stream have these instants
abbrev pub HasInstants : QueueType → List ℤ → List item.Item → Type 0
HasInstants (FlatOf (Rows w)) ts xs = Unit {0}
HasInstants (FlatOf (Stream w)) ts xs = instants_in xs ≡ ts
HasInstants (FlatOf (Relation w)) ts xs = Unit {0}
HasInstants (PackOf t) ts xs = Unit {0}

-- so do those of each input that is a stream
abbrev pub AreInstants : List Decl → List ℤ → List (List item.Item) → Type 0
AreInstants [] ts ls = Unit {0}
AreInstants (d ∷ ds) ts [] = Unit {0}
AreInstants (d ∷ ds) ts (xs ∷ ls) = HasInstants d.kind ts xs × AreInstants ds ts ls

-- one list for each input, each item of the input's type, and all stream inputs have the same ascending instants
pub record Fit (p : PlanForm) (inputs : List (List item.Item)) : Type 0 where
  pub typed : AreInputs p.inputs inputs
  pub instants_of : List ℤ
  pub ascending : Rises instants_of
  pub streams : AreInstants p.inputs instants_of inputs
