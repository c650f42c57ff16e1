-- A product with a selection behind it, or with a kernel behind it that begins with a selection.
use Rattle.std.specs.Prelude.{◌≡◌, ℕ, List, [], ◌∷◌, map, Box}
use Rattle.std.specs.Global.{Global}
use Rattle.river_base.specs.declared.item.Change.{Change}
use Rattle.river_base.specs.declared.item.Flat.TheVariants.{Change as Changed}
use Rattle.river_base.specs.declared.item.Item as item
use Rattle.river_base.specs.declared.item.Item.TheVariants.{Flat}
use Rattle.work_code.specs.declared.expr.Expr.{Expr}
use Rattle.work_code.specs.Term.{Term}
use Rattle.kern_bags.specs.Following.{CrossKept, as_changes, put_change}
use Rattle.kern_bags.specs.Joined.{CanJoinChanges, kept_of}
use Rattle.river_kernels.specs.declared.kernel.Kernel.{Kernel}
use Rattle.river_kernels.specs.declared.kernel.Kernel.TheVariants as kernel
use Rattle.river_kernels.specs.Kern.{cross}
use Rattle.brooklet_model.specs.Firings.{gives}
use Rattle.brooklet_step.specs.declared.emit.Emit.{Emit}
use Rattle.brooklet_step.specs.declared.state.State.{State}
use Rattle.brooklet_step.specs.declared.state.State.TheVariants as state
use Rattle.brooklet_step.specs.Given.{FiresAt}
use Rattle.brooklet_step.specs.Took.{Took}

-- the kernel is a selection
pub record IsSelection (k : Kernel) : Type 0 where
  pub cond : Expr
  pub is : k ≡ kernel.Select cond

-- the first is a product, and the second a selection
pub record IsJoin (a b : Kernel) : Type 0 where
  pub product : a ≡ kernel.Cross
  pub selection : IsSelection b

-- the kernel is two as one, of which the first is a selection
pub record BeginsWithSelection (k : Kernel) : Type 0 where
  pub first : Box Kernel Global
  pub second : Box Kernel Global
  pub at : ℕ
  pub is : k ≡ kernel.Fused first second at
  pub selection : IsSelection first.value

-- the first is a product, and the second begins with a selection
pub record IsNestedJoin (a b : Kernel) : Type 0 where
  pub product : a ≡ kernel.Cross
  pub nested : BeginsWithSelection b

-- lists for the changes that one output port gives
abbrev pub one_port : List Change → Emit
one_port ds = record { outs = as_changes ds ∷ []; adds = [] }

-- the item is a change that the state of a product can take at a port, and the condition reads the rows of both sides
pub record CanKeep (e : Term) (port : ℕ) (i : item.Item) (s : State) : Type 0 where
  pub now : CrossKept
  pub change : Change
  pub code : s ≡ state.Cross now
  pub is : i ≡ Flat (Changed change)
  pub can : CanJoinChanges e (put_change port change now)

-- a product fired on the item, and of each change that it gave, what the condition keeps came to the first port
pub record KeptPairs (e : Term) (port : ℕ) (i : item.Item) (out new : Emit) (s s' : State) : Type 0 where
  pub whole : List Change
  pub took : Took out new (gives 0 (as_changes (map (kept_of e) whole)) [])
  pub fires : FiresAt cross port i (one_port []) (one_port whole) (s ∷ []) (s' ∷ [])
