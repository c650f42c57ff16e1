-- The first states of a plan's operators.
use Rattle.std.specs.Prelude.{◌≡◌, ℕ, List, [], length, Some, slice_get}
use Rattle.river_base.specs.Places.{list_at}
use Rattle.river_base.specs.declared.kind.QueueType.{QueueType}
use Rattle.river_kernels.specs.declared.types.VarKind.{VarKind}
use Rattle.river_kernels.specs.Fits.{Fits}
use Rattle.river_kernels.specs.Kern.{Kern}
use Rattle.river_plan.specs.Forms.{OpForm}
use Rattle.brooklet_model.specs.Fire.{first_kept}
use Rattle.brooklet_model.specs.Shapes.{IsFormed}
use Rattle.brooklet_model.specs.Typed.{IsStart}
use Rattle.brooklet_step.specs.declared.state.State.{State}
use Rattle.brooklet_step.specs.Given.{FitState, StandsAfter}

-- each kernel fits some types
pub record CanStart (ops : List OpForm) : Type 0 where
  pub formed : (o : ℕ) (op : OpForm) → slice_get ops o ≡ Some op → IsFormed op.kernel

-- firings may begin at the definition's first states; the states stand for these, before any firing, and fit, under each choice of types
pub record AreFirstStates (k : Kern) (st : List State) : Type 0 where
  pub start : (reads : List QueueType) → IsStart k reads (first_kept k)
  pub after : (reads : List QueueType) → StandsAfter k reads (first_kept k) st []
  pub again : (reads writes : List QueueType) (vars : List VarKind) → Fits k reads writes vars → FitState k reads st

-- there are states for each operator, and they stand for its first ones
pub record AreFirst (ops : List OpForm) (states : List (List State)) : Type 0 where
  pub count : length states ≡ length ops
  pub stand : (o : ℕ) (op : OpForm) → slice_get ops o ≡ Some op → AreFirstStates op.kernel (list_at states o)
