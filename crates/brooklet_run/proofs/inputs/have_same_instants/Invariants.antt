use Rattle.std.proofs.Common.{◌≡◌, ℕ, ◌<◌, Some}
use Rattle.std.specs.Prelude.{slice_get}
use Rattle.river_base.specs.declared.item.Item as item
use Rattle.brooklet_model.specs.Fit.{instant_of}
use Rattle.brooklet_run.proofs.inputs.have_same_instants.Given as goal

abbrev pub invariant-loop-place : goal.invariant-loop-place
invariant-loop-place l = (i : ℕ) → i < l.place → (x y : item.Item) → slice_get l.a i ≡ Some x → slice_get l.b i ≡ Some y → instant_of x ≡ instant_of y
