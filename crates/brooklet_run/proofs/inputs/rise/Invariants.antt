use Rattle.std.proofs.Common.{◌≡◌, ℕ, suc, ◌<◌, ◌+◌, ◌<ℤ◌, Some}
use Rattle.std.specs.Prelude.{slice_get}
use Rattle.river_base.specs.declared.item.Item as item
use Rattle.brooklet_model.specs.Fit.{instant_of}
use Rattle.brooklet_run.proofs.inputs.rise.Given as goal

abbrev pub invariant-loop-place : goal.invariant-loop-place
invariant-loop-place l =
    (i : ℕ) → i + 1 < l.place → (x y : item.Item) → slice_get l.items i ≡ Some x → slice_get l.items (suc i) ≡ Some y → instant_of x <ℤ instant_of y
