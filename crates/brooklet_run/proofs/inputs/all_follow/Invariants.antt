use Rattle.std.proofs.Common.{◌≡◌, ℕ, ◌<◌, Some}
use Rattle.std.specs.Prelude.{slice_get}
use Rattle.river_base.specs.Places.{list_at}
use Rattle.river_plan.specs.declared.plan.Decl.{Decl}
use Rattle.brooklet_model.specs.Fit.{HasInstants, instants_in}
use Rattle.brooklet_run.proofs.inputs.all_follow.Given as goal

abbrev pub invariant-loop-place : goal.invariant-loop-place
invariant-loop-place l = (i : ℕ) → i < l.place → (d : Decl) → slice_get l.decls i ≡ Some d → HasInstants d.kind (instants_in l.first) (list_at l.inputs i)
