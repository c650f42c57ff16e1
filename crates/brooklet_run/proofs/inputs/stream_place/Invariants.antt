use Rattle.std.proofs.Common.{◌≡◌, ℕ, ◌<◌, Some}
use Rattle.std.specs.Prelude.{slice_get}
use Rattle.river_plan.specs.declared.plan.Decl.{Decl}
use Rattle.brooklet_step.specs.Fit.{IsStream}
use Rattle.brooklet_run.proofs.inputs.stream_place.Given as goal

abbrev pub invariant-loop-place : goal.invariant-loop-place
invariant-loop-place l = (i : ℕ) → i < l.place → (d : Decl) → slice_get l.decls i ≡ Some d → IsStream d.kind → ⊥
