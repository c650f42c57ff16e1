-- Plans that are ready to be run in place of a program.
use Rattle.std.proofs.Common.{List, sym, subst}
use Rattle.std.specs.Prelude.{ℕ, Result, Ok, Err}
use Rattle.brooklet_model.specs.Fit.{Fit}
use Rattle.river_base.specs.declared.item.Item as item
use Rattle.river_outside.specs.Passes.{StandsFor}
use Rattle.river_plan.specs.Caps.{AreCaps}
use Rattle.river_plan.specs.Forms.{PlanForm}
use Rattle.river_plan.specs.declared.caps.Cap.{Cap}
use Rattle.river_road.specs.Contents.{AreContents}
use Rattle.river_road.specs.Supplied.{Supplied, HasFiles, IsGathered, IsReady}
use Rattle.river_road.specs.Source.{SourceProgram, IsPlanned}
use Rattle.river_road.specs.declared.content.FileContent.{FileContent}
use Rattle.river_road.specs.declared.gathered.Gathered.{Gathered}
use Rattle.river_road.proofs.Items.{contents-fit}

-- a plan with the files of a program's inputs is ready to be run in its place
pub files-gathered : (source : SourceProgram) (plan : PlanForm) (caps : List Cap) (files : List FileContent) (g : Gathered) → IsPlanned caps source plan
    → AreContents plan.inputs files → HasFiles plan caps files g → IsGathered (record { source = source; files = files }) g
files-gathered source plan caps files g of typed has = record {
  planned =
      subst (λ (cs : List Cap). IsPlanned cs source g.plan) (sym has.caps_are)
      (subst (λ (p : PlanForm). IsPlanned caps source p) (sym has.plan_is) of);
  contents = subst (λ (p : PlanForm). AreContents p.inputs files) (sym has.plan_is) typed;
  items = has.items;
}

-- it may be run
pub ready-fits : (g : Gathered) → IsReady g → Fit g.plan g.inputs
ready-fits g (s, is) = subst (λ (l : List (List item.Item)). Fit g.plan l) (sym is.items) (contents-fit g.plan s.files is.contents)

-- where all is gathered, the capacities are within their limits
pub ready-capped : (g : Gathered) → IsReady g → AreCaps g.caps
ready-capped g (s, is) = is.planned.fit

-- what stands for what was found is ready
pub found-ready : (found : Result Supplied (List ℕ)) (g : Gathered) → StandsFor IsGathered found g → IsReady g
found-ready (Ok s) g is = (s, is)
found-ready (Err text) g is = absurd is
