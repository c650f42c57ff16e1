-- A program with what the files of its inputs have, and a plan that is ready to be run in its place.
use Rattle.std.specs.Prelude.{◌≡◌, ℕ, List, Bool}
use Rattle.river_plan.specs.Forms.{PlanForm}
use Rattle.river_plan.specs.declared.caps.Cap.{Cap}
use Rattle.river_road.specs.Contents.{AreContents}
use Rattle.river_road.specs.Inputs.{all_items}
use Rattle.river_road.specs.Source.{SourceProgram, IsPlanned, printed}
use Rattle.river_road.specs.declared.content.FileContent.{FileContent}
use Rattle.river_road.specs.declared.gathered.Gathered.{Gathered}

-- a program, and what the files of its inputs have
pub record Supplied : Type 0 where
  pub source : SourceProgram
  pub files : List FileContent

-- what is printed of it, and the firings of its plan where they are asked for
abbrev pub printed_for : Bool → Supplied → List ℕ
printed_for counted s = printed s.source counted s.files

-- this plan, with these capacities and the items of these files
pub record HasFiles (plan : PlanForm) (caps : List Cap) (files : List FileContent) (g : Gathered) : Type 0 where
  pub plan_is : g.plan ≡ plan
  pub caps_are : g.caps ≡ caps
  pub items : g.inputs ≡ all_items files

-- a plan that may be run in place of the program, with the capacities that the program gives, and the items of these files
pub record IsGathered (s : Supplied) (g : Gathered) : Type 0 where
  pub planned : IsPlanned g.caps s.source g.plan
  pub contents : AreContents g.plan.inputs s.files
  pub items : g.inputs ≡ all_items s.files

-- there is such a program
abbrev pub IsReady : Gathered → Type 0
IsReady g = (s : Supplied) × IsGathered s g
