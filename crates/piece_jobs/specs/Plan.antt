-- The program of a work folder.
use Rattle.std.specs.Prelude.{◌≡◌, ⊤, ℕ, List, Ok, Err}
use Rattle.river_outside.specs.Fetched.{FetchesAll}
use Rattle.river_plan.specs.Forms.{PlanForm}
use Rattle.saw_front.specs.Meaning.{Accepted, plan_in, compiled}
use Rattle.saw_front.specs.declared.fault.SawFault.{SawFault}
use Rattle.saw_front.specs.declared.fault.SawFault.TheVariants as saw
use Rattle.text_forms.specs.declared.text_fault.TextFault.TheVariants as unread
use Rattle.piece_files.specs.Held.{HeldFiles}
use Rattle.piece_files.specs.declared.file.JobFile.TheVariants.{Program}
use Rattle.piece_work.specs.declared.fault.WorkFault.{WorkFault}
use Rattle.piece_work.specs.declared.fault.WorkFault.TheVariants as why

-- how many bytes the text of a program has at most
abbrev pub most_text : ℕ
most_text = 67108864

-- what is answered where a text has no program
abbrev pub of_text : SawFault → WorkFault
of_text (saw.Text unread.NoMemory) = why.NoMemory
of_text _ = why.Program

-- a text is compiled to a program, and this is its plan
pub record IsPlanOf (text : List ℕ) (plan : PlanForm) : Type 0 where
  pub program : Accepted
  pub compiles : compiled text ≡ Ok program
  pub is : plan ≡ plan_in program

-- it is the plan of some program
pub record IsPlanned (plan : PlanForm) : Type 0 where
  pub text : List ℕ
  pub is : IsPlanOf text plan

-- the text has no program
pub record HasNoProgram (text : List ℕ) : Type 0 where
  pub fault : SawFault
  pub is : compiled text ≡ Err fault

-- why a text has no plan: it is refused
abbrev pub WhyRefused : List ℕ → WorkFault → Type 0
WhyRefused text why.Program = HasNoProgram text
WhyRefused text why.NoMemory = ⊤
WhyRefused text _ = ⊥

-- the folder has the text of a program, and this is its plan
pub record HasPlan (h : HeldFiles) (plan : PlanForm) : Type 0 where
  pub text : List ℕ
  pub reads : FetchesAll (h Program) most_text text
  pub is : IsPlanOf text plan

-- it has a text that is refused
pub record HasNoPlan (h : HeldFiles) : Type 0 where
  pub text : List ℕ
  pub reads : FetchesAll (h Program) most_text text
  pub refused : HasNoProgram text
