-- The fault of a record of a job.
use Rattle.std.specs.Prelude.{◌≡◌, ℕ, ℤ, Bool, List, Option, None, Some, Result, Err}
use Rattle.csv_cuts.specs.Faults.{IsOfRecord}
use Rattle.csv_streams.specs.declared.fault.InFault.{InFault}
use Rattle.piece_files.specs.Held.{HeldFiles}
use Rattle.river_plan.specs.Forms.{PlanForm}
use Rattle.saw_front.specs.Meaning.{program_in}
use Rattle.saw_model.specs.Meaning.{width}
use Rattle.piece_jobs.specs.Next.{HasFaultOf}
use Rattle.piece_jobs.specs.Plan.{HasPlan, HasNoPlan}

-- the records have the fault of a record, or none that is one
abbrev pub IsFaultIn : Result (List (List ℤ)) InFault → Option InFault → Type 0
IsFaultIn read None = (f : InFault) → read ≡ Err f → IsOfRecord f → ⊥
IsFaultIn read (Some f) = (read ≡ Err f) × IsOfRecord f

-- so of a job
abbrev pub IsFaultOf : HeldFiles → Bool → ℕ → Option InFault → Type 0
IsFaultOf h begins job None = (f : InFault) → HasFaultOf h begins job f → ⊥
IsFaultOf h begins job (Some f) = HasFaultOf h begins job f

-- the width of the program's records, or it is refused
abbrev pub IsWidthOf : HeldFiles → Option ℕ → Type 0
IsWidthOf h None = HasNoPlan h
IsWidthOf h (Some w) = (plan : PlanForm) × (has : HasPlan h plan) × (w ≡ width (program_in has.is.program))
