-- The stream that an `add` names.
use Rattle.std.specs.Prelude.{◌≡◌, ◌<◌, ℕ, suc, ℤ, List, length, take, Option, Some, None, Err}
use Rattle.std.proofs.Common.{get_or}
use Rattle.river_plan.specs.Forms.{Name}
use Rattle.params_text.specs.Program.{unit_form}
use Rattle.params_text.specs.declared.program.Unit as code_unit
use Rattle.params_model.specs.Environment.{bound}
use Rattle.params_model.specs.declared.fault.Fault.TheVariants.{UnknownName}
use Rattle.params_model.specs.Making.{Made, make}
use Rattle.params_front.specs.Standing.{adding, source_at}

-- an instance of the stream is one of this unit, which sees the units above it; or there is no such stream
abbrev pub Finds : List code_unit.Unit → Name → Option ℕ → Type 0
Finds us n None =
    (sizes : List ℕ) (depth : ℕ) (zs : List ℤ) (m : Made) → adding us sizes depth n zs m ≡ Err (record { unit = 0; fault = UnknownName })
Finds us n (Some i) =
    (i < length us)
    × ((sizes : List ℕ) (depth : ℕ) (zs : List ℤ) (m : Made) (u : code_unit.Unit) → u ≡ get_or us i u
    → adding us sizes depth n zs m
    ≡ make (adding (take i us) sizes (suc depth)) (source_at i sizes (unit_form u)) depth (bound u.params.items zs) m)
