-- What judging answers.
use Rattle.std.specs.Prelude.{◌≡◌, ℕ, Result, Ok, Err}
use Rattle.params_model.specs.Judged.{Judgement, no_fault}
use Rattle.params_model.specs.declared.fault.Fault.{Fault}
use Rattle.params_model.specs.declared.fault.Refusal.{Refusal}
use Rattle.params_build.specs.declared.refused.Refused.{Refused}
use Rattle.params_build.specs.declared.refused.Refused.TheVariants as refused
use Rattle.params_build.specs.declared.refused.RefusedUnit.{RefusedUnit}
use Rattle.params_build.specs.declared.refused.RefusedUnit.TheVariants as of_unit

-- this is why a program is refused; want of memory says nothing
abbrev pub IsWhyRefused : {A : Type 0} → Result A Refusal → Refused → Type 0
IsWhyRefused r (refused.Program e) = r ≡ Err e
IsWhyRefused r refused.NoMemory = Unit {0}

-- the fault of unit k is the program's
abbrev pub refused_in : ℕ → RefusedUnit → Refused
refused_in k (of_unit.Fault f) = refused.Program (record { unit = k; fault = f })
refused_in k of_unit.NoMemory = refused.NoMemory

-- a part of unit k is judged as it is defined
abbrev pub JudgesAlways : ℕ → Result (Unit {0}) Fault → Judgement → Type 0
JudgesAlways k (Ok u) j = j ≡ no_fault
JudgesAlways k (Err f) j = j ≡ Err (record { unit = k; fault = f })

-- so it is, or there was no memory
abbrev pub Judges : ℕ → Result (Unit {0}) RefusedUnit → Judgement → Type 0
Judges k (Ok u) j = j ≡ no_fault
Judges k (Err e) j = IsWhyRefused j (refused_in k e)

-- all units are
abbrev pub JudgesAll : Result (Unit {0}) Refused → Judgement → Type 0
JudgesAll (Ok u) j = j ≡ no_fault
JudgesAll (Err e) j = IsWhyRefused j e
