-- What the grammar sees to in a program with parameters, beside what is judged: names, and how deep expressions are where each
-- parameter counts as 3 deep.
use Rattle.std.specs.Prelude.{◌≡◌, ◌≤◌, true, List, [], ◌∷◌, length, Option, None, Some}
use Rattle.streamit_text.specs.Tree.{Expression}
use Rattle.river_plan.specs.Forms.{Name}
use Rattle.streamit_text.specs.Grammar.{stay_optional}
use Rattle.params_text.specs.Program.{ParamWork, ParamFilter, Body, AFilter, APipeline, ASplitJoin, UnitForm, ParamProgram}
use Rattle.params_model.specs.Making.{SourceUnit}
use Rattle.params_text.specs.Params.{param_depth}
use Rattle.params_text.specs.Told.{IsOwnName, AreOwnNames, IsToldTree, AllBy, OptionalBy}

abbrev pub IsWrittenExpr : List Name → Expression → Type 0
IsWrittenExpr ps t = IsToldTree t × (param_depth ps t ≤ 64)

abbrev pub IsWrittenPrework : List Name → Option ParamWork → Type 0
IsWrittenPrework ps None = Unit {0}
IsWrittenPrework ps (Some w) = AllBy (IsWrittenExpr ps) 16 w.block

pub record IsWrittenFilter (ps : List Name) (t : ParamFilter) : Type 0 where
  pub fields : AreOwnNames t.fields
  pub init : OptionalBy (IsWrittenExpr ps) 16 t.init
  pub stays : stay_optional t.init ≡ true
  pub prework : IsWrittenPrework ps t.prework
  pub work : AllBy (IsWrittenExpr ps) 16 t.work.block

abbrev pub IsWrittenBody : List Name → Body → Type 0
IsWrittenBody ps (AFilter t) = IsWrittenFilter ps t
IsWrittenBody ps (APipeline ss) = Unit {0}
IsWrittenBody ps (ASplitJoin d ss ws) = Unit {0}

-- a stream's name has at most 32 bytes, so that of an instance has at most 40
pub record IsWrittenUnit (u : UnitForm) : Type 0 where
  pub name : IsOwnName u.name
  pub short : length u.name ≤ 32
  pub body : IsWrittenBody u.params u.body

abbrev pub IsWrittenProgram : ParamProgram → Type 0
IsWrittenProgram [] = Unit {0}
IsWrittenProgram (u ∷ us) = IsWrittenUnit u × IsWrittenProgram us

abbrev pub AreWritten : List SourceUnit → Type 0
AreWritten [] = Unit {0}
AreWritten (u ∷ us) = IsWrittenUnit u.stream × AreWritten us
