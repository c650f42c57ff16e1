-- What is true of elaborated programs.
use Rattle.std.specs.Prelude.{◌≡◌, ◌≤◌, ℕ, ℤ, false, List, [], ◌∷◌, map, Option, Some, None, Ok}
use Rattle.river_base.specs.Name.{name_eq}
use Rattle.streamit_text.specs.Tree.{Expression}
use Rattle.streamit_text.specs.Tree as tree
use Rattle.river_plan.specs.Forms.{Name}
use Rattle.streamit_text.specs.Tree.{Statement, Declare, Assign, Push, Discard, If, For, Block, Optional, Unwritten, Written}
use Rattle.streamit_model.specs.Meaning.{program_outputs}
use Rattle.params_text.specs.Program.{Step, Add, Loop, Steps, End, Then, ParamWork, ParamFilter, Body, AFilter, APipeline, ASplitJoin, UnitForm, ParamProgram}
use Rattle.params_model.specs.Meaning.{last_works, params_outputs}
use Rattle.params_model.specs.Making.{SourceUnit, Made, last_made}
use Rattle.params_model.specs.Judged.{elaborated_program}
use Rattle.params_model.specs.Written.{AreWritten, IsWrittenProgram}
use Rattle.params_text.specs.Grammar as source
use Rattle.params_text.specs.Toks.{plain_text}
use Rattle.streamit_text.specs.Grammar.{IsText}
use Rattle.streamit_text.specs.Program.{Program}

-- the name is none of these
abbrev pub Differs : List Name → Name → Type 0
Differs [] n = Unit {0}
Differs (p ∷ ps) n = (name_eq p n ≡ false) × Differs ps n

abbrev pub AllDiffer : List Name → List Name → Type 0
AllDiffer ps [] = Unit {0}
AllDiffer ps (n ∷ ns) = Differs ps n × AllDiffer ps ns

-- no parameter is declared again or assigned
abbrev mutual
  pub SparesOnce : List Name → Statement → Type 0
  SparesOnce ps (Declare n t) = Differs ps n
  SparesOnce ps (Assign n t) = Differs ps n
  SparesOnce ps (Push t) = Unit {0}
  SparesOnce ps Discard = Unit {0}
  SparesOnce ps (If t a b) = SparesAll ps a × SparesOptional ps b
  SparesOnce ps (For n low upto high b) = Differs ps n × SparesAll ps b

  pub SparesAll : List Name → Block → Type 0
  SparesAll ps tree.End = Unit {0}
  SparesAll ps (tree.Then c b) = SparesOnce ps c × SparesAll ps b

  pub SparesOptional : List Name → Optional → Type 0
  SparesOptional ps Unwritten = Unit {0}
  SparesOptional ps (Written b) = SparesAll ps b

abbrev pub SparesPrework : List Name → Option ParamWork → Type 0
SparesPrework ps None = Unit {0}
SparesPrework ps (Some w) = SparesAll ps w.block

pub record SparesFilter (ps : List Name) (t : ParamFilter) : Type 0 where
  pub fields : AllDiffer ps t.fields
  pub init : SparesOptional ps t.init
  pub prework : SparesPrework ps t.prework
  pub work : SparesAll ps t.work.block

-- each number of an argument is a value
abbrev pub HasValues : Expression → Type 0
HasValues (tree.Number v) = v ≤ 9223372036854775807
HasValues (tree.Name n) = Unit {0}
HasValues (tree.Peek t) = Unit {0}
HasValues tree.Pop = Unit {0}
HasValues (tree.Neg t) = HasValues t
HasValues (tree.Not t) = HasValues t
HasValues (tree.Bin o a b) = HasValues a × HasValues b

abbrev pub AreFit : List Expression → Type 0
AreFit [] = Unit {0}
AreFit (c ∷ cs) = HasValues c × AreFit cs

abbrev mutual
  pub IsFitStep : Step → Type 0
  IsFitStep (Add n cs) = AreFit cs
  IsFitStep (Loop n low upto high ss) = AreFitSteps ss

  pub AreFitSteps : Steps → Type 0
  AreFitSteps End = Unit {0}
  AreFitSteps (Then s ss) = IsFitStep s × AreFitSteps ss

-- what the grammar and the judgement see to
abbrev pub IsFine : List Name → Body → Type 0
IsFine ps (AFilter t) = SparesFilter ps t
IsFine ps (APipeline ss) = AreFitSteps ss
IsFine ps (ASplitJoin d ss ws) = AreFitSteps ss

abbrev pub AreFine : List SourceUnit → Type 0
AreFine [] = Unit {0}
AreFine (u ∷ us) = IsFine u.stream.params u.stream.body × AreFine us

abbrev pub unit_streams : List SourceUnit → List UnitForm
unit_streams us = map (λ u. u.stream) us

-- the plain program that is made means what the program with parameters means
abbrev pub ElaborationMeans : Type 0
ElaborationMeans = (us : List SourceUnit) (m : Made) (xs : List ℤ) → AreFine us → last_made us ≡ Ok m
    → program_outputs m.units xs ≡ last_works (unit_streams us) xs

-- each number of an argument of a program is a value, as the grammar has it
abbrev pub IsFitBody : Body → Type 0
IsFitBody (AFilter t) = Unit {0}
IsFitBody (APipeline ss) = AreFitSteps ss
IsFitBody (ASplitJoin d ss ws) = AreFitSteps ss

abbrev pub IsFitProgram : ParamProgram → Type 0
IsFitProgram [] = Unit {0}
IsFitProgram (u ∷ us) = IsFitBody u.body × IsFitProgram us

-- so does that of a program that is accepted
abbrev pub ElaboratedMeans : Type 0
ElaboratedMeans =
    (p : ParamProgram) (sizes : List ℕ) (m : Made) (xs : List ℤ) → IsFitProgram p → elaborated_program p sizes ≡ Ok m
    → program_outputs m.units xs ≡ params_outputs p xs

-- THE TEXT OF WHAT IS MADE

-- it stands for what is made alone, so whatever program it stands for means what the program with parameters means
abbrev pub MadeStands : Type 0
MadeStands =
    (us : List SourceUnit) (m : Made) → AreFine us → AreWritten us → last_made us ≡ Ok m
    → IsText (plain_text m.units) m.units
    × ((q : Program) (xs : List ℤ) → IsText (plain_text m.units) q → program_outputs q xs ≡ last_works (unit_streams us) xs)

-- so does the text of what is made of a program that is accepted
abbrev pub ElaboratedStands : Type 0
ElaboratedStands =
    (p : ParamProgram) (sizes : List ℕ) (m : Made) → IsFitProgram p → IsWrittenProgram p → elaborated_program p sizes ≡ Ok m
    → IsText (plain_text m.units) m.units
    × ((q : Program) (xs : List ℤ) → IsText (plain_text m.units) q → program_outputs q xs ≡ params_outputs p xs)

-- TEXTS

-- the grammar sees to the premises
abbrev pub TextsAreWritten : Type 0
TextsAreWritten = (text : List ℕ) (p : ParamProgram) → source.IsText text p → IsFitProgram p × IsWrittenProgram p
