-- Constants whose numbers are values: in rates, weights, bounds of loops and arguments.
use Rattle.std.specs.Prelude.{ℕ, List, [], ◌∷◌, Option, Some, None}
use Rattle.streamit_text.specs.Tree.{Expression}
use Rattle.params_text.specs.Grammar.{IsText}
use Rattle.params_text.specs.Program.{ParamWork, ParamFilter, Step, Add, Loop, Steps, End, Then, Dealing, Copies, Turns, Body, AFilter, APipeline, ASplitJoin, ParamProgram}
use Rattle.params_model.specs.Laws.{HasValues, AreFit}

-- a rate
abbrev pub IsFitOption : Option Expression → Type 0
IsFitOption None = Unit {0}
IsFitOption (Some c) = HasValues c

-- weights
abbrev pub AreFitOption : Option (List Expression) → Type 0
AreFitOption None = Unit {0}
AreFitOption (Some cs) = AreFit cs

abbrev pub IsFitDealing : Dealing → Type 0
IsFitDealing Copies = Unit {0}
IsFitDealing (Turns ws) = AreFitOption ws

pub record IsFitWork (w : ParamWork) : Type 0 where
  pub push : IsFitOption w.push
  pub pop : IsFitOption w.pop
  pub peek : IsFitOption w.peek

abbrev pub IsFitPrework : Option ParamWork → Type 0
IsFitPrework None = Unit {0}
IsFitPrework (Some w) = IsFitWork w

pub record IsFitFilter (t : ParamFilter) : Type 0 where
  pub prework : IsFitPrework t.prework
  pub work : IsFitWork t.work

-- arguments and bounds
abbrev mutual
  pub HasFitConstants : Step → Type 0
  HasFitConstants (Add n cs) = AreFit cs
  HasFitConstants (Loop n low upto high ss) = HasValues low × HasValues high × HaveFitConstants ss

  pub HaveFitConstants : Steps → Type 0
  HaveFitConstants End = Unit {0}
  HaveFitConstants (Then s ss) = HasFitConstants s × HaveFitConstants ss

abbrev pub IsFitUnit : Body → Type 0
IsFitUnit (AFilter t) = IsFitFilter t
IsFitUnit (APipeline ss) = HaveFitConstants ss
IsFitUnit (ASplitJoin d ss ws) = IsFitDealing d × HaveFitConstants ss × AreFitOption ws

-- of all units
abbrev pub AreFitUnits : ParamProgram → Type 0
AreFitUnits [] = Unit {0}
AreFitUnits (u ∷ us) = IsFitUnit u.body × AreFitUnits us

-- the grammar sees to it
abbrev pub ConstantsAreFit : Type 0
ConstantsAreFit = (text : List ℕ) (p : ParamProgram) → IsText text p → AreFitUnits p
