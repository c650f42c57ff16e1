-- The places of a program with parameters in reading order, each with its unit and with what is known there. The block of a loop is
-- read once; rates are read in the order push, pop, peek, as the tree has them.
use Rattle.std.specs.Prelude.{ℕ, suc, List, [], ◌∷◌, ◌++◌, length, map, Option, Some, None}
use Rattle.river_plan.specs.Forms.{Name}
use Rattle.streamit_text.specs.Tree.{Expression, Statement, Declare, Assign, Push, Discard, If, For, Block, Optional, Unwritten, Written}
use Rattle.streamit_text.specs.Tree as tree
use Rattle.params_text.specs.Program.{ParamWork, ParamFilter, Step, Add, Loop, Steps, End, Then}
use Rattle.params_text.specs.Program.{Dealing, Copies, Turns, Body, AFilter, APipeline, ASplitJoin, UnitForm, ParamProgram}
use Rattle.params_model.specs.Judged.{Above}

-- what stands at a place
pub data Spot : Type 0 where
  -- the name of the stream that is declared, and those above with the numbers of their parameters
  Names : Name → Above → Spot
  -- a parameter, and those before it
  Takes : Name → List Name → Spot
  -- a field, a local or the variable of a loop of statements, and the parameters
  Declares : Name → List Name → Spot
  -- a name that is assigned, and the parameters
  Sets : Name → List Name → Spot
  -- a name in a constant, and the names that are known there
  Uses : Name → List Name → Spot
  -- the variable of a loop of steps, and the names that are known there
  Loops : Name → List Name → Spot
  -- a stream that is added, and those above
  Adds : Name → Above → Spot
  -- the number of its arguments
  Gives : Name → ℕ → Above → Spot

pub record Place : Type 0 where
  pub unit : ℕ
  pub spot : Spot

-- CONSTANTS

abbrev pub uses : List Name → Expression → List Spot
uses ks (tree.Number v) = []
uses ks (tree.Name n) = Uses n ks ∷ []
uses ks (tree.Peek t) = uses ks t
uses ks tree.Pop = []
uses ks (tree.Neg t) = uses ks t
uses ks (tree.Not t) = uses ks t
uses ks (tree.Bin o a b) = uses ks a ++ uses ks b

abbrev pub uses_in_all : List Name → List Expression → List Spot
uses_in_all ks [] = []
uses_in_all ks (c ∷ cs) = uses ks c ++ uses_in_all ks cs

abbrev pub option_uses : List Name → Option Expression → List Spot
option_uses ks None = []
option_uses ks (Some c) = uses ks c

abbrev pub option_all_uses : List Name → Option (List Expression) → List Spot
option_all_uses ks None = []
option_all_uses ks (Some cs) = uses_in_all ks cs

-- FILTERS

abbrev pub declared_spots : List Name → List Name → List Spot
declared_spots ps [] = []
declared_spots ps (n ∷ ns) = Declares n ps ∷ declared_spots ps ns

abbrev mutual
  pub statement_spots : List Name → Statement → List Spot
  statement_spots ps (Declare n t) = Declares n ps ∷ []
  statement_spots ps (Assign n t) = Sets n ps ∷ []
  statement_spots ps (Push t) = []
  statement_spots ps Discard = []
  statement_spots ps (If t a b) = block_spots ps a ++ optional_spots ps b
  statement_spots ps (For n low upto high b) = Declares n ps ∷ block_spots ps b

  pub block_spots : List Name → Block → List Spot
  block_spots ps tree.End = []
  block_spots ps (tree.Then c b) = statement_spots ps c ++ block_spots ps b

  pub optional_spots : List Name → Optional → List Spot
  optional_spots ps Unwritten = []
  optional_spots ps (Written b) = block_spots ps b

abbrev pub rate_spots : List Name → ParamWork → List Spot
rate_spots ps w = option_uses ps w.push ++ (option_uses ps w.pop ++ option_uses ps w.peek)

abbrev pub work_spots : List Name → ParamWork → List Spot
work_spots ps w = rate_spots ps w ++ block_spots ps w.block

abbrev pub prework_spots : List Name → Option ParamWork → List Spot
prework_spots ps None = []
prework_spots ps (Some w) = work_spots ps w

abbrev pub filter_spots : List Name → ParamFilter → List Spot
filter_spots ps t = declared_spots ps t.fields ++ (optional_spots ps t.init ++ (prework_spots ps t.prework ++ work_spots ps t.work))

-- STEPS

abbrev mutual
  pub step_spots : Above → List Name → Step → List Spot
  step_spots above ks (Add n cs) = Adds n above ∷ (uses_in_all ks cs ++ Gives n (length cs) above ∷ [])
  step_spots above ks (Loop n low upto high ss) = Loops n ks ∷ ((uses ks low ++ uses ks high) ++ steps_spots above (ks ++ n ∷ []) ss)

  pub steps_spots : Above → List Name → Steps → List Spot
  steps_spots above ks End = []
  steps_spots above ks (Then s ss) = step_spots above ks s ++ steps_spots above ks ss

abbrev pub dealing_spots : List Name → Dealing → List Spot
dealing_spots ps Copies = []
dealing_spots ps (Turns ws) = option_all_uses ps ws

-- UNITS

abbrev pub body_spots : Above → List Name → Body → List Spot
body_spots above ps (AFilter t) = filter_spots ps t
body_spots above ps (APipeline ss) = steps_spots above ps ss
body_spots above ps (ASplitJoin d ss ws) = dealing_spots ps d ++ (steps_spots above ps ss ++ option_all_uses ps ws)

-- the parameters, behind these
abbrev pub parameter_spots : List Name → List Name → List Spot
parameter_spots ks [] = []
parameter_spots ks (n ∷ ns) = Takes n ks ∷ parameter_spots (ks ++ n ∷ []) ns

abbrev pub unit_spots : Above → UnitForm → List Spot
unit_spots above u = Names u.name above ∷ (parameter_spots [] u.params ++ body_spots above u.params u.body)

abbrev pub spots_in_unit : ℕ → List Spot → List Place
spots_in_unit k ss = map (λ s. record { unit = k; spot = s }) ss

-- unit k and those behind it
abbrev pub places_from : ℕ → Above → ParamProgram → List Place
places_from k above [] = []
places_from k above (u ∷ us) = spots_in_unit k (unit_spots above u) ++ places_from (suc k) ((u.name, length u.params) ∷ above) us

abbrev pub places_of : ParamProgram → List Place
places_of p = places_from 1 [] p
