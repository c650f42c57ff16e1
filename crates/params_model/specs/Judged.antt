-- Whether a program with parameters is accepted, and what is made of it; or its first fault.
use Rattle.std.specs.Prelude.{ℕ, suc, Bool, true, false, not, ◌&&◌, List, [], ◌∷◌, ◌++◌, length, reverse, nat_eq, Option, Some, None, Result, Ok}
use Rattle.streamit_text.specs.Tree.{Expression}
use Rattle.streamit_text.specs.Tree as tree
use Rattle.river_plan.specs.Forms.{Name}
use Rattle.streamit_text.specs.Tree.{Statement, Declare, Assign, Push, Discard, If, For, Block, Optional, Unwritten, Written}
use Rattle.streamit_model.specs.Meaning.{look}
use Rattle.params_text.specs.Params.{is_one_of}
use Rattle.params_text.specs.Program.{ParamWork, ParamFilter, Step, Add, Loop, Steps, End, Then}
use Rattle.params_text.specs.Program.{Dealing, Copies, Turns, Body, AFilter, APipeline, ASplitJoin, UnitForm, ParamProgram}
use Rattle.params_model.specs.declared.fault.Fault.TheVariants.{UnknownName, NameTwice, Arity, NotConstant, Top}
use Rattle.params_model.specs.declared.fault.Refusal.{Refusal}
use Rattle.params_model.specs.Making.{on_fine, demand, SourceUnit, Made, last_made}

-- the unit has no fault here, or this is its first one
abbrev pub Judgement : Type 0
Judgement = Result (Unit {0}) Refusal

abbrev pub judged_then : Judgement → Judgement → Judgement
judged_then a b = on_fine a (λ x. b)

abbrev pub no_fault : Judgement
no_fault = Ok tt

-- each name of the expression is one of these
abbrev pub are_known : List Name → Expression → Bool
are_known ks (tree.Number v) = true
are_known ks (tree.Name n) = is_one_of ks n
are_known ks (tree.Peek t) = are_known ks t
are_known ks tree.Pop = true
are_known ks (tree.Neg t) = are_known ks t
are_known ks (tree.Not t) = are_known ks t
are_known ks (tree.Bin o a b) = are_known ks a && are_known ks b

abbrev pub all_known : List Name → List Expression → Bool
all_known ks [] = true
all_known ks (c ∷ cs) = are_known ks c && all_known ks cs

abbrev pub known_option : List Name → Option Expression → Bool
known_option ks None = true
known_option ks (Some c) = are_known ks c

abbrev pub all_known_option : List Name → Option (List Expression) → Bool
all_known_option ks None = true
all_known_option ks (Some cs) = all_known ks cs

-- NAMES THAT ARE DECLARED: no parameter twice, no field, local or variable of a loop with a parameter's name

abbrev pub new_names : ℕ → List Name → List Name → Judgement
new_names unit ks [] = no_fault
new_names unit ks (n ∷ ns) = judged_then (demand (not (is_one_of ks n)) unit NameTwice) (new_names unit (ks ++ n ∷ []) ns)

abbrev pub other_names : ℕ → List Name → List Name → Judgement
other_names unit ps [] = no_fault
other_names unit ps (n ∷ ns) = judged_then (demand (not (is_one_of ps n)) unit NameTwice) (other_names unit ps ns)

abbrev mutual
  pub statement_judged : ℕ → List Name → Statement → Judgement
  statement_judged unit ps (Declare n t) = demand (not (is_one_of ps n)) unit NameTwice
  statement_judged unit ps (Assign n t) = demand (not (is_one_of ps n)) unit NotConstant
  statement_judged unit ps (Push t) = no_fault
  statement_judged unit ps Discard = no_fault
  statement_judged unit ps (If t a b) = judged_then (block_judged unit ps a) (optional_judged unit ps b)
  statement_judged unit ps (For n low upto high b) = judged_then (demand (not (is_one_of ps n)) unit NameTwice) (block_judged unit ps b)

  pub block_judged : ℕ → List Name → Block → Judgement
  block_judged unit ps tree.End = no_fault
  block_judged unit ps (tree.Then c b) = judged_then (statement_judged unit ps c) (block_judged unit ps b)

  pub optional_judged : ℕ → List Name → Optional → Judgement
  optional_judged unit ps Unwritten = no_fault
  optional_judged unit ps (Written b) = block_judged unit ps b

abbrev pub rates_judged : ℕ → List Name → ParamWork → Judgement
rates_judged unit ps w = demand (known_option ps w.push && (known_option ps w.pop && known_option ps w.peek)) unit UnknownName

-- the rates, then the block
abbrev pub work_judged : ℕ → List Name → ParamWork → Judgement
work_judged unit ps w = judged_then (rates_judged unit ps w) (block_judged unit ps w.block)

abbrev pub prework_judged : ℕ → List Name → Option ParamWork → Judgement
prework_judged unit ps None = no_fault
prework_judged unit ps (Some w) = work_judged unit ps w

abbrev pub filter_judged : ℕ → List Name → ParamFilter → Judgement
filter_judged unit ps t =
    judged_then (other_names unit ps t.fields)
    (judged_then (optional_judged unit ps t.init) (judged_then (prework_judged unit ps t.prework) (work_judged unit ps t.work)))

-- STEPS: names that are known stand in order, the newest last; the streams above have these names and so many parameters, the newest first

abbrev pub Above : Type 0
Above = List (Name × ℕ)

abbrev pub has_arity : Option ℕ → ℕ → Bool
has_arity None n = false
has_arity (Some m) n = nat_eq m n

abbrev pub is_there : Option ℕ → Bool
is_there None = false
is_there (Some m) = true

abbrev mutual
  pub step_judged : ℕ → Above → List Name → Step → Judgement
  step_judged unit above ks (Add n cs) =
      judged_then (demand (is_there (look above n)) unit UnknownName)
      (judged_then (demand (all_known ks cs) unit UnknownName) (demand (has_arity (look above n) (length cs)) unit Arity))
  step_judged unit above ks (Loop n low upto high ss) =
      judged_then (demand (not (is_one_of ks n)) unit NameTwice)
      (judged_then (demand (are_known ks low && are_known ks high) unit UnknownName) (steps_judged unit above (ks ++ n ∷ []) ss))

  pub steps_judged : ℕ → Above → List Name → Steps → Judgement
  steps_judged unit above ks End = no_fault
  steps_judged unit above ks (Then s ss) = judged_then (step_judged unit above ks s) (steps_judged unit above ks ss)

abbrev pub dealing_judged : ℕ → List Name → Dealing → Judgement
dealing_judged unit ps Copies = no_fault
dealing_judged unit ps (Turns ws) = demand (all_known_option ps ws) unit UnknownName

abbrev pub body_judged : ℕ → Above → List Name → Body → Judgement
body_judged unit above ps (AFilter t) = filter_judged unit ps t
body_judged unit above ps (APipeline ss) = steps_judged unit above ps ss
body_judged unit above ps (ASplitJoin d ss ws) =
    judged_then (dealing_judged unit ps d) (judged_then (steps_judged unit above ps ss) (demand (all_known_option ps ws) unit UnknownName))

-- UNITS: the stream's name, its parameters, and then the rest

abbrev pub unit_judged : ℕ → Above → UnitForm → Judgement
unit_judged unit above u =
    judged_then (demand (not (is_there (look above u.name))) unit NameTwice) (judged_then (new_names unit [] u.params) (body_judged unit above u.params u.body))

-- unit k and those after it
abbrev pub units_judged : ℕ → Above → ParamProgram → Judgement
units_judged k above [] = no_fault
units_judged k above (u ∷ us) = judged_then (unit_judged k above u) (units_judged (suc k) ((u.name, length u.params) ∷ above) us)

-- the last stream has no parameters
abbrev pub has_none : List Name → Bool
has_none [] = true
has_none (p ∷ ps) = false

abbrev pub top_judged : List SourceUnit → Judgement
top_judged [] = no_fault
top_judged (u ∷ us) = demand (has_none u.stream.params) u.unit Top

-- each unit with its number and its bytes
abbrev pub head_or : List ℕ → ℕ
head_or [] = 0
head_or (n ∷ ns) = n

abbrev pub tail_of : List ℕ → List ℕ
tail_of [] = []
tail_of (n ∷ ns) = ns

abbrev pub numbered_from : ℕ → ParamProgram → List ℕ → List SourceUnit
numbered_from k [] sizes = []
numbered_from k (u ∷ us) sizes = record { unit = k; bytes = head_or sizes; stream = u } ∷ numbered_from (suc k) us (tail_of sizes)

-- the newest first
abbrev pub source_units : ParamProgram → List ℕ → List SourceUnit
source_units p sizes = reverse (numbered_from 1 p sizes)

-- what is made of a program whose units have so many bytes, or its first fault
abbrev pub elaborated_program : ParamProgram → List ℕ → Result Made Refusal
elaborated_program p sizes = on_fine (units_judged 1 [] p) (λ x. on_fine (top_judged (source_units p sizes)) (λ y. last_made (source_units p sizes)))
