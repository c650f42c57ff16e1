-- What happens while the instances of a program are made, in order, as though nothing were refused; and which of it is wrong. So the
-- first fault of elaboration is said apart from what is made.
use Rattle.std.specs.Prelude.{◌≡◌, ◌<◌, ◌≤◌, ◌⊎◌, ◌↔◌, ℕ, suc, ℤ, pos, negsuc, ◌+◌, List, [], ◌∷◌, ◌++◌, map, if◌then◌else◌, Option, Some, None, Ok, Err}
use Rattle.river_base.specs.Name.{name_eq}
use Rattle.streamit_text.specs.Tree.{Expression}
use Rattle.river_plan.specs.Forms.{Name}
use Rattle.streamit_model.specs.Meaning.{turns_between}
use Rattle.params_text.specs.Program.{ParamWork, ParamFilter, Step, Add, Loop, Steps, End, Then, Dealing, Copies, Turns, Body, AFilter, APipeline, ASplitJoin, ParamProgram}
use Rattle.params_model.specs.Environment.{Environment, bound, value}
use Rattle.params_model.specs.Judged.{no_fault, units_judged, source_units, elaborated_program}
use Rattle.params_model.specs.declared.fault.Fault.TheVariants.{UnknownName, Top, Range, Empty, Budget}
use Rattle.params_model.specs.declared.fault.Refusal.{Refusal}
use Rattle.params_model.specs.Making.{SourceUnit, Made}

pub data Event : Type 0 where
  -- the last unit, and its parameters
  Tops : ℕ → List Name → Event
  -- an instance of a unit of so many bytes is begun, so deep
  Begins : ℕ → ℕ → ℕ → Event
  -- a turn of a loop of steps is begun
  Goes : ℕ → Event
  -- rates, weights or bounds have these values
  Counts : ℕ → List ℤ → Event
  -- a pipeline or a split-join has so many children
  Closes : ℕ → ℕ → Event
  -- a stream is added that is not there, as in no program whose text has no fault
  Lacks : Event

-- VALUES

abbrev pub option_value : Environment → Option Expression → List ℤ
option_value env None = []
option_value env (Some c) = value env c ∷ []

abbrev pub option_values : Environment → Option (List Expression) → List ℤ
option_values env None = []
option_values env (Some cs) = map (value env) cs

abbrev pub dealing_values : Environment → Dealing → List ℤ
dealing_values env Copies = []
dealing_values env (Turns ws) = option_values env ws

abbrev pub work_values : Environment → ParamWork → List ℤ
work_values env w = option_value env w.push ++ (option_value env w.pop ++ option_value env w.peek)

abbrev pub prework_values : Environment → Option ParamWork → List ℤ
prework_values env None = []
prework_values env (Some w) = work_values env w

abbrev pub filter_values : Environment → ParamFilter → List ℤ
filter_values env t = prework_values env t.prework ++ work_values env t.work

-- CHILDREN

-- so many in all turns
abbrev pub in_turns : (ℕ → ℕ) → List ℕ → ℕ
in_turns f [] = 0
in_turns f (v ∷ vs) = f v + in_turns f vs

abbrev mutual
  pub step_children : Environment → Step → ℕ
  step_children env (Add n cs) = 1
  step_children env (Loop n low upto high ss) =
      in_turns (λ v. steps_children ((n, pos v) ∷ env) ss) (turns_between (value env low) upto (value env high))

  pub steps_children : Environment → Steps → ℕ
  steps_children env End = 0
  steps_children env (Then c ss) = step_children env c + steps_children env ss

-- WHAT HAPPENS

-- while the instance is made that an `add` names, under the values of its arguments
abbrev pub Adds : Type 0
Adds = Name → List ℤ → List Event

abbrev pub turn_events : ℕ → (ℕ → List Event) → List ℕ → List Event
turn_events unit f [] = []
turn_events unit f (v ∷ vs) = Goes unit ∷ (f v ++ turn_events unit f vs)

abbrev mutual
  pub step_events : Adds → ℕ → Environment → Step → List Event
  step_events adds unit env (Add n cs) = adds n (map (value env) cs)
  step_events adds unit env (Loop n low upto high ss) =
      Counts unit (value env low ∷ value env high ∷ [])
      ∷ turn_events unit (λ v. steps_events adds unit ((n, pos v) ∷ env) ss) (turns_between (value env low) upto (value env high))

  pub steps_events : Adds → ℕ → Environment → Steps → List Event
  steps_events adds unit env End = []
  steps_events adds unit env (Then c ss) = step_events adds unit env c ++ steps_events adds unit env ss

abbrev pub children_events : Adds → ℕ → Environment → Steps → List Event
children_events adds unit env ss = steps_events adds unit env ss ++ Closes unit (steps_children env ss) ∷ []

abbrev pub body_events : Adds → ℕ → Environment → Body → List Event
body_events adds unit env (AFilter t) = Counts unit (filter_values env t) ∷ []
body_events adds unit env (APipeline ss) = children_events adds unit env ss
body_events adds unit env (ASplitJoin d ss ws) =
    Counts unit (dealing_values env d) ∷ (children_events adds unit env ss ++ Counts unit (option_values env ws) ∷ [])

abbrev pub make_events : Adds → SourceUnit → ℕ → Environment → List Event
make_events adds u depth env = Begins u.unit u.bytes depth ∷ body_events adds u.unit env u.stream.body

-- the streams are given with the newest first
abbrev pub instance_events : List SourceUnit → ℕ → Adds
instance_events [] depth n zs = Lacks ∷ []
instance_events (u ∷ us) depth n zs =
    if name_eq u.stream.name n then make_events (instance_events us (suc depth)) u depth (bound u.stream.params zs)
    else instance_events us depth n zs

abbrev pub program_events : List SourceUnit → List Event
program_events [] = Lacks ∷ []
program_events (u ∷ us) = Tops u.unit u.stream.params ∷ make_events (instance_events us 2) u 1 []

-- WHICH OF IT IS WRONG

-- what happened before: how many instances were begun, the bytes of their units, and how many turns were begun
pub record Before : Type 0 where
  pub begun : ℕ
  pub bytes : ℕ
  pub turns : ℕ

abbrev pub nothing : Before
nothing = record { begun = 0; bytes = 0; turns = 0 }

abbrev pub after_event : Before → Event → Before
after_event t (Tops unit ps) = t
after_event t (Begins unit bytes depth) = record t { begun = suc t.begun; bytes = t.bytes + bytes }
after_event t (Goes unit) = record t { turns = suc t.turns }
after_event t (Counts unit zs) = t
after_event t (Closes unit n) = t
after_event t Lacks = t

-- a number is below 0 or above 65,536
abbrev pub IsOut : ℤ → Type 0
IsOut (pos n) = 65536 < n
IsOut (negsuc n) = Unit {0}

-- one of these is
abbrev pub SomeOut : List ℤ → Type 0
SomeOut [] = ⊥
SomeOut (z ∷ zs) = IsOut z ⊎ SomeOut zs

-- the last unit has parameters; 1,024 instances were begun, or this one lies more than 64 deep, or brings the bytes above 1,048,576;
-- 65,536 turns were begun; a number is out of its range; there is no child
abbrev pub IsWrong : Before → Event → Type 0
IsWrong t (Tops unit ps) = ps ≡ [] → ⊥
IsWrong t (Begins unit bytes depth) = (1024 ≤ t.begun) ⊎ ((64 < depth) ⊎ (1048576 < t.bytes + bytes))
IsWrong t (Goes unit) = 65536 ≤ t.turns
IsWrong t (Counts unit zs) = SomeOut zs
IsWrong t (Closes unit n) = n ≡ 0
IsWrong t Lacks = Unit {0}

-- the fault that this is, and its unit
abbrev pub refusal_at : Event → Refusal
refusal_at (Tops unit ps) = record { unit = unit; fault = Top }
refusal_at (Begins unit bytes depth) = record { unit = unit; fault = Budget }
refusal_at (Goes unit) = record { unit = unit; fault = Budget }
refusal_at (Counts unit zs) = record { unit = unit; fault = Range }
refusal_at (Closes unit n) = record { unit = unit; fault = Empty }
refusal_at Lacks = record { unit = 0; fault = UnknownName }

-- nothing of it is wrong
abbrev pub AllRight : Before → List Event → Type 0
AllRight t [] = Unit {0}
AllRight t (e ∷ es) = (IsWrong t e → ⊥) × AllRight (after_event t e) es

-- the first that is wrong is refused so
abbrev pub IsFirstWrong : Before → List Event → Refusal → Type 0
IsFirstWrong t [] r = ⊥
IsFirstWrong t (e ∷ es) r = (IsWrong t e × (r ≡ refusal_at e)) ⊎ ((IsWrong t e → ⊥) × IsFirstWrong (after_event t e) es r)

-- THE LAWS: a program whose text has no fault is refused exactly where something is wrong, with the first that is, and made exactly
-- where nothing is
abbrev pub MakingRefusalsAre : Type 0
MakingRefusalsAre = (p : ParamProgram) (sizes : List ℕ) (r : Refusal) → units_judged 1 [] p ≡ no_fault
    → (elaborated_program p sizes ≡ Err r) ↔ IsFirstWrong nothing (program_events (source_units p sizes)) r

abbrev pub MakingIsDone : Type 0
MakingIsDone = (p : ParamProgram) (sizes : List ℕ) → units_judged 1 [] p ≡ no_fault
    → ((m : Made) × (elaborated_program p sizes ≡ Ok m)) ↔ AllRight nothing (program_events (source_units p sizes))
