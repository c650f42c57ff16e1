-- Elaboration: the instances of a program's streams, children before their parent, or the first fault.
use Rattle.std.specs.Prelude.{ℕ, suc, ℤ, pos, negsuc, ◌+◌, Bool, true, false, ◌&&◌, List, [], ◌∷◌, ◌++◌, length, map, nat_lt, nat_le, if◌then◌else◌, Option, Some, None}
use Rattle.std.specs.Prelude.{Result, Ok, Err}
use Rattle.river_base.specs.Name.{name_eq}
use Rattle.streamit_text.specs.Tree.{Expression}
use Rattle.river_plan.specs.Forms.{Name}
use Rattle.streamit_model.specs.Meaning.{turns_between}
use Rattle.streamit_text.specs.Program as plain
use Rattle.params_text.specs.Program.{ParamWork, ParamFilter, Step, Add, Loop, Steps, End, Then, Dealing, Copies, Turns, Body, AFilter, APipeline, ASplitJoin, UnitForm}
use Rattle.params_model.specs.declared.fault.Fault.{Fault}
use Rattle.params_model.specs.declared.fault.Fault.TheVariants.{UnknownName, Range, Empty, Budget}
use Rattle.params_model.specs.declared.fault.Refusal.{Refusal}
use Rattle.params_model.specs.Environment.{Environment, bound, value, option_counts, dealing}
use Rattle.params_model.specs.Plain.{plain_filter, instance_name}

abbrev pub on_fine : {A B : Type 0} → Result A Refusal → (A → Result B Refusal) → Result B Refusal
on_fine (Ok x) f = f x
on_fine (Err e) f = Err e

-- the fault of a unit, where a test fails
abbrev pub demand : Bool → ℕ → Fault → Result (Unit {0}) Refusal
demand b unit e = if b then Ok tt else Err (record { unit = unit; fault = e })

-- a unit of the text: its number, and the bytes from its first token to its last
pub record SourceUnit : Type 0 where
  pub unit : ℕ
  pub bytes : ℕ
  pub stream : UnitForm

-- what was made: the plain units, and the source unit of each; how many instances were begun, the bytes of their units, and how many
-- turns of loops were begun
pub record Made : Type 0 where
  pub units : plain.Program
  pub from : List ℕ
  pub begun : ℕ
  pub bytes : ℕ
  pub turns : ℕ

abbrev pub nothing_made : Made
nothing_made = record { units = []; from = []; begun = 0; bytes = 0; turns = 0 }

-- an instance of u is begun, so deep
abbrev pub begin : SourceUnit → ℕ → Made → Result Made Refusal
begin u depth s =
    on_fine (demand (nat_lt s.begun 1024 && (nat_le depth 64 && nat_le (s.bytes + u.bytes) 1048576)) u.unit Budget) (λ x.
    Ok (record s { begun = suc s.begun; bytes = s.bytes + u.bytes }))

-- a turn is begun
abbrev pub turn : ℕ → Made → Result Made Refusal
turn unit s = on_fine (demand (nat_lt s.turns 65536) unit Budget) (λ x. Ok (record s { turns = suc s.turns }))

-- a number is not below 0, and at most 65,536
abbrev pub is_ranged : ℤ → Bool
is_ranged (pos n) = nat_le n 65536
is_ranged (negsuc n) = false

abbrev pub are_ranged : Environment → List Expression → Bool
are_ranged env [] = true
are_ranged env (c ∷ cs) = is_ranged (value env c) && are_ranged env cs

abbrev pub is_ranged_option : Environment → Option Expression → Bool
is_ranged_option env None = true
is_ranged_option env (Some c) = is_ranged (value env c)

abbrev pub are_ranged_option : Environment → Option (List Expression) → Bool
are_ranged_option env None = true
are_ranged_option env (Some cs) = are_ranged env cs

abbrev pub is_ranged_dealing : Environment → Dealing → Bool
is_ranged_dealing env Copies = true
is_ranged_dealing env (Turns ws) = are_ranged_option env ws

abbrev pub is_ranged_work : Environment → ParamWork → Bool
is_ranged_work env w = is_ranged_option env w.push && (is_ranged_option env w.pop && is_ranged_option env w.peek)

abbrev pub is_ranged_prework : Environment → Option ParamWork → Bool
is_ranged_prework env None = true
is_ranged_prework env (Some w) = is_ranged_work env w

abbrev pub is_ranged_filter : Environment → ParamFilter → Bool
is_ranged_filter env t = is_ranged_prework env t.prework && is_ranged_work env t.work

-- what an `add` makes under the values of its arguments: the name of the instance, and what is made then
abbrev pub Adding : Type 0
Adding = Name → List ℤ → Made → Result (Name × Made) Refusal

-- names of instances, and what is made then
abbrev pub Added : Type 0
Added = Result (List Name × Made) Refusal

abbrev pub also : Added → (Made → Added) → Added
also a f = on_fine a (λ x. on_fine (f x.1) (λ y. Ok (x.0 ++ y.0, y.1)))

-- the steps of a loop, turn by turn
abbrev pub turns_made : ℕ → (ℕ → Made → Added) → List ℕ → Made → Added
turns_made unit f [] s = Ok ([], s)
turns_made unit f (v ∷ vs) s = on_fine (turn unit s) (λ t. also (f v t) (turns_made unit f vs))

abbrev mutual
  pub made_once : Adding → ℕ → Environment → Step → Made → Added
  made_once add unit env (Add n cs) s = on_fine (add n (map (value env) cs) s) (λ x. Ok (x.0 ∷ [], x.1))
  made_once add unit env (Loop n low upto high ss) s =
      on_fine (demand (is_ranged (value env low) && is_ranged (value env high)) unit Range) (λ x.
      turns_made unit (λ v. steps_made add unit ((n, pos v) ∷ env) ss) (turns_between (value env low) upto (value env high)) s)

  pub steps_made : Adding → ℕ → Environment → Steps → Made → Added
  steps_made add unit env End s = Ok ([], s)
  steps_made add unit env (Then c ss) s = also (made_once add unit env c s) (steps_made add unit env ss)

-- one name or more
abbrev pub some_adds : ℕ → List Name → Result plain.Adds Refusal
some_adds unit [] = Err (record { unit = unit; fault = Empty })
some_adds unit (n ∷ ns) = Ok (record { first = n; others = ns })

-- the children, of which there are some
abbrev pub children_made : Adding → ℕ → Environment → Steps → Made → Result (plain.Adds × Made) Refusal
children_made add unit env ss s = on_fine (steps_made add unit env ss s) (λ x. on_fine (some_adds unit x.0) (λ a. Ok (a, x.1)))

-- the rest of an instance's unit
abbrev pub body_made : Adding → ℕ → Environment → Body → Made → Result (plain.Body × Made) Refusal
body_made add unit env (AFilter t) s = on_fine (demand (is_ranged_filter env t) unit Range) (λ x. Ok (plain.AFilter (plain_filter env t), s))
body_made add unit env (APipeline ss) s = on_fine (children_made add unit env ss s) (λ x. Ok (plain.APipeline x.0, x.1))
body_made add unit env (ASplitJoin d ss ws) s =
    on_fine (demand (is_ranged_dealing env d) unit Range) (λ x.
    on_fine (children_made add unit env ss s) (λ c.
    on_fine (demand (are_ranged_option env ws) unit Range) (λ y. Ok (plain.ASplitJoin (dealing env d) c.0 (option_counts env ws), c.1))))

-- the instance is made, as the next unit
abbrev pub finish : SourceUnit → plain.Body × Made → Name × Made
finish u r =
    let name = instance_name u.stream.name (suc (length r.1.units)) in
    (name, record r.1 { units = r.1.units ++ record { name = name; body = r.0 } ∷ []; from = r.1.from ++ u.unit ∷ [] })

abbrev pub make : Adding → SourceUnit → ℕ → Environment → Made → Result (Name × Made) Refusal
make add u depth env s0 = on_fine (begin u depth s0) (λ s. on_fine (body_made add u.unit env u.stream.body s) (λ r. Ok (finish u r)))

-- an instance of the stream of this name, so deep; the streams are given with the newest first
abbrev pub instance : List SourceUnit → ℕ → Adding
instance [] depth n zs s = Err (record { unit = 0; fault = UnknownName })
instance (u ∷ us) depth n zs s =
    if name_eq u.stream.name n then make (instance us (suc depth)) u depth (bound u.stream.params zs) s else instance us depth n zs s

-- the instances of the last stream, and of all that it adds
abbrev pub last_made : List SourceUnit → Result Made Refusal
last_made [] = Err (record { unit = 0; fault = UnknownName })
last_made (u ∷ us) = on_fine (make (instance us 2) u 1 [] nothing_made) (λ x. Ok x.1)
