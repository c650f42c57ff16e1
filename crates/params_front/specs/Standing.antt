-- What was made so far: its text and its counts, and what each part of the making adds to them.
use Rattle.std.specs.Prelude.{◌≡◌, ℕ, suc, pos, List, [], ◌∷◌, ◌++◌, length, map, Result, Ok, Err}
use Rattle.std.proofs.Common.{get_or}
use Rattle.river_plan.specs.Forms.{Name}
use Rattle.streamit_text.specs.Program as plain
use Rattle.params_text.specs.Program.{Steps, Body, UnitForm, unit_forms}
use Rattle.params_text.specs.Toks.{plain_text}
use Rattle.params_text.specs.declared.program.Unit as code_unit
use Rattle.params_model.specs.Environment.{Environment}
use Rattle.params_model.specs.Plain.{instance_name}
use Rattle.params_model.specs.Judged.{source_units}
use Rattle.params_model.specs.Making.{SourceUnit, Made, Added, Adding, instance, on_fine, turn, steps_made, body_made}
use Rattle.params_model.specs.declared.fault.Fault.{Fault}
use Rattle.params_model.specs.declared.fault.Refusal.{Refusal}
use Rattle.params_build.specs.declared.refused.Refused.{Refused}
use Rattle.params_build.specs.Judging.{IsWhyRefused}
use Rattle.params_print.specs.Heads.{name_written, names_written}
use Rattle.params_print.specs.declared.instance.Instance.{Instance}
use Rattle.params_front.specs.declared.making.Making.{Making}
use Rattle.params_front.specs.declared.body.Scope.{Scope}

-- THE STREAMS ABOVE

-- the streams of these units, the newest first
abbrev pub sources : List code_unit.Unit → List ℕ → List SourceUnit
sources us sizes = source_units (unit_forms us) sizes

-- the unit behind so many
abbrev pub source_at : ℕ → List ℕ → UnitForm → SourceUnit
source_at i sizes d = record { unit = suc i; bytes = get_or sizes i 0; stream = d }

-- what an `add` makes below these units, where its instance lies so deep
abbrev pub adding : List code_unit.Unit → List ℕ → ℕ → Adding
adding us sizes depth = instance (sources us sizes) depth

-- INSTANCES

-- the text and the counts are those of what was made
pub record Stands (code : Making) (m : Made) : Type 0 where
  pub text : code.text ≡ plain_text m.units
  pub from : code.from ≡ map pos m.from
  pub number : code.number ≡ length m.units
  pub begun : code.begun ≡ m.begun
  pub bytes : code.bytes ≡ m.bytes
  pub turns : code.turns ≡ m.turns

-- with the next unit, which is an instance of this stream of unit k with this body
abbrev pub finished : ℕ → Name → plain.Body × Made → Name × Made
finished k stream r =
    let name = instance_name stream (suc (length r.1.units)) in
    (name, record r.1 { units = r.1.units ++ record { name = name; body = r.0 } ∷ []; from = r.1.from ++ k ∷ [] })

-- an instance of this stream, once it is begun
abbrev pub bodied : Adding → ℕ → Name → Environment → Body → Made → Result (Name × Made) Refusal
bodied add k stream env b s = on_fine (body_made add k env b s) (λ r. Ok (finished k stream r))

-- the steps of a loop for this value of its variable
abbrev pub turn_steps : Adding → ℕ → Environment → Name → Steps → ℕ → Made → Added
turn_steps add k env name ss v s = steps_made add k ((name, pos v) ∷ env) ss s

-- a turn of a loop
abbrev pub turn_made : ℕ → (ℕ → Made → Added) → ℕ → Made → Added
turn_made k f v s = on_fine (turn k s) (f v)

-- ANSWERS

-- this was made then
abbrev pub Begins : Result (Unit {0}) Refused → Making → Result Made Refusal → Type 0
Begins (Ok u) new r = (m : Made) × (r ≡ Ok m) × Stands new m
Begins (Err e) new r = IsWhyRefused r e

-- an instance was made
abbrev pub MakesOne : Result Instance Refused → Making → Result (Name × Made) Refusal → Type 0
MakesOne (Ok i) new r = (m : Made) × (r ≡ Ok (name_written i, m)) × Stands new m
MakesOne (Err e) new r = IsWhyRefused r e

-- children were made, and stand behind those that were there; the same names are known
abbrev pub MakesMore : Result (Unit {0}) Refused → Scope → Scope → Making → Added → Type 0
MakesMore (Ok u) old scope new r =
    (names : List Name) × (m : Made) × (r ≡ Ok (names, m)) × Stands new m × (names_written scope.children ≡ names_written old.children ++ names)
    × (scope.known ≡ old.known)
MakesMore (Err e) old scope new r = IsWhyRefused r e

-- the children of a body were made, where there were none before
abbrev pub MakesAll : Result (Unit {0}) Refused → Scope → Scope → Making → Result (plain.Adds × Made) Refusal → Type 0
MakesAll (Ok u) old scope new r =
    (a : plain.Adds) × (m : Made) × (r ≡ Ok (a, m)) × Stands new m × (names_written scope.children ≡ a.first ∷ a.others) × (scope.known ≡ old.known)
MakesAll (Err e) old scope new r = IsWhyRefused r e

-- the number is counted, and the unit is noted
pub record Wrote (old new : Making) (k n : ℕ) : Type 0 where
  pub text : new.text ≡ old.text
  pub from : new.from ≡ old.from ++ pos k ∷ []
  pub number : new.number ≡ n
  pub begun : new.begun ≡ old.begun
  pub bytes : new.bytes ≡ old.bytes
  pub turns : new.turns ≡ old.turns

-- an instance of this stream with this body was written
abbrev pub WritesInstance : {E : Type 0} → Result Instance E → Making → ℕ → Name → plain.Body → Made → Type 0
WritesInstance (Ok i) new k stream b m = (name_written i ≡ (finished k stream (b, m)).0) × Stands new (finished k stream (b, m)).1
WritesInstance (Err e) new k stream b m = Unit {0}

-- this fault of unit k is why, or want of memory
abbrev pub Blames : Refused → ℕ → Fault → Type 0
Blames e k f = IsWhyRefused {A = Unit {0}} (Err (record { unit = k; fault = f })) e
