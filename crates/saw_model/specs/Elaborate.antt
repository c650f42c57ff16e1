-- The body of a program's plan, part by part, or the first fault in reading order.
use Rattle.std.specs.Prelude.{ℕ, pos, ◌+◌, Bool, true, ◌&&◌, List, [], ◌∷◌, ◌++◌, length, Option, Some, None, Result, Ok, Err, if◌then◌else◌, nat_lt, nat_le}
use Rattle.std.specs.Prelude.{nat_eq}
use Rattle.river_base.specs.Name.{name_eq}
use Rattle.work_code.specs.Term.{Term}
use Rattle.work_code.specs.Term as term
use Rattle.work_code.specs.Steps.{Steps, Done, both_steps, one_step}
use Rattle.work_code.specs.Steps as steps
use Rattle.kern_tables.specs.declared.kind.TableKind.{TableKind}
use Rattle.kern_tables.specs.declared.kind.TableKind.TheVariants.{Sum, Collection, Maximum}
use Rattle.river_plan.specs.Forms.{Name}
use Rattle.saw_text.specs.Tree.{Expression}
use Rattle.saw_text.specs.Tree as tree
use Rattle.saw_text.specs.Tree.{Statement, Declare, Assign, Emit, If, Block, End, Then, Optional, Unwritten, Written, UnitForm, TableUnit, StatementUnit}
use Rattle.saw_model.specs.declared.fault.Fault.{Fault}
use Rattle.saw_model.specs.declared.fault.Fault.TheVariants.{UnknownName, NameTwice, Shape, Limit}
use Rattle.saw_model.specs.Meaning.{table_kind}

-- what f gives for the value that is there
abbrev pub on_ok : {A B : Type 0} → Result A Fault → (A → Result B Fault) → Result B Fault
on_ok (Ok x) f = f x
on_ok (Err e) f = Err e

-- the fault where a test fails
abbrev pub demand : Bool → Fault → Result (Unit {0}) Fault
demand b e = if b then Ok tt else Err e

-- a name that is known: a local in its slot, or a table by its number
pub data KnownName : Type 0 where
  Var : ℕ → KnownName
  Port : ℕ → TableKind → KnownName

abbrev pub Scope : Type 0
Scope = List (Name × KnownName)

abbrev pub find : Scope → Name → Option KnownName
find [] n = None
find (e ∷ es) n = if name_eq e.0 n then Some e.1 else find es n

abbrev pub named : Option KnownName → Result Term Fault
named None = Err UnknownName
named (Some (Var i)) = Ok (term.Slot i)
named (Some (Port p k)) = Err UnknownName

abbrev pub term_of : Scope → Expression → Result Term Fault
term_of sc (tree.Number v) = Ok (term.Const (pos v))
term_of sc (tree.Name n) = named (find sc n)
term_of sc (tree.Input p) = if nat_le p 15 then Ok (term.Input p) else Err Limit
term_of sc (tree.Neg t) = on_ok (term_of sc t) (λ a. Ok (term.Neg a))
term_of sc (tree.Not t) = on_ok (term_of sc t) (λ a. Ok (term.Not a))
term_of sc (tree.Bin o l r) = on_ok (term_of sc l) (λ a. on_ok (term_of sc r) (λ b. Ok (term.Bin o a b)))

-- where the reading stands: what is known, and how many slots, statements and tables there were
pub record At : Type 0 where
  pub scope : Scope
  pub slots : ℕ
  pub size : ℕ
  pub tables : ℕ

-- one statement more
abbrev pub counted : At → Result At Fault
counted s = if nat_lt s.size 16384 then Ok (record s { size = s.size + 1 }) else Err Limit

-- there is a slot for one local more
abbrev pub has_slot : At → Result (Unit {0}) Fault
has_slot s = demand (nat_lt s.slots 256) Limit

abbrev pub is_new : Option KnownName → Result (Unit {0}) Fault
is_new None = Ok tt
is_new (Some b) = Err NameTwice

abbrev pub slot_of : Option KnownName → Result ℕ Fault
slot_of None = Err UnknownName
slot_of (Some (Var i)) = Ok i
slot_of (Some (Port p k)) = Err UnknownName

abbrev pub table_port : Option KnownName → Result (ℕ × TableKind) Fault
table_port None = Err UnknownName
table_port (Some (Var i)) = Err UnknownName
table_port (Some (Port p k)) = Ok (p, k)

abbrev pub first_term : Option Expression → Scope → Result Term Fault
first_term None sc = Ok (term.Const (pos 0))
first_term (Some t) sc = term_of sc t

-- index expressions, the first of which is number n
abbrev pub indexes_of : Scope → ℕ → List Expression → Result (List Term) Fault
indexes_of sc n [] = Ok []
indexes_of sc n (t ∷ ts) = if nat_lt n 8 then on_ok (term_of sc t) (λ u. on_ok (indexes_of sc (n + 1) ts) (λ us. Ok (u ∷ us))) else Err Limit

abbrev pub keys_in : TableKind → ℕ
keys_in (Sum keys) = keys
keys_in (Collection keys) = keys
keys_in (Maximum best keys) = keys

-- a maximum has a weight, and no other table has one
abbrev pub weight_of : TableKind → Option Expression → Scope → Result (List Term) Fault
weight_of (Maximum best keys) None sc = Err Shape
weight_of (Maximum best keys) (Some t) sc = on_ok (term_of sc t) (λ u. Ok (u ∷ []))
weight_of (Sum keys) None sc = Ok []
weight_of (Sum keys) (Some t) sc = Err Shape
weight_of (Collection keys) None sc = Ok []
weight_of (Collection keys) (Some t) sc = Err Shape

abbrev pub Read : Type 0
Read = Result (Steps × At) Fault

-- a new local, in the next slot
abbrev pub declared : Name → At → Term → Steps × At
declared n s v = (one_step (steps.Set s.slots v), record s { scope = (n, Var s.slots) ∷ s.scope; slots = s.slots + 1 })

-- the push of an emit of n indexes: whether the table has so many keys, then the value, then the weight
abbrev pub emitted : At → ℕ × TableKind → ℕ → List Term → Expression → Option Expression → Read
emitted s t n us v w =
    on_ok (demand (nat_eq n (keys_in t.1)) Shape) (λ x.
    on_ok (term_of s.scope v) (λ u.
    on_ok (weight_of t.1 w s.scope) (λ ws. Ok (one_step (steps.Push t.0 (us ++ u ∷ ws)), s))))

abbrev mutual
  pub step_of : Statement → At → Read
  step_of (Declare n t) s0 =
      on_ok (counted s0) (λ s. on_ok (is_new (find s.scope n)) (λ u. on_ok (has_slot s) (λ w. on_ok (first_term t s.scope) (λ v. Ok (declared n s v)))))
  step_of (Assign n t) s0 =
      on_ok (counted s0) (λ s. on_ok (slot_of (find s.scope n)) (λ i. on_ok (term_of s.scope t) (λ v. Ok (one_step (steps.Set i v), s))))
  step_of (Emit t is v w) s0 =
      on_ok (counted s0) (λ s. on_ok (table_port (find s.scope t)) (λ p. on_ok (indexes_of s.scope 0 is) (λ us. emitted s p (length is) us v w)))
  step_of (If t a b) s0 =
      on_ok (counted s0) (λ s. on_ok (term_of s.scope t) (λ c.
      on_ok (steps_of a s) (λ p.
      on_ok (steps_optional b (record s { slots = p.1.slots; size = p.1.size })) (λ q. Ok (one_step (steps.If c p.0 q.0), record q.1 { scope = s.scope })))))

  pub steps_of : Block → At → Read
  steps_of End s = Ok (Done, s)
  steps_of (Then c b) s = on_ok (step_of c s) (λ p. on_ok (steps_of b p.1) (λ q. Ok (both_steps p.0 q.0, q.1)))

  pub steps_optional : Optional → At → Read
  steps_optional Unwritten s = Ok (Done, s)
  steps_optional (Written b) s = steps_of b s

-- a maximum keeps 1 to 1,000,000 rows for each key
abbrev pub is_best : TableKind → Bool
is_best (Sum keys) = true
is_best (Collection keys) = true
is_best (Maximum best keys) = nat_le 1 best && nat_le best 1000000

-- a table, in the next place: whether its name is new, whether there may be one more, how many rows it keeps, how many keys it has
abbrev pub tabled : Name → TableKind → At → Steps × At
tabled n k s = (Done, record s { scope = (n, Port s.tables k) ∷ s.scope; tables = s.tables + 1 })

abbrev pub table_of : Name → TableKind → At → Read
table_of n k s =
    on_ok (is_new (find s.scope n)) (λ u.
    on_ok (demand (nat_lt s.tables 64) Limit) (λ v.
    on_ok (demand (is_best k) Limit) (λ w.
    on_ok (demand (nat_le (keys_in k) 8) Limit) (λ x. Ok (tabled n k s)))))

abbrev pub unit_judged : UnitForm → At → Read
unit_judged (TableUnit tb) s = table_of tb.name (table_kind tb) s
unit_judged (StatementUnit c) s = step_of c s

-- before all units
abbrev pub nothing_read : At
nothing_read = record { scope = []; slots = 0; size = 0; tables = 0 }
