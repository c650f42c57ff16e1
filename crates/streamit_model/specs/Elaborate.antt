-- The statements of a block with its loops unrolled, or the first fault in reading order.
use Rattle.std.specs.Prelude.{ℕ, ℤ, pos, negsuc, ◌+◌, ◌-◌, Bool, ◌&&◌, List, [], ◌∷◌, Option, Some, None, Result, Ok, Err, if◌then◌else◌, nat_lt, nat_le}
use Rattle.std.specs.Prelude.{nat_eq}
use Rattle.std.specs.Ordering.{int_eq}
use Rattle.river_base.specs.Name.{name_eq}
use Rattle.river_base.specs.Number.{negate}
use Rattle.work_code.specs.Term.{Term}
use Rattle.work_code.specs.Term as term
use Rattle.work_code.specs.Steps.{Steps, Done, both_steps, one_step}
use Rattle.work_code.specs.Steps as steps
use Rattle.work_code.specs.Value.{applied, truth}
use Rattle.river_plan.specs.Forms.{Name}
use Rattle.streamit_text.specs.Tree.{Expression, Statement, Declare, Assign, Push, Discard, If, For, Block, End, Then, Optional, Unwritten, Written}
use Rattle.streamit_text.specs.Tree as tree
use Rattle.streamit_model.specs.Meaning.{pops, numbers_from}
use Rattle.streamit_model.specs.declared.fault.Fault.{Fault}
use Rattle.streamit_model.specs.declared.fault.Fault.TheVariants.{UnknownName, NameTwice, PeekRange, NotConstant, BranchRates, Limit}

-- what f gives for the value that is there
abbrev pub on_ok : {A B : Type 0} → Result A Fault → (A → Result B Fault) → Result B Fault
on_ok (Ok x) f = f x
on_ok (Err e) f = Err e

-- the fault where a test fails
abbrev pub demand : Bool → Fault → Result (Unit {0}) Fault
demand b e = if b then Ok tt else Err e

-- a name that is known stands for a slot, or is the variable of a loop in its turn
pub data KnownName : Type 0 where
  Var : ℕ → KnownName
  Turn : ℕ → KnownName

abbrev pub Scope : Type 0
Scope = List (Name × KnownName)

abbrev pub find : Scope → Name → Option KnownName
find [] n = None
find (e ∷ es) n = if name_eq e.0 n then Some e.1 else find es n

-- CONSTANTS

abbrev pub constant_of : Option KnownName → Result ℤ Fault
constant_of None = Err UnknownName
constant_of (Some (Var i)) = Err NotConstant
constant_of (Some (Turn v)) = Ok (pos v)

abbrev pub constant : Scope → Expression → Result ℤ Fault
constant sc (tree.Number v) = Ok (pos v)
constant sc (tree.Name n) = constant_of (find sc n)
constant sc (tree.Peek t) = Err NotConstant
constant sc tree.Pop = Err NotConstant
constant sc (tree.Neg t) = on_ok (constant sc t) (λ a. Ok (negate a))
constant sc (tree.Not t) = on_ok (constant sc t) (λ a. Ok (truth (int_eq a (pos 0))))
constant sc (tree.Bin o l r) = on_ok (constant sc l) (λ a. on_ok (constant sc r) (λ b. Ok (applied o a b)))

-- EXPRESSIONS: `e` is the peek rate, and k pops come before

abbrev pub named_term : Option KnownName → Result Term Fault
named_term None = Err UnknownName
named_term (Some (Var i)) = Ok (term.Slot i)
named_term (Some (Turn v)) = Ok (term.Const (pos v))

abbrev pub peeked : ℕ → ℕ → ℤ → Result Term Fault
peeked e k (pos i) = if nat_lt (k + i) e then Ok (term.Input (k + i)) else Err (PeekRange (pos i) e)
peeked e k (negsuc i) = Err (PeekRange (negsuc i) e)

abbrev pub term_of : ℕ → Scope → Expression → ℕ → Result Term Fault
term_of e sc (tree.Number v) k = Ok (term.Const (pos v))
term_of e sc (tree.Name n) k = named_term (find sc n)
term_of e sc (tree.Peek t) k = on_ok (constant sc t) (peeked e k)
term_of e sc tree.Pop k = if nat_le k 65536 then Ok (term.Input k) else Err Limit
term_of e sc (tree.Neg t) k = on_ok (term_of e sc t k) (λ a. Ok (term.Neg a))
term_of e sc (tree.Not t) k = on_ok (term_of e sc t k) (λ a. Ok (term.Not a))
term_of e sc (tree.Bin o l r) k = on_ok (term_of e sc l k) (λ a. on_ok (term_of e sc r (k + pops l)) (λ b. Ok (term.Bin o a b)))

-- STATEMENTS

-- where the reading stands: what is known, and how many slots, pops, pushes and statements there were
pub record At : Type 0 where
  pub scope : Scope
  pub slots : ℕ
  pub popped : ℕ
  pub pushed : ℕ
  pub size : ℕ

-- one statement or turn more
abbrev pub counted : At → Result At Fault
counted s = if nat_lt s.size 16384 then Ok (record s { size = s.size + 1 }) else Err Limit

-- there is a slot for one name more
abbrev pub has_slot : At → Result (Unit {0}) Fault
has_slot s = demand (nat_lt s.slots 256) Limit

abbrev pub is_new : Option KnownName → Result (Unit {0}) Fault
is_new None = Ok tt
is_new (Some b) = Err NameTwice

-- the slot that an assignment sets
abbrev pub slot_of : Option KnownName → Result ℕ Fault
slot_of None = Err UnknownName
slot_of (Some (Var i)) = Ok i
slot_of (Some (Turn v)) = Err NotConstant

abbrev pub bound_of : ℤ → Result ℕ Fault
bound_of (pos n) = if nat_le n 65536 then Ok n else Err Limit
bound_of (negsuc n) = Err Limit

abbrev pub first_term : ℕ → Option Expression → At → Result Term Fault
first_term e None s = Ok (term.Const (pos 0))
first_term e (Some t) s = term_of e s.scope t s.popped

abbrev pub first_popped : Option Expression → ℕ
first_popped None = 0
first_popped (Some t) = pops t

abbrev pub Read : Type 0
Read = Result (Steps × At) Fault

-- a new local, in the next slot
abbrev pub declared : Name → Option Expression → At → Term → Steps × At
declared n t s v = (one_step (steps.Set s.slots v), record s { scope = (n, Var s.slots) ∷ s.scope; slots = s.slots + 1; popped = s.popped + first_popped t })

-- after both arms, which pop and push as many
abbrev pub after_arms : At → Term → Steps × At → Steps × At → Read
after_arms s c a b =
    if nat_eq a.1.popped b.1.popped && nat_eq a.1.pushed b.1.pushed
    then Ok (one_step (steps.If c a.0 b.0), record b.1 { scope = s.scope })
    else Err BranchRates

-- a block for each value of a variable, of which nothing is known afterwards
abbrev pub unrolled : (At → Read) → Name → List ℕ → At → Read
unrolled block n [] s = Ok (Done, s)
unrolled block n (v ∷ vs) s =
    on_ok (counted s) (λ t. on_ok (block (record t { scope = (n, Turn v) ∷ s.scope }))
    (λ a. on_ok (unrolled block n vs (record a.1 { scope = s.scope })) (λ b. Ok (both_steps a.0 b.0, b.1))))

abbrev mutual
  pub step_of : ℕ → Statement → At → Read
  step_of e (Declare n t) s0 =
      on_ok (counted s0) (λ s. on_ok (is_new (find s.scope n)) (λ u. on_ok (has_slot s) (λ w. on_ok (first_term e t s) (λ v. Ok (declared n t s v)))))
  step_of e (Assign n t) s0 =
      on_ok (counted s0) (λ s. on_ok (slot_of (find s.scope n)) (λ i. on_ok (term_of e s.scope t s.popped)
      (λ v. Ok (one_step (steps.Set i v), record s { popped = s.popped + pops t }))))
  step_of e (Push t) s0 =
      on_ok (counted s0) (λ s. on_ok (term_of e s.scope t s.popped)
      (λ v. Ok (one_step (steps.Push 0 (v ∷ [])), record s { popped = s.popped + pops t; pushed = s.pushed + 1 })))
  step_of e Discard s = Ok (Done, record s { popped = s.popped + 1 })
  step_of e (If t a b) s0 =
      on_ok (counted s0) (λ s. on_ok (term_of e s.scope t s.popped) (λ c.
      on_ok (steps_of e a (record s { popped = s.popped + pops t })) (λ p.
      on_ok (optional_of e b (record s { popped = s.popped + pops t; slots = p.1.slots; size = p.1.size })) (after_arms s c p))))
  step_of e (For n low upto high b) s =
      on_ok (is_new (find s.scope n)) (λ u.
      on_ok (constant s.scope low) (λ x. on_ok (bound_of x) (λ l.
      on_ok (constant s.scope high) (λ y. on_ok (bound_of y) (λ h.
      unrolled (steps_of e b) n (numbers_from l (h + (if upto then 1 else 0) - l)) s)))))

  pub steps_of : ℕ → Block → At → Read
  steps_of e End s = Ok (Done, s)
  steps_of e (Then c b) s = on_ok (step_of e c s) (λ p. on_ok (steps_of e b p.1) (λ q. Ok (both_steps p.0 q.0, q.1)))

  -- a block that is not written has no statements
  pub optional_of : ℕ → Optional → At → Read
  optional_of e Unwritten s = Ok (Done, s)
  optional_of e (Written b) s = steps_of e b s
