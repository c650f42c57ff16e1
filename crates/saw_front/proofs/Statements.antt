-- Statements that hold no block, read part by part.
use Rattle.std.proofs.Common.{◌≡◌, ℕ, ◌<◌, ◌≤◌, List, ◌∷◌, ◌++◌, length, Option, Result, Ok, Err, refl, ap, ◌∙◌}
use Rattle.std.specs.Prelude.{nat_eq}
use Rattle.std.proofs.lemmas.Bool.{lt-ltb, le-ltb}
use Rattle.work_code.specs.Steps.{one_step}
use Rattle.work_code.specs.Steps as steps
use Rattle.work_code.specs.Term.{Term}
use Rattle.river_plan.specs.Forms.{Name}
use Rattle.kern_tables.specs.declared.kind.TableKind.{TableKind}
use Rattle.saw_text.specs.Tree.{Expression}
use Rattle.saw_text.specs.Tree as source
use Rattle.saw_model.specs.declared.fault.Fault.{Fault}
use Rattle.saw_model.specs.declared.fault.Fault.TheVariants.{Limit, Shape}
use Rattle.saw_model.specs.Elaborate.{At, Read, on_ok, demand, counted, find, is_new, slot_of, table_port, has_slot, first_term, term_of, indexes_of, weight_of, keys_in, declared, step_of}
use Rattle.saw_front.specs.declared.refused.RefusedUnit.{RefusedUnit}
use Rattle.saw_front.specs.Judging.{row_of}
use Rattle.saw_front.specs.View.{IsWhyUnit}
use Rattle.saw_front.proofs.SoFar.{good, why_more}

-- a statement that is one too many
pub counted_fault : (c : source.Statement) (s : At) (f : Fault) → counted s ≡ Err f → step_of c s ≡ Err f
counted_fault (source.Declare n t) s f h = rw h refl
counted_fault (source.Assign n t) s f h = rw h refl
counted_fault (source.Emit t is v w) s f h = rw h refl
counted_fault (source.If t a b) s f h = rw h refl

-- `NAME = e;`
module _ (n : Name) (t : Expression) (s s1 : At) (hc : counted s ≡ Ok s1) where
  -- a fault of the variable is that of the statement
  pub assign_slot_fault : (f : Fault) → slot_of (find s1.scope n) ≡ Err f → step_of (source.Assign n t) s ≡ Err f
  assign_slot_fault f h = rw (hc, h) refl

  -- so is one of the value, where the variable has a slot
  pub assign_value_fault : (i : ℕ) → slot_of (find s1.scope n) ≡ Ok i → (f : RefusedUnit) → IsWhyUnit f (term_of s1.scope t)
      → IsWhyUnit f (step_of (source.Assign n t) s)
  assign_value_fault i hs f h = why_more f (term_of s1.scope t) (step_of (source.Assign n t) s) (λ g e. rw (hc, hs, e) refl) h

  -- and where both are read, the statement sets the slot
  pub assign_read : (i : ℕ) (v : Term) → slot_of (find s1.scope n) ≡ Ok i → term_of s1.scope t ≡ Ok v
      → step_of (source.Assign n t) s ≡ Ok (one_step (steps.Set i v), s1)
  assign_read i v hs ht = rw (hc, hs, ht) refl

-- `NAME: int = e;`
module _ (n : Name) (t : Option Expression) (s s1 : At) (hc : counted s ≡ Ok s1) where
  -- a fault of the name is that of the statement
  pub declare_name_fault : (f : Fault) → is_new (find s1.scope n) ≡ Err f → step_of (source.Declare n t) s ≡ Err f
  declare_name_fault f h = rw (hc, h) refl

  module _ (hn : is_new (find s1.scope n) ≡ Ok tt) where
    abbrev value : Read
    value = on_ok (first_term t s1.scope) (λ v. Ok (declared n s1 v))

    -- where it is known whether a slot is left
    slot_on : step_of (source.Declare n t) s ≡ on_ok (has_slot s1) (λ w. value)
    slot_on = rw (hc, hn) refl

    -- the body has no slot left
    pub declare_slot_fault : 256 ≤ s1.slots → step_of (source.Declare n t) s ≡ Err Limit
    declare_slot_fault le = slot_on ∙ ap (λ b. on_ok (demand b Limit) (λ w. value)) (le-ltb s1.slots 256 le)

    value_on : s1.slots < 256 → step_of (source.Declare n t) s ≡ value
    value_on lt = slot_on ∙ ap (λ b. on_ok (demand b Limit) (λ w. value)) (lt-ltb s1.slots 256 lt)

    -- a fault of the value is that of the statement, where there is a slot
    pub declare_value_fault : s1.slots < 256 → (f : RefusedUnit) → IsWhyUnit f (first_term t s1.scope) → IsWhyUnit f (step_of (source.Declare n t) s)
    declare_value_fault lt f h =
        why_more f (first_term t s1.scope) (step_of (source.Declare n t) s) (λ g e. value_on lt ∙ ap (λ r. on_ok r (λ v. good (declared n s1 v))) e) h

    -- and where the value is read, the variable has the next slot
    pub declare_read : s1.slots < 256 → (v : Term) → first_term t s1.scope ≡ Ok v → step_of (source.Declare n t) s ≡ Ok (declared n s1 v)
    declare_read lt v h = value_on lt ∙ ap (λ r. on_ok r (λ v. good (declared n s1 v))) h

-- `emit NAME[e] .. <- e weight e;`
abbrev pushed : At → ℕ → List Term → Read
pushed s port ts = Ok (one_step (steps.Push port ts), s)

row_then : (s : At) (port : ℕ) (r1 : Result (List Term) Fault) (r2 : Result (Unit {0}) Fault) (r3 : Result Term Fault) (r4 : Result (List Term) Fault)
    → on_ok r1 (λ us. on_ok r2 (λ x. on_ok r3 (λ u. on_ok r4 (λ ws. pushed s port (us ++ u ∷ ws)))))
    ≡ on_ok (on_ok r1 (λ us. on_ok r2 (λ x. on_ok r3 (λ u. on_ok r4 (λ ws. good (us ++ u ∷ ws)))))) (pushed s port)
row_then s port (Ok a) (Ok b) (Ok c) (Ok d) = refl
row_then s port (Ok a) (Ok b) (Ok c) (Err f) = refl
row_then s port (Ok a) (Ok b) (Err f) r4 = refl
row_then s port (Ok a) (Err f) r3 r4 = refl
row_then s port (Err f) r2 r3 r4 = refl

module _ (t : Name) (is : List Expression) (v : Expression) (w : Option Expression) (s s1 : At) (hc : counted s ≡ Ok s1) where
  -- a fault of the table is that of the statement
  pub emit_table_fault : (f : Fault) → table_port (find s1.scope t) ≡ Err f → step_of (source.Emit t is v w) s ≡ Err f
  emit_table_fault f h = rw (hc, h) refl

  module _ (port : ℕ) (k : TableKind) (hp : table_port (find s1.scope t) ≡ Ok (port, k)) where
    row_on : step_of (source.Emit t is v w) s ≡ on_ok (row_of s1.scope k is v w) (pushed s1 port)
    row_on =
        rw (hc, hp) (row_then s1 port (indexes_of s1.scope 0 is) (demand (nat_eq (length is) (keys_in k)) Shape) (term_of s1.scope v) (weight_of k w s1.scope))

    -- so is one of the row, where the table is known
    pub emit_row_fault : (f : RefusedUnit) → IsWhyUnit f (row_of s1.scope k is v w) → IsWhyUnit f (step_of (source.Emit t is v w) s)
    emit_row_fault f h =
        why_more f (row_of s1.scope k is v w) (step_of (source.Emit t is v w) s) (λ g e. row_on ∙ ap (λ r. on_ok r (pushed s1 port)) e) h

    -- and where the row is read, the statement pushes it at the port of the table
    pub emit_read : (ts : List Term) → row_of s1.scope k is v w ≡ Ok ts → step_of (source.Emit t is v w) s ≡ Ok (one_step (steps.Push port ts), s1)
    emit_read ts h = row_on ∙ ap (λ r. on_ok r (pushed s1 port)) h
