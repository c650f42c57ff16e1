-- Statements that hold no block, read part by part.
use Rattle.std.proofs.Common.{◌≡◌, ℕ, ◌+◌, ◌<◌, ◌≤◌, [], ◌∷◌, Option, Ok, Err, refl, sym, ap, ◌∙◌}
use Rattle.std.proofs.lemmas.Bool.{lt-ltb, le-ltb}
use Rattle.work_code.specs.Steps.{one_step}
use Rattle.work_code.specs.Steps as steps
use Rattle.work_code.specs.Term.{Term}
use Rattle.river_plan.specs.Forms.{Name}
use Rattle.streamit_text.specs.Tree.{Expression}
use Rattle.streamit_text.specs.Tree as source
use Rattle.streamit_model.specs.Meaning.{pops}
use Rattle.streamit_model.specs.Elaborate.{At, Read, on_ok, demand, counted, find, is_new, slot_of, has_slot, first_term, term_of, declared, step_of}
use Rattle.streamit_model.specs.declared.fault.Fault.TheVariants.{Limit}
use Rattle.streamit_unroll.specs.declared.refused.RefusedUnit.{RefusedUnit}
use Rattle.streamit_unroll.specs.View.{IsWhyUnit}
use Rattle.streamit_unroll.proofs.SoFar.{good, tells_more}

-- `NAME = e;`
module _ (e : ℕ) (n : Name) (t : Expression) (s : At) where
  -- a statement too many
  pub assign_count_fault : (f : RefusedUnit) → IsWhyUnit f (counted s) → IsWhyUnit f (step_of e (source.Assign n t) s)
  assign_count_fault f h = tells_more f (counted s) (step_of e (source.Assign n t) s) (λ g q. rw q refl) h

  module _ (s1 : At) (hc : counted s ≡ Ok s1) where
    -- a fault of the variable is that of the statement
    pub assign_slot_fault : (f : RefusedUnit) → IsWhyUnit f (slot_of (find s1.scope n)) → IsWhyUnit f (step_of e (source.Assign n t) s)
    assign_slot_fault f h = tells_more f (slot_of (find s1.scope n)) (step_of e (source.Assign n t) s) (λ g q. rw (hc, q) refl) h

    module _ (i : ℕ) (hs : slot_of (find s1.scope n) ≡ Ok i) where
      -- so is one of the value
      pub assign_value_fault : (f : RefusedUnit) → IsWhyUnit f (term_of e s1.scope t s1.popped) → IsWhyUnit f (step_of e (source.Assign n t) s)
      assign_value_fault f h = tells_more f (term_of e s1.scope t s1.popped) (step_of e (source.Assign n t) s) (λ g q. rw (hc, hs, q) refl) h

      -- and where both are read, the statement sets the slot
      pub assign_read : (v : Term) (k : ℕ) → term_of e s1.scope t s1.popped ≡ Ok v → k ≡ s1.popped + pops t
          → step_of e (source.Assign n t) s ≡ Ok (one_step (steps.Set i v), record s1 { popped = k })
      assign_read v k ht hk =
          let r : step_of e (source.Assign n t) s ≡ Ok (one_step (steps.Set i v), record s1 { popped = s1.popped + pops t }) = rw (hc, hs, ht) refl in
          r ∙ ap (λ j. good (one_step (steps.Set i v), record s1 { popped = j })) (sym hk)

-- `push(e);`
module _ (e : ℕ) (t : Expression) (s : At) where
  -- a statement too many
  pub push_count_fault : (f : RefusedUnit) → IsWhyUnit f (counted s) → IsWhyUnit f (step_of e (source.Push t) s)
  push_count_fault f h = tells_more f (counted s) (step_of e (source.Push t) s) (λ g q. rw q refl) h

  module _ (s1 : At) (hc : counted s ≡ Ok s1) where
    -- a fault of the value is that of the statement
    pub push_value_fault : (f : RefusedUnit) → IsWhyUnit f (term_of e s1.scope t s1.popped) → IsWhyUnit f (step_of e (source.Push t) s)
    push_value_fault f h = tells_more f (term_of e s1.scope t s1.popped) (step_of e (source.Push t) s) (λ g q. rw (hc, q) refl) h

    -- and where it is read, the statement pushes it
    pub push_read : (v : Term) (k m : ℕ) → term_of e s1.scope t s1.popped ≡ Ok v → k ≡ s1.popped + pops t → m ≡ s1.pushed + 1
        → step_of e (source.Push t) s ≡ Ok (one_step (steps.Push 0 (v ∷ [])), record s1 { popped = k; pushed = m })
    push_read v k m ht hk hm =
        let r : step_of e (source.Push t) s ≡ Ok (one_step (steps.Push 0 (v ∷ [])), record s1 { popped = s1.popped + pops t; pushed = s1.pushed + 1 }) =
        rw (hc, ht) refl in
        r ∙ (λ i. good (one_step (steps.Push 0 (v ∷ [])), record s1 { popped = sym hk i; pushed = sym hm i }))

-- `int NAME = e;`
module _ (e : ℕ) (n : Name) (t : Option Expression) (s : At) where
  -- a statement too many
  pub declare_count_fault : (f : RefusedUnit) → IsWhyUnit f (counted s) → IsWhyUnit f (step_of e (source.Declare n t) s)
  declare_count_fault f h = tells_more f (counted s) (step_of e (source.Declare n t) s) (λ g q. rw q refl) h

  module _ (s1 : At) (hc : counted s ≡ Ok s1) where
    -- a fault of the name is that of the statement
    pub declare_name_fault : (f : RefusedUnit) → IsWhyUnit f (is_new (find s1.scope n)) → IsWhyUnit f (step_of e (source.Declare n t) s)
    declare_name_fault f h = tells_more f (is_new (find s1.scope n)) (step_of e (source.Declare n t) s) (λ g q. rw (hc, q) refl) h

    module _ (hn : is_new (find s1.scope n) ≡ Ok tt) where
      abbrev value : Read
      value = on_ok (first_term e t s1) (λ v. Ok (declared n t s1 v))

      -- where it is known whether a slot is left
      slot_on : step_of e (source.Declare n t) s ≡ on_ok (has_slot s1) (λ w. value)
      slot_on = rw (hc, hn) refl

      -- the body has no slot left
      pub declare_slot_fault : 256 ≤ s1.slots → step_of e (source.Declare n t) s ≡ Err Limit
      declare_slot_fault le = slot_on ∙ ap (λ b. on_ok (demand b Limit) (λ w. value)) (le-ltb s1.slots 256 le)

      value_on : s1.slots < 256 → step_of e (source.Declare n t) s ≡ value
      value_on lt = slot_on ∙ ap (λ b. on_ok (demand b Limit) (λ w. value)) (lt-ltb s1.slots 256 lt)

      -- a fault of the value is that of the statement, where there is a slot
      pub declare_value_fault : s1.slots < 256 → (f : RefusedUnit) → IsWhyUnit f (first_term e t s1) → IsWhyUnit f (step_of e (source.Declare n t) s)
      declare_value_fault lt f h =
          tells_more f (first_term e t s1) (step_of e (source.Declare n t) s) (λ g q. value_on lt ∙ ap (λ r. on_ok r (λ v. good (declared n t s1 v))) q) h

      -- and where the value is read, the variable has the next slot
      pub declare_read : s1.slots < 256 → (v : Term) → first_term e t s1 ≡ Ok v → step_of e (source.Declare n t) s ≡ Ok (declared n t s1 v)
      declare_read lt v h = value_on lt ∙ ap (λ r. on_ok r (λ v. good (declared n t s1 v))) h
