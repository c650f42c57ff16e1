-- Each statement of a program and the steps that stand for it do the same.
use Rattle.std.proofs.Common.{◌≡◌, ℕ, ℤ, pos, ◌+◌, ◌≤◌, Bool, true, false, List, [], ◌∷◌, ◌++◌, length, take, Option, Some, None, Ok, refl, sym, ap, ◌∙◌, subst}
use Rattle.std.proofs.Common.{arith, nat_lt, nat_eq}
use Rattle.std.specs.Prelude.{if◌then◌else◌, slice_set}
use Rattle.std.proofs.lemmas.List.{map-append}
use Rattle.work_code.specs.Term.{Term}
use Rattle.work_code.specs.Steps.{Steps, Done, both_steps, one_step}
use Rattle.work_code.specs.Steps as steps
use Rattle.work_code.specs.Ran.{Ran, ran, ran_once}
use Rattle.work_code.specs.Value.{val, is_true}
use Rattle.kern_rows.proofs.Lengths.{ran_length}
use Rattle.kern_tables.specs.declared.kind.TableKind.{TableKind}
use Rattle.river_plan.specs.Forms.{Name}
use Rattle.river_plan.specs.declared.plan.TableDecl.{TableDecl}
use Rattle.river_plan.proofs.NameLemmas.{name_same}
use Rattle.brooklet_model.specs.Machine.{at_name}
use Rattle.saw_text.specs.Tree.{Expression}
use Rattle.saw_text.specs.Tree.{Statement, Declare, Assign, Emit, If, Block, End, Then, Optional, Unwritten, Written}
use Rattle.saw_model.specs.Meaning.{eval, State, eval_or, eval_all, listed, emit_row, exec, exec_block, exec_optional, reach}
use Rattle.saw_model.specs.Meaning.{reach_all, reach_statement, reach_block, reach_optional}
use Rattle.saw_model.specs.declared.fault.Fault.TheVariants.{Shape, Limit}
use Rattle.saw_model.specs.Elaborate.{on_ok, demand, has_slot, KnownName, Var, Port, Scope, find, term_of, At, is_new, slot_of, table_port, first_term}
use Rattle.saw_model.specs.Elaborate.{indexes_of, keys_in, weight_of, Read, declared, emitted, step_of, steps_of, steps_optional}
use Rattle.saw_model.proofs.Elaborated.{fine, ok_is, ok_parts, demanded, room_for, found_here, found_other, Agrees, IsSound, ArePorts, Keeps, agrees_within}
use Rattle.saw_model.proofs.Elaborated.{more_slots, keeps_new, sound_var, ports_var, agrees_set, term_is, vals, first_is, indexes_are, weight_is}
use Rattle.saw_model.proofs.Elaborated.{eval_all-append, reach-append, Grows, grows_same, grows_trans, grows_back, one_more, counted_on, Met, none_met}
use Rattle.saw_model.proofs.Elaborated.{met_more, one_ran}

-- THE PARTS OF WHAT IS READ

-- a name that is new is not known
pub new_is : (o : Option KnownName) (u : Unit {0}) → is_new o ≡ Ok u → o ≡ None
new_is None u h = refl
new_is (Some b) u h = absurd (cc h)

slot_is : (o : Option KnownName) (i : ℕ) → slot_of o ≡ Ok i → o ≡ Some (Var i)
slot_is None i h = absurd (cc h)
slot_is (Some (Var j)) i h = ap (λ n. Some (Var n)) (ok_is j i h)
slot_is (Some (Port p k)) i h = absurd (cc h)

port_is_at : (o : Option KnownName) (t : ℕ × TableKind) → table_port o ≡ Ok t → o ≡ Some (Port t.0 t.1)
port_is_at None t h = absurd (cc h)
port_is_at (Some (Var j)) t h = absurd (cc h)
port_is_at (Some (Port p k)) t h = let e = ok_is (p, k) t h in λ i. Some (Port (e i).0 (e i).1)

pub record Declared (n : Name) (t : Option Expression) (s0 : At) (y : Steps × At) : Type 0 where
  pub room : nat_lt s0.size 16384 ≡ true
  pub new : find s0.scope n ≡ None
  pub few : nat_lt s0.slots 256 ≡ true
  pub value : Term
  pub value_is : first_term t s0.scope ≡ Ok value
  pub is : (one_step (steps.Set s0.slots value), record (one_more s0) { scope = (n, Var s0.slots) ∷ s0.scope; slots = s0.slots + 1 }) ≡ y

-- the parts of a declaration
pub declared_parts : (n : Name) (t : Option Expression) (s0 : At) (y : Steps × At) → step_of (Declare n t) s0 ≡ fine y → Declared n t s0 y
declared_parts n t s0 y h =
    let f3 : At → Term → Read = λ s v. Ok (declared n s v) in
    let f2 : At → Unit {0} → Read = λ s w. on_ok (first_term t s.scope) (f3 s) in
    let f1 : At → Read = λ s. on_ok (is_new (find s.scope n)) (λ u. on_ok (has_slot s) (f2 s)) in
    let c = counted_on s0 f1 y h in
    let a = ok_parts (is_new (find s0.scope n)) (λ u. on_ok (has_slot (one_more s0)) (f2 (one_more s0))) y c in
    let d = ok_parts (has_slot (one_more s0)) (f2 (one_more s0)) y a.2 in
    let b = ok_parts (first_term t s0.scope) (f3 (one_more s0)) y d.2 in
    record {
      room = room_for s0 f1 y h;
      new = new_is (find s0.scope n) a.0 a.1;
      few = demanded (nat_lt s0.slots 256) Limit d.0 d.1;
      value = b.0;
      value_is = b.1;
      is = ok_is _ y b.2;
    }

pub record Assigned (n : Name) (t : Expression) (s0 : At) (y : Steps × At) : Type 0 where
  pub room : nat_lt s0.size 16384 ≡ true
  pub slot : ℕ
  pub slot_there : find s0.scope n ≡ Some (Var slot)
  pub value : Term
  pub value_is : term_of s0.scope t ≡ Ok value
  pub is : (one_step (steps.Set slot value), one_more s0) ≡ y

-- the parts of an assignment
pub assigned_parts : (n : Name) (t : Expression) (s0 : At) (y : Steps × At) → step_of (Assign n t) s0 ≡ fine y → Assigned n t s0 y
assigned_parts n t s0 y h =
    let f1 : At → Read = λ s. on_ok (slot_of (find s.scope n)) (λ i. on_ok (term_of s.scope t) (λ v. Ok (one_step (steps.Set i v), s))) in
    let c = counted_on s0 f1 y h in
    let a = ok_parts (slot_of (find s0.scope n)) (λ i. on_ok (term_of s0.scope t) (λ v. Ok (one_step (steps.Set i v), one_more s0))) y c in
    let b = ok_parts (term_of s0.scope t) (λ v. Ok (one_step (steps.Set a.0 v), one_more s0)) y a.2 in
    record { room = room_for s0 f1 y h; slot = a.0; slot_there = slot_is (find s0.scope n) a.0 a.1; value = b.0; value_is = b.1; is = ok_is _ y b.2 }

-- what an accepted `emit` has: room, a table, and indexes, value and weight that are made
pub record Sent (t : Name) (is : List Expression) (v : Expression) (w : Option Expression) (s0 : At) (y : Steps × At) : Type 0 where
  pub room : nat_lt s0.size 16384 ≡ true
  pub port : ℕ × TableKind
  pub port_there : find s0.scope t ≡ Some (Port port.0 port.1)
  pub indexes : List Term
  pub indexes_is : indexes_of s0.scope 0 is ≡ Ok indexes
  pub shape : nat_eq (length is) (keys_in port.1) ≡ true
  pub value : Term
  pub value_is : term_of s0.scope v ≡ Ok value
  pub weights : List Term
  pub weights_is : weight_of port.1 w s0.scope ≡ Ok weights
  pub made : (one_step (steps.Push port.0 (indexes ++ value ∷ weights)), one_more s0) ≡ y

-- the parts of an emit
pub sent_parts : (t : Name) (is : List Expression) (v : Expression) (w : Option Expression) (s0 : At) (y : Steps × At) → step_of (Emit t is v w) s0 ≡ fine y
    → Sent t is v w s0 y
sent_parts t is v w s0 y h =
    let f1 : At → Read = λ s. on_ok (table_port (find s.scope t)) (λ p. on_ok (indexes_of s.scope 0 is) (λ us. emitted s p (length is) us v w)) in
    let c = counted_on s0 f1 y h in
    let s = one_more s0 in
    let a = ok_parts (table_port (find s0.scope t)) (λ p. on_ok (indexes_of s0.scope 0 is) (λ us. emitted s p (length is) us v w)) y c in
    let b = ok_parts (indexes_of s0.scope 0 is) (λ us. emitted s a.0 (length is) us v w) y a.2 in
    let k : Term → List Term → Read = λ u ws. Ok (one_step (steps.Push a.0.0 (b.0 ++ u ∷ ws)), s) in
    let g : Term → Read = λ u. on_ok (weight_of a.0.1 w s0.scope) (k u) in
    let d = ok_parts (demand (nat_eq (length is) (keys_in a.0.1)) Shape) (λ x. on_ok (term_of s0.scope v) g) y b.2 in
    let e = ok_parts (term_of s0.scope v) g y d.2 in
    let f = ok_parts (weight_of a.0.1 w s0.scope) (k e.0) y e.2 in
    record {
      room = room_for s0 f1 y h;
      port = a.0;
      port_there = port_is_at (find s0.scope t) a.0 a.1;
      indexes = b.0;
      indexes_is = b.1;
      shape = demanded (nat_eq (length is) (keys_in a.0.1)) Shape d.0 d.1;
      value = e.0;
      value_is = e.1;
      weights = f.0;
      weights_is = f.1;
      made = ok_is _ y f.2;
    }

pub record Forked (t : Expression) (a : Block) (b : Optional) (s0 : At) (y : Steps × At) : Type 0 where
  pub room : nat_lt s0.size 16384 ≡ true
  pub cond : Term
  pub cond_is : term_of s0.scope t ≡ Ok cond
  pub first : Steps × At
  pub first_is : steps_of a (one_more s0) ≡ Ok first
  pub second : Steps × At
  pub second_is : steps_optional b (record (one_more s0) { slots = first.1.slots; size = first.1.size }) ≡ Ok second
  pub is : (one_step (steps.If cond first.0 second.0), record second.1 { scope = s0.scope }) ≡ y

-- the parts of an `if`
pub forked_parts : (t : Expression) (a : Block) (b : Optional) (s0 : At) (y : Steps × At) → step_of (If t a b) s0 ≡ fine y → Forked t a b s0 y
forked_parts t a b s0 y h =
    let f3 : At → Term → Steps × At → Steps × At → Read = λ s c p q. Ok (one_step (steps.If c p.0 q.0), record q.1 { scope = s.scope }) in
    let f2 : At → Term → Steps × At → Read = λ s c p. on_ok (steps_optional b (record s { slots = p.1.slots; size = p.1.size })) (f3 s c p) in
    let f1 : At → Read = λ s. on_ok (term_of s.scope t) (λ c. on_ok (steps_of a s) (f2 s c)) in
    let c = counted_on s0 f1 y h in
    let s = one_more s0 in
    let d = ok_parts (term_of s0.scope t) (λ c. on_ok (steps_of a s) (f2 s c)) y c in
    let e = ok_parts (steps_of a s) (f2 s d.0) y d.2 in
    let f = ok_parts (steps_optional b (record s { slots = e.0.1.slots; size = e.0.1.size })) (f3 s d.0 e.0) y e.2 in
    record { room = room_for s0 f1 y h; cond = d.0; cond_is = d.1; first = e.0; first_is = e.1; second = f.0; second_is = f.1; is = ok_is _ y f.2 }

pub record Followed (c : Statement) (b : Block) (s : At) (y : Steps × At) : Type 0 where
  pub first : Steps × At
  pub first_is : step_of c s ≡ Ok first
  pub others : Steps × At
  pub others_is : steps_of b first.1 ≡ Ok others
  pub is : (both_steps first.0 others.0, others.1) ≡ y

-- a statement and those behind it
pub followed_parts : (c : Statement) (b : Block) (s : At) (y : Steps × At) → steps_of (Then c b) s ≡ fine y → Followed c b s y
followed_parts c b s y h =
    let p = ok_parts (step_of c s) (λ p. on_ok (steps_of b p.1) (λ q. Ok (both_steps p.0 q.0, q.1))) y h in
    let q = ok_parts (steps_of b p.0.1) (λ q. Ok (both_steps p.0.0 q.0, q.1)) y p.2 in
    record { first = p.0; first_is = p.1; others = q.0; others_is = q.1; is = ok_is _ y q.2 }

-- READING GOES ON

-- where the second arm begins
abbrev pub second_at : At → Steps × At → At
second_at s p = record (one_more s) { slots = p.1.slots; size = p.1.size }

grows_new : (n : Name) (s : At) → find s.scope n ≡ None → Grows s (record (one_more s) { scope = (n, Var s.slots) ∷ s.scope; slots = s.slots + 1 })
grows_new n s new = record {
  tables = refl;
  slots = omega arith;
  keeps = keeps_new n (Var s.slots) s.scope new;
  sound = sound_var n s.scope s.slots;
  ports = λ ts h. ports_var ts n s.slots s.scope h;
}

mutual
  -- a statement only adds to what is known
  pub grows : (c : Statement) (s : At) (y : Steps × At) → step_of c s ≡ fine y → Grows s y.1
  grows (Declare n t) s y h = let d = declared_parts n t s y h in subst (λ (q : Steps × At). Grows s q.1) d.is (grows_new n s d.new)
  grows (Assign n t) s y h = let d = assigned_parts n t s y h in subst (λ (q : Steps × At). Grows s q.1) d.is (grows_same s (one_more s) refl refl refl)
  grows (Emit t is v w) s y h = let d = sent_parts t is v w s y h in subst (λ (q : Steps × At). Grows s q.1) d.made (grows_same s (one_more s) refl refl refl)
  grows (If t a b) s y h =
      let d = forked_parts t a b s y h in
      let g = grows_all a (one_more s) d.first d.first_is in
      let k = grows_optional b (second_at s d.first) d.second d.second_is in
      subst (λ (q : Steps × At). Grows s q.1) d.is (grows_back s d.second.1 (let m = g.slots in let n = k.slots in omega (arith, m, n)) k.tables)

  -- so does a block
  pub grows_all : (b : Block) (s : At) (y : Steps × At) → steps_of b s ≡ fine y → Grows s y.1
  grows_all End s y h = subst (λ (q : Steps × At). Grows s q.1) (ok_is (Done, s) y h) (grows_same s s refl refl refl)
  grows_all (Then c b) s y h =
      let d = followed_parts c b s y h in
      subst (λ (q : Steps × At). Grows s q.1) d.is
      (grows_trans s d.first.1 d.others.1 (grows c s d.first d.first_is) (grows_all b d.first.1 d.others d.others_is))

  -- so does an `else`, or none
  pub grows_optional : (o : Optional) (s : At) (y : Steps × At) → steps_optional o s ≡ fine y → Grows s y.1
  grows_optional Unwritten s y h = subst (λ (q : Steps × At). Grows s q.1) (ok_is (Done, s) y h) (grows_same s s refl refl refl)
  grows_optional (Written b) s y h = grows_all b s y h

-- THE RUN

module _ (w : ℕ) (r : List ℤ) (ts : List TableDecl) where
  -- what is known of the memory before steps
  pub record Ready (s : At) (now : State) (mem : List ℤ) : Type 0 where
    pub sound : IsSound s.scope s.slots
    pub ports : ArePorts ts s.scope
    pub agrees : Agrees s.scope now.values mem

  -- the steps do what the statements do
  abbrev pub MetBy : At → State → State → Steps × At → List ℤ → Type 0
  MetBy s now now' y mem = Met ts now now' y.1.scope (ran y.0 (take w r) mem)

  -- what is ready before a statement is ready behind it
  pub ready_after : (s : At) (now now' : State) (y : Steps × At) (mem : List ℤ) → Ready s now mem → Grows s y.1 → MetBy s now now' y mem
      → Ready y.1 now' (ran y.0 (take w r) mem).slots
  ready_after s now now' y mem k g m = record { sound = g.sound k.sound; ports = g.ports ts k.ports; agrees = m.agrees }

  declare_met : (n : Name) (t : Option Expression) (s : At) (y : Steps × At) (now : State) (mem : List ℤ) → Declared n t s y → reach_all (listed t) ≤ w
      → Ready s now mem → y.1.slots ≤ length mem → MetBy s now (exec (Declare n t) r now) y mem
  declare_met n t s y now mem d h k len =
      let z = eval_or (pos 0) t r now.values in
      let value : z ≡ val d.value (take w r) mem = first_is w r t s.scope now.values mem d.value h k.agrees d.value_is in
      let room : s.slots + 1 ≤ length mem = subst (λ (q : Steps × At). q.1.slots ≤ length mem) (sym d.is) len in
      let sc : Scope = (n, Var s.slots) ∷ s.scope in
      let set : Agrees sc (at_name n z now.values) (slice_set mem s.slots z) =
      agrees_set n s.slots z sc (s.slots + 1) now.values mem (sound_var n s.scope s.slots k.sound) room (found_here n n (Var s.slots) s.scope (name_same n))
      (λ m j ne f. k.agrees.each m j (sym (found_other n m (Var s.slots) s.scope ne) ∙ f))
      in
      subst (λ (q : Steps × At). MetBy s now (exec (Declare n t) r now) q mem) d.is
      (none_met w r ts now (exec (Declare n t) r now) sc (slice_set mem s.slots (val d.value (take w r) mem)) refl
      (subst (λ v. Agrees sc (at_name n z now.values) (slice_set mem s.slots v)) value set))

  assign_met : (n : Name) (t : Expression) (s : At) (y : Steps × At) (now : State) (mem : List ℤ) → Assigned n t s y → reach t ≤ w → Ready s now mem
      → s.slots ≤ length mem → MetBy s now (exec (Assign n t) r now) y mem
  assign_met n t s y now mem d h k len =
      let z = eval t r now.values in
      let value : z ≡ val d.value (take w r) mem = term_is w r s.scope t now.values mem d.value h k.agrees d.value_is in
      let set : Agrees s.scope (at_name n z now.values) (slice_set mem d.slot z) =
      agrees_set n d.slot z s.scope s.slots now.values mem k.sound len d.slot_there (λ m j ne f. k.agrees.each m j f) in
      subst (λ (q : Steps × At). MetBy s now (exec (Assign n t) r now) q mem) d.is
      (none_met w r ts now (exec (Assign n t) r now) s.scope (slice_set mem d.slot (val d.value (take w r) mem)) refl
      (subst (λ v. Agrees s.scope (at_name n z now.values) (slice_set mem d.slot v)) value set))

  emit_met : (t : Name) (is : List Expression) (v : Expression) (wt : Option Expression) (s : At) (y : Steps × At) (now : State) (mem : List ℤ)
      → Sent t is v wt s y
      → reach_all (emit_row is v wt) ≤ w → Ready s now mem → MetBy s now (exec (Emit t is v wt) r now) y mem
  emit_met t is v wt s y now mem d h k =
      let env = now.values in
      let room = reach-append w r is (v ∷ listed wt) h in
      let b1 : reach v ≤ w = omega (arith, room.1) in
      let b2 : reach_all (listed wt) ≤ w = omega (arith, room.1) in
      let us = indexes_are w r s.scope 0 is env mem d.indexes room.0 k.agrees d.indexes_is in
      let u = term_is w r s.scope v env mem d.value b1 k.agrees d.value_is in
      let ws = weight_is w r d.port.1 wt s.scope env mem d.weights b2 k.agrees d.weights_is in
      let row : eval_all (emit_row is v wt) r env ≡ vals w r (d.indexes ++ d.value ∷ d.weights) mem =
      eval_all-append w r is (v ∷ listed wt) env ∙ (λ i. us i ++ (u i ∷ ws i)) ∙ sym (map-append (λ x. val x (take w r) mem) d.indexes (d.value ∷ d.weights)) in
      subst (λ (q : Steps × At). MetBy s now (exec (Emit t is v wt) r now) q mem) d.made (record {
        agrees = k.agrees;
        new = (t, eval_all (emit_row is v wt) r env) ∷ [];
        emitted_are = refl;
        matches = (d.port.1, k.ports.port t d.port.0 d.port.1 d.port_there, row, tt);
      })

  if_met : {A : Type 0} (P : A → Ran → Type 0) (b c : Bool) (x y : A) (p q : Ran) → b ≡ c → P x p → P y q → P (if b then x else y) (if c then p else q)
  if_met P b c x y p q e m n = subst (λ d. P (if b then x else y) (if d then p else q)) e (step b) where
    step : (b : Bool) → P (if b then x else y) (if b then p else q)
    step true = m
    step false = n

  within : (now now' : State) (sc sc' : Scope) (run : Ran) → Keeps sc sc' → Met ts now now' sc' run → Met ts now now' sc run
  within now now' sc sc' run k m =
      record { agrees = agrees_within sc sc' now'.values run.slots k m.agrees; new = m.new; emitted_are = m.emitted_are; matches = m.matches }

  mutual
    -- the steps of a statement do what it does
    pub met : (c : Statement) (s : At) (y : Steps × At) (now : State) (mem : List ℤ) → step_of c s ≡ fine y → reach_statement c ≤ w → Ready s now mem
        → y.1.slots ≤ length mem → MetBy s now (exec c r now) y mem
    met (Declare n t) s y now mem h b k len = declare_met n t s y now mem (declared_parts n t s y h) b k len
    met (Assign n t) s y now mem h b k len =
        assign_met n t s y now mem (assigned_parts n t s y h) b k (let g = (grows (Assign n t) s y h).slots in omega (arith, g, len))
    met (Emit t is v wt) s y now mem h b k len = emit_met t is v wt s y now mem (sent_parts t is v wt s y h) b k
    met (If t a o) s y now mem h b k len =
        let d = forked_parts t a o s y h in
        let g = grows_all a (one_more s) d.first d.first_is in
        let e = grows_optional o (second_at s d.first) d.second d.second_is in
        let last : d.second.1.slots ≤ length mem = subst (λ (q : Steps × At). q.1.slots ≤ length mem) (sym d.is) len in
        let l1 : d.first.1.slots ≤ length mem = (let x = e.slots in omega (arith, x, last)) in
        let b1 : reach t ≤ w = omega (arith, b) in
        let b2 : reach_block a ≤ w = omega (arith, b) in
        let b3 : reach_optional o ≤ w = omega (arith, b) in
        let cond = term_is w r s.scope t now.values mem d.cond b1 k.agrees d.cond_is in
        let k1 : Ready (one_more s) now mem = record { sound = k.sound; ports = k.ports; agrees = k.agrees } in
        let k2 : Ready (second_at s d.first) now mem =
        record { sound = more_slots s.scope s.slots d.first.1.slots g.slots k.sound; ports = k.ports; agrees = k.agrees } in
        let m1 = within now (exec_block a r now) s.scope d.first.1.scope (ran d.first.0 (take w r) mem) g.keeps
        (met_all a (one_more s) d.first now mem d.first_is b2 k1 l1) in
        let m2 = within now (exec_optional o r now) s.scope d.second.1.scope (ran d.second.0 (take w r) mem) e.keeps
        (met_optional o (second_at s d.first) d.second now mem d.second_is b3 k2 last) in
        let both : Met ts now (exec (If t a o) r now) s.scope (ran_once (steps.If d.cond d.first.0 d.second.0) (take w r) mem) =
        if_met (λ n q. Met ts now n s.scope q) (is_true (eval t r now.values)) (is_true (val d.cond (take w r) mem)) (exec_block a r now)
        (exec_optional o r now) (ran d.first.0 (take w r) mem) (ran d.second.0 (take w r) mem) (ap is_true cond) m1 m2
        in
        subst (λ (q : Steps × At). MetBy s now (exec (If t a o) r now) q mem) d.is
        (subst (Met ts now (exec (If t a o) r now) s.scope) (one_ran (steps.If d.cond d.first.0 d.second.0) (take w r) mem) both)

    pub met_all : (b : Block) (s : At) (y : Steps × At) (now : State) (mem : List ℤ) → steps_of b s ≡ fine y → reach_block b ≤ w → Ready s now mem
        → y.1.slots ≤ length mem → MetBy s now (exec_block b r now) y mem
    met_all End s y now mem h b k len =
        subst (λ (q : Steps × At). MetBy s now now q mem) (ok_is (Done, s) y h) (none_met w r ts now now s.scope mem refl k.agrees)
    met_all (Then c o) s y now mem h b k len =
        let d = followed_parts c o s y h in
        let g = grows c s d.first d.first_is in
        let e = grows_all o d.first.1 d.others d.others_is in
        let last : d.others.1.slots ≤ length mem = subst (λ (q : Steps × At). q.1.slots ≤ length mem) (sym d.is) len in
        let l1 : d.first.1.slots ≤ length mem = (let x = e.slots in omega (arith, x, last)) in
        let b1 : reach_statement c ≤ w = omega (arith, b) in
        let b2 : reach_block o ≤ w = omega (arith, b) in
        let m = met c s d.first now mem d.first_is b1 k l1 in
        let mem' = (ran d.first.0 (take w r) mem).slots in
        let size : length mem' ≡ length mem = ran_length d.first.0 (take w r) mem in
        let n = met_all o d.first.1 d.others (exec c r now) mem' d.others_is b2 (ready_after s now (exec c r now) d.first mem k g m)
        (omega (arith, last, size)) in
        subst (λ (q : Steps × At). MetBy s now (exec_block (Then c o) r now) q mem) d.is
        (met_more w r ts now (exec c r now) (exec_block o r (exec c r now)) d.first.1.scope d.others.1.scope d.first.0 d.others.0 mem m n)

    pub met_optional : (o : Optional) (s : At) (y : Steps × At) (now : State) (mem : List ℤ) → steps_optional o s ≡ fine y → reach_optional o ≤ w
        → Ready s now mem
        → y.1.slots ≤ length mem → MetBy s now (exec_optional o r now) y mem
    met_optional Unwritten s y now mem h b k len =
        subst (λ (q : Steps × At). MetBy s now now q mem) (ok_is (Done, s) y h) (none_met w r ts now now s.scope mem refl k.agrees)
    met_optional (Written o) s y now mem h b k len = met_all o s y now mem h b k len
