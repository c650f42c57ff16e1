-- A whole program and the body of its plan.
use Rattle.std.proofs.Common.{◌≡◌, ℕ, suc, ℤ, pos, ◌+◌, ◌<◌, ◌≤◌, true, List, [], ◌∷◌, ◌++◌, length, take, Some, None, Result, Ok, Err, refl, sym, ap}
use Rattle.std.proofs.Common.{◌∙◌, subst, arith, nat_lt, nat_le, replicate, append_assoc, length-append, ⊎_elim}
use Rattle.std.specs.Prelude.{slice_get}
use Rattle.std.proofs.lemmas.List.{length-replicate}
use Rattle.std.proofs.lemmas.Bool.{ltb-true, leb-true}
use Rattle.std.proofs.lemmas.Option.{none-some}
use Rattle.river_base.proofs.Options.{none_some}
use Rattle.river_base.proofs.Lists.{got_mid}
use Rattle.work_code.specs.Steps.{Steps, Done, both_steps}
use Rattle.work_code.specs.Ran.{ran}
use Rattle.kern_rows.proofs.Lengths.{ran_length}
use Rattle.kern_tables.specs.declared.kind.TableKind.{TableKind}
use Rattle.river_plan.specs.Forms.{Name, table_names}
use Rattle.river_plan.specs.Names.{count, one_if}
use Rattle.river_plan.specs.declared.plan.TableDecl.{TableDecl}
use Rattle.river_plan.proofs.NameLemmas.{name_same, cases_name}
use Rattle.saw_text.specs.Tree.{UnitForm, TableUnit, StatementUnit, Program}
use Rattle.saw_model.specs.Meaning.{tables_in, State, exec, exec_units, fresh_state, emits, reach_statement, reach_parts, table_kind, table_decl}
use Rattle.saw_model.specs.declared.fault.Fault.TheVariants.{Limit}
use Rattle.saw_model.specs.declared.fault.Refusal.{Refusal}
use Rattle.saw_model.specs.Elaborate.{on_ok, demand, KnownName, Var, Port, Scope, find, At, is_new, keys_in, Read, is_best, tabled, table_of}
use Rattle.saw_model.specs.Elaborate.{unit_judged, nothing_read}
use Rattle.saw_model.specs.Judged.{on_fine, in_unit, units_judged}
use Rattle.saw_model.proofs.Elaborated.{fine, ok_is, ok_parts, demanded, found_here, found_other, Agrees, ArePorts, Keeps, keeps_new, sound_port, Matches}
use Rattle.saw_model.proofs.Elaborated.{met_more, none_met}
use Rattle.saw_model.proofs.Statements.{new_is, grows, met, Ready, MetBy, ready_after}

-- what is read of all units, whichever their numbers
abbrev pub parts_read : Program → At → Read
parts_read [] s = Ok (Done, s)
parts_read (c ∷ ps) s = on_ok (unit_judged c s) (λ p. on_ok (parts_read ps p.1) (λ q. Ok (both_steps p.0 q.0, q.1)))

-- units are read one after another
pub reads_parts : (k : ℕ) (p : Program) (s : At) (y : Steps × At) → units_judged k p s ≡ Ok y → parts_read p s ≡ Ok y
reads_parts k [] s y h = cc h
reads_parts k (c ∷ ps) s y h = first (λ p q e. reads_parts (suc k) ps p.1 q e) (unit_judged c s) h where
  more : (p : Steps × At) (r : Result (Steps × At) Refusal) → ((q : Steps × At) → r ≡ Ok q → parts_read ps p.1 ≡ Ok q)
      → on_fine r (λ q. Ok (both_steps p.0 q.0, q.1)) ≡ Ok y
      → on_ok (parts_read ps p.1) (λ q. Ok (both_steps p.0 q.0, q.1)) ≡ Ok y
  more p (Ok q) f g = ap (λ r. on_ok r (λ q. Ok (both_steps p.0 q.0, q.1))) (f q refl) ∙ cc g
  more p (Err e) f g = absurd (cc g)

  first : ((p q : Steps × At) → units_judged (suc k) ps p.1 ≡ Ok q → parts_read ps p.1 ≡ Ok q) → (r : Read)
      → in_unit k r (λ p. on_fine (units_judged (suc k) ps p.1) (λ q. Ok (both_steps p.0 q.0, q.1))) ≡ Ok y
      → on_ok r (λ p. on_ok (parts_read ps p.1) (λ q. Ok (both_steps p.0 q.0, q.1))) ≡ Ok y
  first f (Ok p) g = more p (units_judged (suc k) ps p.1) (f p) g
  first f (Err e) g = absurd (cc g)

pub record Tabled (n : Name) (k : TableKind) (s : At) (y : Steps × At) : Type 0 where
  pub new : find s.scope n ≡ None
  pub few : s.tables < 64
  pub best : is_best k ≡ true
  pub keys : keys_in k ≤ 8
  pub is : tabled n k s ≡ y

-- the parts of a table's unit
pub tabled_parts : (n : Name) (k : TableKind) (s : At) (y : Steps × At) → table_of n k s ≡ fine y → Tabled n k s y
tabled_parts n k s y h =
    let r3 : Unit {0} → Read = λ x. Ok (tabled n k s) in
    let r2 : Unit {0} → Read = λ w. on_ok (demand (nat_le (keys_in k) 8) Limit) r3 in
    let r1 : Unit {0} → Read = λ v. on_ok (demand (is_best k) Limit) r2 in
    let a = ok_parts (is_new (find s.scope n)) (λ u. on_ok (demand (nat_lt s.tables 64) Limit) r1) y h in
    let b = ok_parts (demand (nat_lt s.tables 64) Limit) r1 y a.2 in
    let c = ok_parts (demand (is_best k) Limit) r2 y b.2 in
    let d = ok_parts (demand (nat_le (keys_in k) 8) Limit) r3 y c.2 in
    record {
      new = new_is (find s.scope n) a.0 a.1;
      few = ltb-true s.tables 64 (demanded (nat_lt s.tables 64) Limit b.0 b.1);
      best = demanded (is_best k) Limit c.0 c.1;
      keys = leb-true (keys_in k) 8 (demanded (nat_le (keys_in k) 8) Limit d.0 d.1);
      is = ok_is (tabled n k s) y d.2;
    }

pub record Split (c : UnitForm) (ps : Program) (s : At) (y : Steps × At) : Type 0 where
  pub first : Steps × At
  pub first_is : unit_judged c s ≡ Ok first
  pub others : Steps × At
  pub others_is : parts_read ps first.1 ≡ Ok others
  pub is : (both_steps first.0 others.0, others.1) ≡ y

-- the first unit and the others
pub split_parts : (c : UnitForm) (ps : Program) (s : At) (y : Steps × At) → parts_read (c ∷ ps) s ≡ fine y → Split c ps s y
split_parts c ps s y h =
    let p = ok_parts (unit_judged c s) (λ p. on_ok (parts_read ps p.1) (λ q. Ok (both_steps p.0 q.0, q.1))) y h in
    let q = ok_parts (parts_read ps p.0.1) (λ q. Ok (both_steps p.0.0 q.0, q.1)) y p.2 in
    record { first = p.0; first_is = p.1; others = q.0; others_is = q.1; is = ok_is _ y q.2 }

-- slots are never given back
pub part_slots : (c : UnitForm) (s : At) (y : Steps × At) → unit_judged c s ≡ fine y → s.slots ≤ y.1.slots
part_slots (TableUnit tb) s y h = let d = tabled_parts tb.name (table_kind tb) s y h in subst (λ (q : Steps × At). s.slots ≤ q.1.slots) d.is (omega arith)
part_slots (StatementUnit c) s y h = (grows c s y h).slots

-- slots only grow
pub parts_slots : (p : Program) (s : At) (y : Steps × At) → parts_read p s ≡ fine y → s.slots ≤ y.1.slots
parts_slots [] s y h = subst (λ (q : Steps × At). s.slots ≤ q.1.slots) (ok_is (Done, s) y h) (omega arith)
parts_slots (c ∷ ps) s y h =
    let d = split_parts c ps s y h in
    let a = part_slots c s d.first d.first_is in
    let b = parts_slots ps d.first.1 d.others d.others_is in
    subst (λ (q : Steps × At). s.slots ≤ q.1.slots) d.is (omega (arith, a, b))

-- what is known stays known
part_keeps : (c : UnitForm) (s : At) (y : Steps × At) → unit_judged c s ≡ fine y → Keeps s.scope y.1.scope
part_keeps (TableUnit tb) s y h =
    let d = tabled_parts tb.name (table_kind tb) s y h in subst (λ (q : Steps × At). Keeps s.scope q.1.scope) d.is
    (keeps_new tb.name (Port s.tables (table_kind tb)) s.scope d.new)
part_keeps (StatementUnit c) s y h = (grows c s y h).keeps

-- no table has a known name
pub not_known : (p : Program) (s : At) (y : Steps × At) (n : Name) (b : KnownName) → parts_read p s ≡ fine y → find s.scope n ≡ Some b
    → count n (table_names (tables_in p)) ≡ 0
not_known [] s y n b h f = refl
not_known (TableUnit tb ∷ ps) s y n b h f =
    let d = split_parts (TableUnit tb) ps s y h in
    let t = tabled_parts tb.name (table_kind tb) s d.first d.first_is in
    let more = not_known ps d.first.1 d.others n b d.others_is (part_keeps (TableUnit tb) s d.first d.first_is n b f) in
    ⊎_elim
    (λ c. absurd (none_some (find s.scope n) b (subst (λ x. find s.scope x ≡ None) c.0 t.new) f))
    (λ c. let e = ap one_if c.1 in omega (arith, e, more))
    (cases_name tb.name n)
not_known (StatementUnit c ∷ ps) s y n b h f =
    let d = split_parts (StatementUnit c) ps s y h in
    not_known ps d.first.1 d.others n b d.others_is (part_keeps (StatementUnit c) s d.first d.first_is n b f)

-- each table has a name of its own
pub tables_once : (p : Program) (s : At) (y : Steps × At) → parts_read p s ≡ fine y → (n : Name) → count n (table_names (tables_in p)) ≤ 1
tables_once [] s y h n = omega arith
tables_once (TableUnit tb ∷ ps) s y h n =
    let d = split_parts (TableUnit tb) ps s y h in
    let t = tabled_parts tb.name (table_kind tb) s d.first d.first_is in
    let more = tables_once ps d.first.1 d.others d.others_is n in
    let there : find d.first.1.scope tb.name ≡ Some (Port s.tables (table_kind tb)) =
    subst (λ (q : Steps × At). find q.1.scope tb.name ≡ Some (Port s.tables (table_kind tb))) t.is
    (found_here tb.name tb.name (Port s.tables (table_kind tb)) s.scope (name_same tb.name)) in
    ⊎_elim
    (λ c.
    let z : count n (table_names (tables_in ps)) ≡ 0 =
    subst (λ x. count x (table_names (tables_in ps)) ≡ 0) c.0 (not_known ps d.first.1 d.others tb.name (Port s.tables (table_kind tb)) d.others_is there) in
    let e = ap one_if c.1 in omega (arith, z, e))
    (λ c. let e = ap one_if c.1 in omega (arith, e, more))
    (cases_name tb.name n)
tables_once (StatementUnit c ∷ ps) s y h n = let d = split_parts (StatementUnit c) ps s y h in tables_once ps d.first.1 d.others d.others_is n

-- at most 64 tables
pub tables_few : (p : Program) (s : At) (y : Steps × At) → parts_read p s ≡ fine y → s.tables ≤ 64 → s.tables + length (tables_in p) ≤ 64
tables_few [] s y h le = omega (arith, le)
tables_few (TableUnit tb ∷ ps) s y h le =
    let d = split_parts (TableUnit tb) ps s y h in
    let t = tabled_parts tb.name (table_kind tb) s d.first d.first_is in
    let e : d.first.1.tables ≡ s.tables + 1 = ap (λ (q : Steps × At). q.1.tables) (sym t.is) in
    let lt = t.few in
    let more = tables_few ps d.first.1 d.others d.others_is (omega (arith, e, lt)) in
    omega (arith, e, more)
tables_few (StatementUnit c ∷ ps) s y h le =
    let d = split_parts (StatementUnit c) ps s y h in
    let e = (grows c s d.first d.first_is).tables in
    let more = tables_few ps d.first.1 d.others d.others_is (omega (arith, e, le)) in
    omega (arith, e, more)

-- THE RUN

port_one : (p q : ℕ) (k l : TableKind) → Some (Port p k) ≡ Some (Port q l) → (p ≡ q) × (k ≡ l)
port_one p q k l h = (cc, cc)

-- one table more
pub ports_new : (ts : List TableDecl) (n : Name) (p : ℕ) (k : TableKind) (sc : Scope) → slice_get ts p ≡ Some (record { name = n; kind = k }) → ArePorts ts sc
    → ArePorts ts ((n, Port p k) ∷ sc)
ports_new ts n p k sc g a = record {
  port = λ m q l f. ⊎_elim
      (λ e.
      let same = port_one p q k l (sym (found_here n m (Port p k) sc e.1) ∙ f) in
      ap (slice_get ts) (sym same.0) ∙ g ∙ (λ i. Some (record { name = e.0 i; kind = same.1 i })))
      (λ e. a.port m q l (sym (found_other n m (Port p k) sc e.1) ∙ f))
      (cases_name n m);
}

module _ (w : ℕ) (r : List ℤ) (ts : List TableDecl) where
  agrees_port : (n : Name) (p : ℕ) (k : TableKind) (sc : Scope) (env : Name → ℤ) (mem : List ℤ) → Agrees sc env mem → Agrees ((n, Port p k) ∷ sc) env mem
  agrees_port n p k sc env mem a = record {
    each = λ m i f. ⊎_elim
        (λ e. absurd (no_var (sym (found_here n m (Port p k) sc e.1) ∙ f)))
        (λ e. a.each m i (sym (found_other n m (Port p k) sc e.1) ∙ f))
        (cases_name n m);
  }
    where
      no_var : {i : ℕ} → Some (Port p k) ≡ Some (Var i) → ⊥
      no_var h = cc h

  pub parts_met : (p : Program) (s : At) (y : Steps × At) (now : State) (mem : List ℤ) (done : List TableDecl) → parts_read p s ≡ fine y → reach_parts p ≤ w
      → Ready w r ts s now mem → y.1.slots ≤ length mem
      → ts ≡ done ++ tables_in p → s.tables ≡ length done → MetBy w r ts s now (exec_units p r now) y mem
  parts_met [] s y now mem done h b k len t e =
      subst (λ (q : Steps × At). MetBy w r ts s now now q mem) (ok_is (Done, s) y h) (none_met w r ts now now s.scope mem refl k.agrees)
  parts_met (TableUnit tb ∷ ps) s y now mem done h b k len t e =
      let d = split_parts (TableUnit tb) ps s y h in
      let here = tabled_parts tb.name (table_kind tb) s d.first d.first_is in
      let decl : TableDecl = table_decl tb in
      let sc : Scope = (tb.name, Port s.tables (table_kind tb)) ∷ s.scope in
      let got : slice_get ts s.tables ≡ Some decl = ap (slice_get ts) e ∙ ap (λ l. slice_get l (length done)) t ∙ got_mid done decl (tables_in ps) in
      let m : MetBy w r ts s now now d.first mem =
      subst (λ (q : Steps × At). MetBy w r ts s now now q mem) here.is
      (none_met w r ts now now sc mem refl (agrees_port tb.name s.tables (table_kind tb) s.scope now.values mem k.agrees)) in
      let made : At = record s { scope = sc; tables = s.tables + 1 } in
      let k1 : Ready w r ts made now mem =
      record {
        sound = sound_port tb.name s.tables (table_kind tb) s.scope s.slots k.sound;
        ports =
            ports_new ts tb.name s.tables (table_kind tb) s.scope got k.ports;
        agrees =
            agrees_port tb.name s.tables (table_kind tb) s.scope now.values mem k.agrees;
      } in
      let k2 : Ready w r ts d.first.1 now mem = subst (λ (q : Steps × At). Ready w r ts q.1 now mem) here.is k1 in
      let e2 : d.first.1.tables ≡ length (done ++ decl ∷ []) = ap (λ (q : Steps × At). q.1.tables) (sym here.is)
      ∙ (let l = length-append done (decl ∷ []) in omega (arith, l, e)) in
      let t2 : ts ≡ (done ++ decl ∷ []) ++ tables_in ps = t ∙ sym (append_assoc done (decl ∷ []) (tables_in ps)) in
      let last : d.others.1.slots ≤ length mem = subst (λ (q : Steps × At). q.1.slots ≤ length mem) (sym d.is) len in
      let mem' = (ran d.first.0 (take w r) mem).slots in
      let nothing : mem' ≡ mem = ap (λ (q : Steps × At). (ran q.0 (take w r) mem).slots) (sym here.is) in
      let n' = parts_met ps d.first.1 d.others now mem (done ++ decl ∷ []) d.others_is b k2 last t2 e2 in
      subst (λ (q : Steps × At). MetBy w r ts s now (exec_units ps r now) q mem) d.is
      (met_more w r ts now now (exec_units ps r now) d.first.1.scope d.others.1.scope d.first.0 d.others.0 mem m
      (subst (λ l. MetBy w r ts d.first.1 now (exec_units ps r now) d.others l) (sym nothing) n'))
  parts_met (StatementUnit c ∷ ps) s y now mem done h b k len t e =
      let d = split_parts (StatementUnit c) ps s y h in
      let g = grows c s d.first d.first_is in
      let more = parts_slots ps d.first.1 d.others d.others_is in
      let last : d.others.1.slots ≤ length mem = subst (λ (q : Steps × At). q.1.slots ≤ length mem) (sym d.is) len in
      let b1 : reach_statement c ≤ w = omega (arith, b) in
      let b2 : reach_parts ps ≤ w = omega (arith, b) in
      let m = met w r ts c s d.first now mem d.first_is b1 k (omega (arith, more, last)) in
      let mem' = (ran d.first.0 (take w r) mem).slots in
      let size : length mem' ≡ length mem = ran_length d.first.0 (take w r) mem in
      let n = parts_met ps d.first.1 d.others (exec c r now) mem' done d.others_is b2 (ready_after w r ts s now (exec c r now) d.first mem k g m)
      (omega (arith, last, size)) t (g.tables ∙ e) in
      subst (λ (q : Steps × At). MetBy w r ts s now (exec_units (StatementUnit c ∷ ps) r now) q mem) d.is
      (met_more w r ts now (exec c r now) (exec_units ps r (exec c r now)) d.first.1.scope d.others.1.scope d.first.0 d.others.0 mem m n)

-- one record: what the body pushes is what the program emits
pub record_met : (p : Program) (y : Steps × At) (w : ℕ) (r : List ℤ) → parts_read p nothing_read ≡ fine y → reach_parts p ≤ w
    → Matches (tables_in p) (emits p r) (ran y.0 (take w r) (replicate y.1.slots (pos 0))).pushes
record_met p y w r h b =
    let mem = replicate y.1.slots (pos 0) in
    let none_known : (n : Name) (b : KnownName) → find [] n ≡ Some b → ⊥ = λ n b f. none-some _ f in
    let k : Ready w r (tables_in p) nothing_read fresh_state mem = record {
      sound = record { below = λ n i f. absurd (none_known n (Var i) f); apart = λ n m i f g. absurd (none_known n (Var i) f) };
      ports = record { port = λ n p k f. absurd (none_known n (Port p k) f) };
      agrees = record { each = λ n i f. absurd (none_known n (Var i) f) };
    } in
    let m = parts_met w r (tables_in p) p nothing_read y fresh_state mem [] h b k (let l = length-replicate y.1.slots (pos 0) in omega (arith, l)) refl refl in
    subst (λ es. Matches (tables_in p) es (ran y.0 (take w r) mem).pushes) (sym m.emitted_are) m.matches
