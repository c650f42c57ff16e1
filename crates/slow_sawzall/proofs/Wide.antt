-- What an accepted program emits is as wide as its tables are.
use Rattle.std.proofs.Common.{◌≡◌, ℕ, zero, suc, ℤ, ◌+◌, ◌≤◌, Bool, true, false, List, [], ◌∷◌, ◌++◌, length, Option, Some, None, Ok, refl, sym, ap, ◌∙◌}
use Rattle.std.proofs.Common.{subst, arith, nat_lt, append_assoc, length-append, ⊎_elim}
use Rattle.std.specs.Prelude.{if◌then◌else◌, flat_map, slice_get}
use Rattle.std.specs.List.{AllByRecursion}
use Rattle.std.proofs.lemmas.Option.{same_Some}
use Rattle.std.proofs.lemmas.Bool.{cases_Bool}
use Rattle.river_base.proofs.Tests.{lt_by, eq_by}
use Rattle.river_base.proofs.Lists.{got_mid}
use Rattle.work_code.specs.Term.{Term}
use Rattle.work_code.specs.Steps.{Steps}
use Rattle.work_code.specs.Value.{is_true}
use Rattle.kern_tables.specs.declared.kind.TableKind.{TableKind}
use Rattle.kern_tables.specs.declared.kind.TableKind.TheVariants.{Sum, Collection, Maximum}
use Rattle.kern_tables.specs.Tables.{table_width}
use Rattle.river_base.specs.Name.{name_eq}
use Rattle.river_plan.specs.Forms.{Name, table_names}
use Rattle.river_plan.specs.declared.plan.TableDecl.{TableDecl}
use Rattle.river_plan.proofs.NameLemmas.{name_is}
use Rattle.saw_text.specs.Tree.{Expression}
use Rattle.saw_text.specs.Tree.{Statement, Declare, Assign, Emit, If, Block, End, Then, Optional, Unwritten, Written, TableUnit, StatementUnit, Program}
use Rattle.saw_model.specs.Meaning.{tables_in, eval, eval_all, Emitted, State, table_kind, table_decl}
use Rattle.saw_model.specs.Meaning.{emit_row, listed, exec, exec_block, exec_optional, exec_units, fresh_state, emits, rows_for}
use Rattle.saw_model.specs.declared.fault.Fault.TheVariants.{Limit}
use Rattle.saw_model.specs.Elaborate.{on_ok, Scope, term_of, At, indexes_of, keys_in, weight_of, step_of, steps_of, steps_optional, nothing_read}
use Rattle.saw_model.proofs.Elaborated.{fine, ok_parts, if_both, ArePorts, one_more}
use Rattle.saw_model.proofs.Fed.{AreOnce, one_place}
use Rattle.saw_model.proofs.Parts.{parts_read, reads_parts, tabled_parts, split_parts, tables_once, ports_new}
use Rattle.saw_model.proofs.Statements.{second_at, Sent, sent_parts, forked_parts, followed_parts, grows}
use Rattle.saw_front.specs.Valued.{IsValued, AreValued, AreValuedOptional, AreValuedUnits}
use Rattle.slow_sawzall.specs.Sawzall.{IsAccepted, IsRunnable, AreRunnable, AreRunnableOptional, AreRunnableParts, AreAllWide, AreWideFor}
use Rattle.slow_sawzall.proofs.Runs.{evals_many}

-- THE PARTS OF AN EMIT

-- at most 8 indexes are read
indexes_few : (sc : Scope) (n : ℕ) (ts : List Expression) (us : List Term) → n ≤ 8 → indexes_of sc n ts ≡ Ok us → n + length ts ≤ 8
indexes_few sc n [] us le h = omega (arith, le)
indexes_few sc n (t ∷ ts) us le h =
    let c = if_both (nat_lt n 8) (on_ok (term_of sc t) (λ u. on_ok (indexes_of sc (n + 1) ts) (λ us. Ok (u ∷ us)))) us Limit h in
    let p = ok_parts (term_of sc t) (λ u. on_ok (indexes_of sc (n + 1) ts) (λ us. Ok (u ∷ us))) us c.1 in
    let q = ok_parts (indexes_of sc (n + 1) ts) (λ us. Ok (p.0 ∷ us)) us p.2 in
    let lt = lt_by n 8 c.0 in
    let e = indexes_few sc (n + 1) ts q.0 (omega (arith, lt)) q.1 in
    omega (arith, e)

listed_few : (w : Option Expression) → length (listed w) ≤ 1
listed_few None = omega arith
listed_few (Some t) = omega arith

-- keys, a value and a weight, if there is one, are as many as the table is wide
weight_wide : (k : TableKind) (w : Option Expression) (sc : Scope) (us : List Term) → weight_of k w sc ≡ fine us
    → keys_in k + suc (length (listed w)) ≡ table_width k
weight_wide (Sum keys) None sc us h = omega arith
weight_wide (Sum keys) (Some t) sc us h = absurd (cc h)
weight_wide (Collection keys) None sc us h = omega arith
weight_wide (Collection keys) (Some t) sc us h = absurd (cc h)
weight_wide (Maximum best keys) None sc us h = absurd (cc h)
weight_wide (Maximum best keys) (Some t) sc us h = omega arith

parts_many : (is : List Expression) (v : Expression) (w : Option Expression) → length (emit_row is v w) ≡ length is + suc (length (listed w))
parts_many is v w = length-append is (v ∷ listed w)

-- WHAT CAN BE RUN

sent_few : (t : Name) (is : List Expression) (v : Expression) (w : Option Expression) (s : At) (y : Steps × At) → Sent t is v w s y
    → length (emit_row is v w) ≤ 16
sent_few t is v w s y d =
    let a = indexes_few s.scope 0 is d.indexes (omega arith) d.indexes_is in
    let b = listed_few w in let c = parts_many is v w in
    omega (arith, a, b, c)

mutual
  step_runs : (c : Statement) (s : At) (y : Steps × At) → step_of c s ≡ fine y → IsValued c → IsRunnable c
  step_runs (Declare n t) s y h v = v
  step_runs (Assign n t) s y h v = v
  step_runs (Emit t is x w) s y h v = (v.0, v.1, v.2, sent_few t is x w s y (sent_parts t is x w s y h))
  step_runs (If t a b) s y h v =
      let d = forked_parts t a b s y h in
      (v.0, steps_run a (one_more s) d.first d.first_is v.1, optional_runs b (second_at s d.first) d.second d.second_is v.2)

  steps_run : (b : Block) (s : At) (y : Steps × At) → steps_of b s ≡ fine y → AreValued b → AreRunnable b
  steps_run End s y h v = tt
  steps_run (Then c b) s y h v =
      let d = followed_parts c b s y h in
      (step_runs c s d.first d.first_is v.0, steps_run b d.first.1 d.others d.others_is v.1)

  optional_runs : (o : Optional) (s : At) (y : Steps × At) → steps_optional o s ≡ fine y → AreValuedOptional o → AreRunnableOptional o
  optional_runs Unwritten s y h v = tt
  optional_runs (Written b) s y h v = steps_run b s y h v

parts_run : (p : Program) (s : At) (y : Steps × At) → parts_read p s ≡ fine y → AreValuedUnits p → AreRunnableParts p
parts_run [] s y h v = tt
parts_run (TableUnit tb ∷ ps) s y h v = let d = split_parts (TableUnit tb) ps s y h in (tt, parts_run ps d.first.1 d.others d.others_is v.1)
parts_run (StatementUnit c ∷ ps) s y h v =
    let d = split_parts (StatementUnit c) ps s y h in
    (step_runs c s d.first d.first_is v.0, parts_run ps d.first.1 d.others d.others_is v.1)

-- an accepted program can be run
pub accepted_runs : (p : Program) → IsAccepted p → AreValuedUnits p → AreRunnableParts p
accepted_runs p a v = parts_run p nothing_read a.0 (reads_parts 1 p nothing_read a.0 a.1) v

-- HOW WIDE A TABLE IS

-- each of these tables that has this name is so wide
record IsTableWide (ts : List TableDecl) (n : Name) (width : ℕ) : Type 0 where
  pub each : (i : ℕ) (t : TableDecl) → slice_get ts i ≡ Some t → t.name ≡ n → width ≡ table_width t.kind

module _ (ts : List TableDecl) where
  abbrev mutual
    IsStepWide : Statement → Type 0
    IsStepWide (Declare n t) = Unit {0}
    IsStepWide (Assign n t) = Unit {0}
    IsStepWide (Emit t is v w) = IsTableWide ts t (length (emit_row is v w))
    IsStepWide (If t a b) = AreStepsWide a × IsOptionalWide b

    AreStepsWide : Block → Type 0
    AreStepsWide End = Unit {0}
    AreStepsWide (Then c b) = IsStepWide c × AreStepsWide b

    IsOptionalWide : Optional → Type 0
    IsOptionalWide Unwritten = Unit {0}
    IsOptionalWide (Written b) = AreStepsWide b

  abbrev ArePartsWide : Program → Type 0
  ArePartsWide [] = Unit {0}
  ArePartsWide (TableUnit tb ∷ ps) = ArePartsWide ps
  ArePartsWide (StatementUnit c ∷ ps) = IsStepWide c × ArePartsWide ps

  -- AS IT IS READ

  got_name : (us : List TableDecl) (i : ℕ) (t : TableDecl) → slice_get us i ≡ Some t → slice_get (table_names us) i ≡ Some t.name
  got_name [] i t g = absurd (cc g)
  got_name (u ∷ us) zero t g = ap (λ (x : TableDecl). Some x.name) (same_Some u t g)
  got_name (u ∷ us) (suc i) t g = got_name us i t g

  sent_wide : AreOnce (table_names ts) → (t : Name) (is : List Expression) (v : Expression) (w : Option Expression) (s : At) (y : Steps × At)
      → Sent t is v w s y
      → ArePorts ts s.scope → IsTableWide ts t (length (emit_row is v w))
  sent_wide once t is v w s y d a =
      let p = d.port.0 in let k = d.port.1 in
      let decl : TableDecl = record { name = t; kind = k } in
      let there : slice_get ts p ≡ Some decl = a.port t p k d.port_there in
      let keys = eq_by (length is) (keys_in k) d.shape in
      let many = parts_many is v w in
      let wide = weight_wide k w s.scope d.weights d.weights_is in
      record {
        each = λ i u g e.
            let at : i ≡ p = one_place (table_names ts) i p t once (got_name ts i u g ∙ ap Some e) (got_name ts p decl there) in
            let same : u ≡ decl = same_Some u decl (sym g ∙ ap (slice_get ts) at ∙ there) in
            let full : length (emit_row is v w) ≡ table_width k = omega (arith, many, keys, wide) in
            full ∙ ap (λ (x : TableDecl). table_width x.kind) (sym same);
      }

  mutual
    step_wide : AreOnce (table_names ts) → (c : Statement) (s : At) (y : Steps × At) → step_of c s ≡ fine y → ArePorts ts s.scope → IsStepWide c
    step_wide once (Declare n t) s y h a = tt
    step_wide once (Assign n t) s y h a = tt
    step_wide once (Emit t is v w) s y h a = sent_wide once t is v w s y (sent_parts t is v w s y h) a
    step_wide once (If t x z) s y h a =
        let d = forked_parts t x z s y h in
        (steps_wide once x (one_more s) d.first d.first_is a, optional_wide once z (second_at s d.first) d.second d.second_is a)

    steps_wide : AreOnce (table_names ts) → (b : Block) (s : At) (y : Steps × At) → steps_of b s ≡ fine y → ArePorts ts s.scope → AreStepsWide b
    steps_wide once End s y h a = tt
    steps_wide once (Then c b) s y h a =
        let d = followed_parts c b s y h in
        (step_wide once c s d.first d.first_is a, steps_wide once b d.first.1 d.others d.others_is ((grows c s d.first d.first_is).ports ts a))

    optional_wide : AreOnce (table_names ts) → (o : Optional) (s : At) (y : Steps × At) → steps_optional o s ≡ fine y → ArePorts ts s.scope → IsOptionalWide o
    optional_wide once Unwritten s y h a = tt
    optional_wide once (Written b) s y h a = steps_wide once b s y h a

  parts_wide : AreOnce (table_names ts) → (p : Program) (s : At) (y : Steps × At) (done : List TableDecl) → parts_read p s ≡ fine y
      → ArePorts ts s.scope → ts ≡ done ++ tables_in p → s.tables ≡ length done → ArePartsWide p
  parts_wide once [] s y done h a t e = tt
  parts_wide once (TableUnit tb ∷ ps) s y done h a t e =
      let d = split_parts (TableUnit tb) ps s y h in
      let here = tabled_parts tb.name (table_kind tb) s d.first d.first_is in
      let decl : TableDecl = table_decl tb in
      let got : slice_get ts s.tables ≡ Some decl = ap (slice_get ts) e ∙ ap (λ l. slice_get l (length done)) t ∙ got_mid done decl (tables_in ps) in
      let more : ArePorts ts d.first.1.scope =
      subst (λ (q : Steps × At). ArePorts ts q.1.scope) here.is (ports_new ts tb.name s.tables (table_kind tb) s.scope got a) in
      let e2 : d.first.1.tables ≡ length (done ++ decl ∷ []) = ap (λ (q : Steps × At). q.1.tables) (sym here.is)
      ∙ (let l = length-append done (decl ∷ []) in omega (arith, l, e)) in
      parts_wide once ps d.first.1 d.others (done ++ decl ∷ []) d.others_is more (t ∙ sym (append_assoc done (decl ∷ []) (tables_in ps))) e2
  parts_wide once (StatementUnit c ∷ ps) s y done h a t e =
      let d = split_parts (StatementUnit c) ps s y h in
      let g = grows c s d.first d.first_is in
      (step_wide once c s d.first d.first_is a, parts_wide once ps d.first.1 d.others done d.others_is (g.ports ts a) t (g.tables ∙ e))

  -- AS IT IS RUN

  abbrev AreRowsWide : List Emitted → Type 0
  AreRowsWide es = AllByRecursion (λ (e : Emitted). IsTableWide ts e.0 (length e.1)) es

  wide-append : (xs ys : List Emitted) → AreRowsWide xs → AreRowsWide ys → AreRowsWide (xs ++ ys)
  wide-append [] ys h k = k
  wide-append (x ∷ xs) ys h k = (h.0, wide-append xs ys h.1 k)

  if_wide : (b : Bool) (x y : State) → AreRowsWide x.emitted → AreRowsWide y.emitted → AreRowsWide (if b then x else y).emitted
  if_wide true x y h k = h
  if_wide false x y h k = k

  mutual
    exec_wide : (c : Statement) (r : List ℤ) (s : State) → IsStepWide c → AreRowsWide s.emitted → AreRowsWide (exec c r s).emitted
    exec_wide (Declare n t) r s h k = k
    exec_wide (Assign n t) r s h k = k
    exec_wide (Emit t is v w) r s h k =
        let parts = emit_row is v w in
        let one : IsTableWide ts t (length (eval_all parts r s.values)) = subst (IsTableWide ts t) (sym (evals_many parts r s.values)) h in
        wide-append s.emitted ((t, eval_all parts r s.values) ∷ []) k (one, tt)
    exec_wide (If t a b) r s h k =
        if_wide (is_true (eval t r s.values)) (exec_block a r s) (exec_optional b r s) (exec_block_wide a r s h.0 k) (exec_optional_wide b r s h.1 k)

    exec_block_wide : (b : Block) (r : List ℤ) (s : State) → AreStepsWide b → AreRowsWide s.emitted → AreRowsWide (exec_block b r s).emitted
    exec_block_wide End r s h k = k
    exec_block_wide (Then c b) r s h k = exec_block_wide b r (exec c r s) h.1 (exec_wide c r s h.0 k)

    exec_optional_wide : (o : Optional) (r : List ℤ) (s : State) → IsOptionalWide o → AreRowsWide s.emitted → AreRowsWide (exec_optional o r s).emitted
    exec_optional_wide Unwritten r s h k = k
    exec_optional_wide (Written b) r s h k = exec_block_wide b r s h k

  exec_units_wide : (p : Program) (r : List ℤ) (s : State) → ArePartsWide p → AreRowsWide s.emitted → AreRowsWide (exec_units p r s).emitted
  exec_units_wide [] r s h k = k
  exec_units_wide (TableUnit tb ∷ ps) r s h k = exec_units_wide ps r s h k
  exec_units_wide (StatementUnit c ∷ ps) r s h k = exec_units_wide ps r (exec c r s) h.1 (exec_wide c r s h.0 k)

  all_wide : (p : Program) (rows : List (List ℤ)) → ArePartsWide p → AreRowsWide (flat_map (emits p) rows)
  all_wide p [] h = tt
  all_wide p (r ∷ rs) h = wide-append (emits p r) (flat_map (emits p) rs) (exec_units_wide p r fresh_state h tt) (all_wide p rs h)

  -- TABLE BY TABLE

  rows_wide : (es : List Emitted) (i : ℕ) (t : TableDecl) → slice_get ts i ≡ Some t → AreRowsWide es → AreAllWide (table_width t.kind) (rows_for t.name es)
  rows_wide [] i t g h = tt
  rows_wide (e ∷ es) i t g h = ⊎_elim
      (λ c. subst (AreAllWide (table_width t.kind)) (sym (ap (λ b. if b then e.1 ∷ rows_for t.name es else rows_for t.name es) c))
      (h.0.each i t g (sym (name_is e.0 t.name c)), rows_wide es i t g h.1))
      (λ c. subst (AreAllWide (table_width t.kind)) (sym (ap (λ b. if b then e.1 ∷ rows_for t.name es else rows_for t.name es) c)) (rows_wide es i t g h.1))
      (cases_Bool (name_eq e.0 t.name))

  tables_wide : (p : Program) (done : List TableDecl) (es : List Emitted) → ts ≡ done ++ tables_in p → AreRowsWide es → AreWideFor p es
  tables_wide [] done es e h = tt
  tables_wide (TableUnit tb ∷ ps) done es e h =
      let decl : TableDecl = table_decl tb in
      let got : slice_get ts (length done) ≡ Some decl = ap (λ l. slice_get l (length done)) e ∙ got_mid done decl (tables_in ps) in
      (rows_wide es (length done) decl got h, tables_wide ps (done ++ decl ∷ []) es (e ∙ sym (append_assoc done (decl ∷ []) (tables_in ps))) h)
  tables_wide (StatementUnit c ∷ ps) done es e h = (tt, tables_wide ps done es e h)

-- what all records emit is as wide as the tables are
pub accepted_wide : (p : Program) (rows : List (List ℤ)) → IsAccepted p → AreWideFor p (flat_map (emits p) rows)
accepted_wide p rows a =
    let ts = tables_in p in
    let h = reads_parts 1 p nothing_read a.0 a.1 in
    let none : ArePorts ts nothing_read.scope = record { port = λ n q k f. absurd (cc f) } in
    tables_wide ts p [] (flat_map (emits p) rows) refl
    (all_wide ts p rows (parts_wide ts (tables_once p nothing_read a.0 h) p nothing_read a.0 [] h none refl refl))
