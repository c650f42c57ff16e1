-- What a program emits are rows for its tables.
use Rattle.std.proofs.Common.{◌≡◌, ℕ, suc, ℤ, Bool, true, false, List, [], ◌∷◌, ◌++◌, length, Option, Some, None, Ok, refl, sym, ap, ◌∙◌, subst, arith}
use Rattle.std.proofs.Common.{length-append, append_assoc, ⊎_elim}
use Rattle.std.specs.Prelude.{if◌then◌else◌, flat_map, slice_get, All}
use Rattle.std.proofs.lemmas.Bool.{eqb-true}
use Rattle.std.proofs.lemmas.List.Elements.{All-head, All-tail, All-cons, All-nil, All-append}
use Rattle.std.proofs.lemmas.Option.{same_Some, none-some}
use Rattle.river_base.proofs.Lists.{got_mid}
use Rattle.work_code.specs.Term.{Term}
use Rattle.work_code.specs.Steps.{Steps}
use Rattle.work_code.specs.Value.{is_true}
use Rattle.kern_tables.specs.declared.kind.TableKind.{TableKind}
use Rattle.kern_tables.specs.declared.kind.TableKind.TheVariants.{Sum, Collection, Maximum}
use Rattle.kern_tables.specs.Pieces.{AreRowsFor}
use Rattle.kern_tables.specs.Tables.{table_width}
use Rattle.river_plan.specs.Forms.{Name, table_names}
use Rattle.river_plan.specs.declared.plan.TableDecl.{TableDecl}
use Rattle.river_plan.proofs.NameLemmas.{cases_name}
use Rattle.saw_text.specs.Tree.{Expression}
use Rattle.saw_text.specs.Tree.{Statement, Declare, Assign, Emit, If, Block, End, Then, Optional, Unwritten, Written, TableUnit, StatementUnit, Program}
use Rattle.saw_model.specs.Meaning.{tables_in, table_kind, table_decl, eval, Store, Emitted, State, eval_all, listed, emit_row}
use Rattle.saw_model.specs.Meaning.{exec, exec_block, exec_optional, exec_units, fresh_state, emits, rows_for}
use Rattle.saw_model.specs.Elaborate.{Scope, term_of, At, keys_in, weight_of, step_of, steps_of, steps_optional, nothing_read}
use Rattle.saw_model.specs.Pieces.{EmitsAreRows}
use Rattle.saw_model.proofs.Elaborated.{fine, ok_is, ok_parts, ArePorts, one_more}
use Rattle.saw_model.proofs.Fed.{AreOnce, one_place, got_name}
use Rattle.saw_model.proofs.Formed.{weight_many}
use Rattle.saw_model.proofs.Parts.{parts_read, reads_parts, tabled_parts, split_parts, ports_new, tables_once}
use Rattle.saw_model.proofs.Statements.{second_at, sent_parts, forked_parts, followed_parts, grows}

-- a table of this name and kind
abbrev declared : Name → TableKind → TableDecl
declared n k = record { name = n; kind = k }

-- a weight that is read is written
weight_listed : (k : TableKind) (t : Option Expression) (sc : Scope) (us : List Term) → weight_of k t sc ≡ Ok us → length us ≡ length (listed t)
weight_listed (Sum keys) None sc us h = ap length (sym (ok_is [] us h))
weight_listed (Sum keys) (Some t) sc us h = absurd (cc h)
weight_listed (Collection keys) None sc us h = ap length (sym (ok_is [] us h))
weight_listed (Collection keys) (Some t) sc us h = absurd (cc h)
weight_listed (Maximum best keys) None sc us h = absurd (cc h)
weight_listed (Maximum best keys) (Some t) sc us h =
    let p = ok_parts (term_of sc t) (λ u. Ok (u ∷ [])) us h in
    ap length (sym (ok_is (p.0 ∷ []) us p.2))

module _ (ts : List TableDecl) where
  -- a row is one for a table that stands there with this name
  abbrev pub IsFor : Emitted → Type 0
  IsFor e = (i : ℕ) × (k : TableKind) × (slice_get ts i ≡ Some (record { name = e.0; kind = k })) × (length e.1 ≡ table_width k)

  abbrev AllFor : State → Type 0
  AllFor now = All IsFor now.emitted

  module _ (r : List ℤ) where
    evals : (xs : List Expression) (env : Store) → length (eval_all xs r env) ≡ length xs
    evals [] env = refl
    evals (x ∷ xs) env = ap suc (evals xs env)

    mutual
      statement_for : (c : Statement) (s : At) (y : Steps × At) (now : State) → step_of c s ≡ fine y → ArePorts ts s.scope → AllFor now → AllFor (exec c r now)
      statement_for (Declare n t) s y now h a f = f
      statement_for (Assign n t) s y now h a f = f
      statement_for (Emit t is v w) s y now h a f =
          let d = sent_parts t is v w s y h in
          let row = eval_all (emit_row is v w) r now.values in
          let many : length row ≡ table_width d.port.1 =
          (let size = evals (emit_row is v w) now.values in let both = length-append is (v ∷ listed w) in
          let e = eqb-true (length is) (keys_in d.port.1) d.shape in let wide = weight_many d.port.1 w s.scope d.weights d.weights_is in
          let l = weight_listed d.port.1 w s.scope d.weights d.weights_is in omega (arith, size, both, e, wide, l)) in
          All-append IsFor now.emitted ((t, row) ∷ []) f
          (All-cons IsFor (t, row) [] (d.port.0, d.port.1, a.port t d.port.0 d.port.1 d.port_there, many) (All-nil IsFor))
      statement_for (If t x o) s y now h a f =
          let d = forked_parts t x o s y h in
          either (is_true (eval t r now.values)) (exec_block x r now) (exec_optional o r now)
          (block_for x (one_more s) d.first now d.first_is a f)
          (optional_for o (second_at s d.first) d.second now d.second_is a f)
        where
          either : (b : Bool) (one two : State) → AllFor one → AllFor two → AllFor (if b then one else two)
          either true one two g h = g
          either false one two g h = h

      block_for : (b : Block) (s : At) (y : Steps × At) (now : State) → steps_of b s ≡ fine y → ArePorts ts s.scope → AllFor now → AllFor (exec_block b r now)
      block_for End s y now h a f = f
      block_for (Then c b) s y now h a f =
          let d = followed_parts c b s y h in
          let g = grows c s d.first d.first_is in
          block_for b d.first.1 d.others (exec c r now) d.others_is (g.ports ts a) (statement_for c s d.first now d.first_is a f)

      optional_for : (o : Optional) (s : At) (y : Steps × At) (now : State) → steps_optional o s ≡ fine y → ArePorts ts s.scope → AllFor now
          → AllFor (exec_optional o r now)
      optional_for Unwritten s y now h a f = f
      optional_for (Written b) s y now h a f = block_for b s y now h a f

    units_for : (p : Program) (s : At) (y : Steps × At) (now : State) (done : List TableDecl) → parts_read p s ≡ fine y → ArePorts ts s.scope
        → ts ≡ done ++ tables_in p → s.tables ≡ length done → AllFor now → AllFor (exec_units p r now)
    units_for [] s y now done h ports t e f = f
    units_for (TableUnit tb ∷ ps) s y now done h ports t e f =
        let d = split_parts (TableUnit tb) ps s y h in
        let here = tabled_parts tb.name (table_kind tb) s d.first d.first_is in
        let decl : TableDecl = table_decl tb in
        let got : slice_get ts s.tables ≡ Some decl = ap (slice_get ts) e ∙ ap (λ l. slice_get l (length done)) t ∙ got_mid done decl (tables_in ps) in
        let ports2 : ArePorts ts d.first.1.scope =
        subst (λ (q : Steps × At). ArePorts ts q.1.scope) here.is (ports_new ts tb.name s.tables (table_kind tb) s.scope got ports) in
        let e2 : d.first.1.tables ≡ length (done ++ decl ∷ []) = ap (λ (q : Steps × At). q.1.tables) (sym here.is)
        ∙ (let l = length-append done (decl ∷ []) in omega (arith, l, e)) in
        let t2 : ts ≡ (done ++ decl ∷ []) ++ tables_in ps = t ∙ sym (append_assoc done (decl ∷ []) (tables_in ps)) in
        units_for ps d.first.1 d.others now (done ++ decl ∷ []) d.others_is ports2 t2 e2 f
    units_for (StatementUnit c ∷ ps) s y now done h ports t e f =
        let d = split_parts (StatementUnit c) ps s y h in
        let g = grows c s d.first d.first_is in
        units_for ps d.first.1 d.others (exec c r now) done d.others_is (g.ports ts ports) t (g.tables ∙ e) (statement_for c s d.first now d.first_is ports f)

  -- rows for one table
  rows_for_table : (i : ℕ) (t : TableDecl) (es : List Emitted) → AreOnce (table_names ts) → slice_get ts i ≡ Some t → All IsFor es
      → AreRowsFor t.kind (rows_for t.name es)
  rows_for_table i t [] once g a = All-nil (λ row. length row ≡ table_width t.kind)
  rows_for_table i t (e ∷ es) once g a =
      let more : AreRowsFor t.kind (rows_for t.name es) = rows_for_table i t es once g (All-tail IsFor e es a) in
      ⊎_elim
      (λ c. subst (AreRowsFor t.kind) (sym (ap (λ b. if b then e.1 ∷ rows_for t.name es else rows_for t.name es) c.1))
      (All-cons (λ row. length row ≡ table_width t.kind) e.1 (rows_for t.name es) (wide c.0 (All-head IsFor e es a)) more))
      (λ c. subst (AreRowsFor t.kind) (sym (ap (λ b. if b then e.1 ∷ rows_for t.name es else rows_for t.name es) c.1)) more)
      (cases_name e.0 t.name)
    where
      wide : e.0 ≡ t.name → IsFor e → length e.1 ≡ table_width t.kind
      wide same f =
          let there : slice_get (table_names ts) f.0 ≡ Some t.name = got_name ts f.0 (declared e.0 f.1) f.2 ∙ ap Some same in
          let place : f.0 ≡ i = one_place (table_names ts) f.0 i t.name once there (got_name ts i t g) in
          let one : Some (declared e.0 f.1) ≡ Some t = sym f.2 ∙ ap (slice_get ts) place ∙ g in
          f.3 ∙ ap (λ (x : TableDecl). table_width x.kind) (same_Some (declared e.0 f.1) t one)

all_places : {A : Type 0} (P : A → Type 0) (xs : List A) → ((i : ℕ) (x : A) → slice_get xs i ≡ Some x → P x) → All P xs
all_places P [] f = All-nil P
all_places P (x ∷ xs) f = All-cons P x xs (f 0 x refl) (all_places P xs (λ i y h. f (suc i) y h))

all_emits : (p : Program) (read : Steps × At) (records : List (List ℤ)) → parts_read p nothing_read ≡ fine read → All (IsFor (tables_in p)) (flat_map (emits p) records)
all_emits p read [] h = All-nil (IsFor (tables_in p))
all_emits p read (r ∷ rs) h =
    let none : ArePorts (tables_in p) nothing_read.scope = record { port = λ n p k f. absurd (none-some _ f) } in
    All-append (IsFor (tables_in p)) (emits p r) (flat_map (emits p) rs)
    (units_for (tables_in p) r p nothing_read read fresh_state [] h none refl refl (All-nil (IsFor (tables_in p))))
    (all_emits p read rs h)

-- all rows that are emitted to a table are rows for it
pub emits_are_rows : EmitsAreRows
emits_are_rows p read records h =
    let g = reads_parts 1 p nothing_read read h in
    all_places (λ t. AreRowsFor t.kind (rows_for t.name (flat_map (emits p) records))) (tables_in p)
    (λ i t there. rows_for_table (tables_in p) i t (flat_map (emits p) records) (tables_once p nothing_read read g) there (all_emits p read records g))
