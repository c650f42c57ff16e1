-- A program over records in pieces, and the programs that merge its tables.
use Rattle.std.proofs.Common.{◌≡◌, ℕ, zero, suc, ℤ, pos, ◌+◌, ◌≤◌, true, List, [], ◌∷◌, ◌++◌, length, map, Result, Ok, Err}
use Rattle.std.proofs.Common.{refl, sym, ap, ◌∙◌, subst, arith, nat_le, nat_eq, length-append, append_assoc}
use Rattle.std.specs.Prelude.{if◌then◌else◌, flat_map, max, slice_index_or, All}
use Rattle.std.proofs.lemmas.Bool.{lt-ltb, le-leb, eq-eqb}
use Rattle.std.proofs.lemmas.List.{append-nil}
use Rattle.std.proofs.lemmas.List.Elements.{All-head, All-tail, All-cons, All-nil}
use Rattle.work_code.specs.Term.{Term}
use Rattle.work_code.specs.Term as term
use Rattle.work_code.specs.Steps.{Steps, Done, both_steps, one_step}
use Rattle.work_code.specs.Steps as steps
use Rattle.kern_tables.specs.declared.kind.TableKind.{TableKind}
use Rattle.kern_tables.specs.declared.kind.TableKind.TheVariants.{Sum, Collection, Maximum}
use Rattle.kern_tables.specs.Pieces.{AreRowsFor, joined, printed}
use Rattle.kern_tables.specs.Tables.{tab, table_width}
use Rattle.kern_tables.proofs.Apart.{tables_stand_in_order}
use Rattle.kern_tables.proofs.Pieces.{tables_merge, all_printed, first_rows, same_bag, bag_rows}
use Rattle.kern_tables.proofs.Tabs.{tables_are_of_bags}
use Rattle.river_plan.specs.declared.plan.TableDecl.{TableDecl}
use Rattle.river_plan.proofs.NameLemmas.{name_same}
use Rattle.saw_text.specs.Tree as tree
use Rattle.saw_text.specs.Tree.{TableUnit, StatementUnit, Program}
use Rattle.saw_model.specs.Meaning.{tables_in, width, table_kind, table_kind_of, table_decl, program_tables, eval_all, emit_row, Store, Emitted, emits, rows_for}
use Rattle.saw_model.specs.Meaning.{fresh_state, reach_all}
use Rattle.saw_model.specs.declared.fault.Fault.{Fault}
use Rattle.saw_model.specs.declared.fault.Fault.TheVariants.{Limit, Shape}
use Rattle.saw_model.specs.declared.fault.Refusal.{Refusal}
use Rattle.saw_model.specs.Elaborate.{on_ok, demand, Port, Scope, find, term_of, At, keys_in, is_best, table_of, nothing_read}
use Rattle.saw_model.specs.Elaborate.{indexes_of, weight_of, emitted, step_of, table_port, unit_judged, Read}
use Rattle.saw_model.specs.Judged.{judged, in_unit, on_fine, units_judged}
use Rattle.saw_model.specs.Pieces.{all_unnamed, written_kind, merge_table, fields_from, read_weight, merge_emit, merge_program, IsMergeProgram}
use Rattle.saw_model.specs.Pieces.{TablesHaveMergePrograms, Answer, first_table, other_tables, IsMergedBy, AtOnce, InPieces, InOrder}
use Rattle.saw_model.specs.Pieces.{AreMergedBy, PiecesMerge, merged, PiecesMergeAtOnce}
use Rattle.saw_model.proofs.Elaborated.{fine, found_here, one_more}
use Rattle.saw_model.proofs.EmitRows.{emits_are_rows}
use Rattle.saw_model.proofs.Means.{rows_for-append}
use Rattle.saw_model.proofs.Parts.{parts_read, reads_parts, tabled_parts, split_parts}

-- THE TABLE

unnamed_many : (n : ℕ) → length (all_unnamed n) ≡ n
unnamed_many zero = refl
unnamed_many (suc n) = ap suc (unnamed_many n)

kind_again : (k : TableKind) → table_kind_of (written_kind k) (length (all_unnamed (keys_in k))) ≡ k
kind_again (Sum keys) = ap Sum (unnamed_many keys)
kind_again (Collection keys) = ap Collection (unnamed_many keys)
kind_again (Maximum best keys) = ap (Maximum best) (unnamed_many keys)

tables_again : (t : TableDecl) → tables_in (merge_program t) ≡ t ∷ []
tables_again t = λ i. record { name = t.name; kind = kind_again t.kind i } ∷ []

-- THE EMIT

fields_more : (n m : ℕ) → fields_from n m ++ tree.Input (n + m) ∷ [] ≡ fields_from n (suc m)
fields_more n zero = let e : n + 0 ≡ n = omega arith in ap (λ x. tree.Input x ∷ []) e
fields_more n (suc m) =
    let e : n + suc m ≡ (n + 1) + m = omega arith in
    ap (λ l. tree.Input n ∷ l) (ap (λ x. fields_from (n + 1) m ++ tree.Input x ∷ []) e ∙ fields_more (n + 1) m)

fields_at : (m : ℕ) → fields_from 0 m ++ tree.Input m ∷ [] ≡ fields_from 0 (m + 1)
fields_at m =
    let e : 0 + m ≡ m = omega arith in
    let f : suc m ≡ m + 1 = omega arith in
    ap (λ x. fields_from 0 m ++ tree.Input x ∷ []) (sym e) ∙ fields_more 0 m ∙ ap (fields_from 0) f

-- the emit gives all fields of a row of the table
all_emitted : (k : TableKind) → emit_row (fields_from 0 (keys_in k)) (tree.Input (keys_in k)) (read_weight k) ≡ fields_from 0 (table_width k)
all_emitted (Sum keys) = fields_at keys
all_emitted (Collection keys) = fields_at keys
all_emitted (Maximum best keys) =
    let e : (keys + 1) + 1 ≡ keys + 2 = omega arith in
    sym (append_assoc (fields_from 0 keys) (tree.Input keys ∷ []) (tree.Input (keys + 1) ∷ []))
    ∙ ap (λ l. l ++ tree.Input (keys + 1) ∷ []) (fields_at keys) ∙ fields_at (keys + 1) ∙ ap (fields_from 0) e

at_seam : (pre : List ℤ) (x : ℤ) (xs : List ℤ) → slice_index_or (pre ++ x ∷ xs) (length pre) (pos 0) ≡ x
at_seam [] x xs = refl
at_seam (y ∷ ys) x xs = at_seam ys x xs

fields_read : (pre row : List ℤ) (env : Store) → eval_all (fields_from (length pre) (length row)) (pre ++ row) env ≡ row
fields_read pre [] env = refl
fields_read pre (x ∷ xs) env =
    let longer : length pre + 1 ≡ length (pre ++ x ∷ []) = (let l = length-append pre (x ∷ []) in omega (arith, l)) in
    let more : eval_all (fields_from (length pre + 1) (length xs)) (pre ++ x ∷ xs) env ≡ xs =
    ap (λ n. eval_all (fields_from n (length xs)) (pre ++ x ∷ xs) env) longer
    ∙ ap (λ l. eval_all (fields_from (length (pre ++ x ∷ [])) (length xs)) l env) (sym (append_assoc pre (x ∷ []) xs))
    ∙ fields_read (pre ++ x ∷ []) xs env in
    λ i. at_seam pre x xs i ∷ more i

-- a row of the table is emitted as it is
emitted_again : (t : TableDecl) (row : List ℤ) → length row ≡ table_width t.kind → emits (merge_program t) row ≡ (t.name, row) ∷ []
emitted_again t row h =
    let env = fresh_state.values in
    let e : eval_all (emit_row (fields_from 0 (keys_in t.kind)) (tree.Input (keys_in t.kind)) (read_weight t.kind)) row env ≡ row =
    ap (λ xs. eval_all xs row env) (all_emitted t.kind ∙ ap (fields_from 0) (sym h)) ∙ fields_read [] row env in
    λ i. (t.name, e i) ∷ []

rows_again : (t : TableDecl) (rows : List (List ℤ)) → AreRowsFor t.kind rows → rows_for t.name (flat_map (emits (merge_program t)) rows) ≡ rows
rows_again t [] h = refl
rows_again t (r ∷ rs) h =
    let P : List ℤ → Type 0 = λ row. length row ≡ table_width t.kind in
    let rest = flat_map (emits (merge_program t)) rs in
    ap (λ (es : List Emitted). rows_for t.name (es ++ rest)) (emitted_again t r (All-head P r rs h))
    ∙ ap (λ b. if b then r ∷ rows_for t.name rest else rows_for t.name rest) (name_same t.name)
    ∙ ap (λ l. r ∷ l) (rows_again t rs (All-tail P r rs h))

merge_means : (t : TableDecl) (rows : List (List ℤ)) → AreRowsFor t.kind rows → program_tables (merge_program t) rows ≡ tab t.kind rows ∷ []
merge_means t rows h =
    ap (λ (ts : List TableDecl). map (λ u. tab u.kind (rows_for u.name (flat_map (emits (merge_program t)) rows))) ts) (tables_again t)
    ∙ ap (λ l. tab t.kind l ∷ []) (rows_again t rows h)

-- ITS WIDTH

reach_fields : (n m : ℕ) → reach_all (fields_from n (suc m)) ≡ n + suc m
reach_fields n zero = omega arith
reach_fields n (suc m) = let more = reach_fields (n + 1) m in omega (arith, more)

table_width_is : (k : TableKind) → (w : ℕ) × (table_width k ≡ suc w)
table_width_is (Sum keys) = (keys, omega arith)
table_width_is (Collection keys) = (keys, omega arith)
table_width_is (Maximum best keys) = (keys + 1, omega arith)

merge_width : (t : TableDecl) → width (merge_program t) ≡ table_width t.kind
merge_width t =
    let w = table_width_is t.kind in
    let r : reach_all (emit_row (fields_from 0 (keys_in t.kind)) (tree.Input (keys_in t.kind)) (read_weight t.kind)) ≡ table_width t.kind =
    ap reach_all (all_emitted t.kind ∙ ap (fields_from 0) w.1) ∙ reach_fields 0 w.0 ∙ (let e : 0 + suc w.0 ≡ suc w.0 = omega arith in e) ∙ sym w.1 in
    let e : table_width t.kind ≡ suc w.0 = w.1 in
    ap (λ n. max 1 (max n 0)) r ∙ (let f : max 1 (max (table_width t.kind) 0) ≡ table_width t.kind = omega (arith, e) in f)

-- IT IS ACCEPTED

input_read : (sc : Scope) (n : ℕ) → n ≤ 15 → term_of sc (tree.Input n) ≡ Ok (term.Input n)
input_read sc n h = ap (λ b. if b then Ok (term.Input n) else Err Limit) (le-leb n 15 h)

indexes_read : (sc : Scope) (n m : ℕ) → n + m ≤ 8 → (us : List Term) × (indexes_of sc n (fields_from n m) ≡ Ok us)
indexes_read sc n zero h = ([], refl)
indexes_read sc n (suc m) h =
    let more = indexes_read sc (n + 1) m (omega (arith, h)) in
    let f : Term → Result (List Term) Fault = λ u. on_ok (indexes_of sc (n + 1) (fields_from (n + 1) m)) (λ us. Ok (u ∷ us)) in (
      term.Input n ∷ more.0,
      ap (λ b. if b then on_ok (term_of sc (tree.Input n)) f else Err Limit) (lt-ltb n 8 (omega (arith, h)))
          ∙ ap (λ r. on_ok r f) (input_read sc n (omega (arith, h)))
          ∙ ap (λ r. on_ok r (λ us. Ok (term.Input n ∷ us))) more.1,
    )

weight_read : (sc : Scope) (k : TableKind) → keys_in k ≤ 8 → (us : List Term) × (weight_of k (read_weight k) sc ≡ Ok us)
weight_read sc (Sum keys) h = ([], refl)
weight_read sc (Collection keys) h = ([], refl)
weight_read sc (Maximum best keys) h =
    (term.Input (keys + 1) ∷ [], ap (λ r. on_ok r (λ u. Ok (u ∷ []))) (input_read sc (keys + 1) (omega (arith, h))))

fields_many : (n m : ℕ) → length (fields_from n m) ≡ m
fields_many n zero = refl
fields_many n (suc m) = ap suc (fields_many (n + 1) m)

-- the table alone is known
abbrev known : TableDecl → At
known t = record { scope = (t.name, Port 0 t.kind) ∷ []; slots = 0; size = 0; tables = 1 }

emit_read : (t : TableDecl) → keys_in t.kind ≤ 8 → (y : Steps × At) × (step_of (merge_emit t) (known t) ≡ Ok y)
emit_read t h =
    let s = one_more (known t) in
    let k = keys_in t.kind in
    let is = fields_from 0 k in
    let us = indexes_read s.scope 0 k (omega (arith, h)) in
    let ws = weight_read s.scope t.kind h in
    let last : List Term → Term → List Term → Read = λ us u ws. Ok (one_step (steps.Push 0 (us ++ u ∷ ws)), s) in
    let f : ℕ × TableKind → Read = λ p. on_ok (indexes_of s.scope 0 is) (λ us. emitted s p (length is) us (tree.Input k) (read_weight t.kind)) in
    let found : table_port (find s.scope t.name) ≡ Ok (0, t.kind) = ap table_port (found_here t.name t.name (Port 0 t.kind) [] (name_same t.name)) in
    let fits : nat_eq (length is) k ≡ true = eq-eqb (length is) k (fields_many 0 k) in (
      (one_step (steps.Push 0 (us.0 ++ term.Input k ∷ ws.0)), s),
      ap (λ r. on_ok r f) found
          ∙ ap (λ r. on_ok r (λ us. emitted s (0, t.kind) (length is) us (tree.Input k) (read_weight t.kind))) us.1
          ∙ ap (λ b. on_ok (demand b Shape) (λ x. on_ok (term_of s.scope (tree.Input k)) (λ u. on_ok (weight_of t.kind (read_weight t.kind) s.scope) (last us.0 u)))) fits
          ∙ ap (λ r. on_ok r (λ u. on_ok (weight_of t.kind (read_weight t.kind) s.scope) (last us.0 u))) (input_read s.scope k (omega (arith, h)))
          ∙ ap (λ r. on_ok r (last us.0 (term.Input k))) ws.1,
    )

table_read : (t : TableDecl) → is_best t.kind ≡ true → keys_in t.kind ≤ 8 → table_of t.name t.kind nothing_read ≡ Ok (Done, known t)
table_read t b h =
    let done : Read = Ok (Done, known t) in
    ap (λ c. on_ok (demand c Limit) (λ w. on_ok (demand (nat_le (keys_in t.kind) 8) Limit) (λ x. done))) b
    ∙ ap (λ c. on_ok (demand c Limit) (λ x. done)) (le-leb (keys_in t.kind) 8 h)

merge_accepted : (t : TableDecl) → is_best t.kind ≡ true → keys_in t.kind ≤ 8 → (read : Steps × At) × (judged (merge_program t) ≡ Ok read)
merge_accepted t b h =
    let y = emit_read t h in
    let first : unit_judged (TableUnit (merge_table t)) nothing_read ≡ Ok (Done, known t) =
    ap (λ k. table_of t.name k nothing_read) (kind_again t.kind) ∙ table_read t b h in
    let rest : Steps × At → Result (Steps × At) Refusal =
    λ p. on_fine (units_judged 2 (StatementUnit (merge_emit t) ∷ []) p.1) (λ q. Ok (both_steps p.0 q.0, q.1)) in
    let last : Steps × At → Result (Steps × At) Refusal = λ p. on_fine (units_judged 3 [] p.1) (λ q. Ok (both_steps p.0 q.0, q.1)) in (
      (both_steps Done (both_steps y.0.0 Done), y.0.1),
      ap (λ r. in_unit 1 r rest) first ∙ ap (λ r. on_fine (in_unit 2 r last) (λ q. Ok (both_steps Done q.0, q.1))) y.1,
    )

merge_program_is : (t : TableDecl) → is_best t.kind ≡ true → keys_in t.kind ≤ 8 → IsMergeProgram t
merge_program_is t b h = record { accepted = merge_accepted t b h; tables = tables_again t; fields = merge_width t; means = merge_means t }

tables_merge_by : (p : Program) (s : At) (y : Steps × At) → parts_read p s ≡ fine y → All IsMergeProgram (tables_in p)
tables_merge_by [] s y h = All-nil IsMergeProgram
tables_merge_by (TableUnit tb ∷ ps) s y h =
    let d = split_parts (TableUnit tb) ps s y h in
    let here = tabled_parts tb.name (table_kind tb) s d.first d.first_is in
    All-cons IsMergeProgram (table_decl tb) (tables_in ps) (merge_program_is (table_decl tb) here.best here.keys) (tables_merge_by ps d.first.1 d.others d.others_is)
tables_merge_by (StatementUnit c ∷ ps) s y h =
    let d = split_parts (StatementUnit c) ps s y h in
    tables_merge_by ps d.first.1 d.others d.others_is

-- each table of a program has a program that merges it
pub tables_have_merge_programs : TablesHaveMergePrograms
tables_have_merge_programs p read h = tables_merge_by p nothing_read read (reads_parts 1 p nothing_read read h)

-- ONE TABLE, IN LEVELS

pieces_printed : (t : TableDecl) (pieces : List (List (List ℤ))) → IsMergeProgram t → AreRowsFor t.kind (joined pieces)
    → flat_map (λ piece. joined (program_tables (merge_program t) piece)) pieces ≡ printed t.kind pieces
pieces_printed t [] m h = refl
pieces_printed t (p ∷ ps) m h =
    let both = first_rows (table_width t.kind) p (joined ps) h in
    let one : joined (program_tables (merge_program t) p) ≡ tab t.kind p = ap joined (m.means p both.0) ∙ append-nil (tab t.kind p) in
    λ i. one i ++ pieces_printed t ps m both.1 i

merged_is : (t : TableDecl) (rows table : List (List ℤ)) → IsMergeProgram t → AreRowsFor t.kind rows → IsMergedBy t rows table → table ≡ tab t.kind rows
merged_is t rows table m h (AtOnce u r x e) = sym (ap first_table e) ∙ ap first_table (m.means rows h)
merged_is t rows table m h (InPieces u r x pieces bag more) =
    let there = bag_rows t.kind rows (joined pieces) bag h in
    let same = pieces_printed t pieces m there in
    merged_is t (flat_map (λ piece. joined (program_tables (merge_program t) piece)) pieces) table m
    (subst (AreRowsFor t.kind) (sym same) (all_printed t.kind pieces there)) more
    ∙ ap (tab t.kind) same
    ∙ tables_merge t.kind pieces there
    ∙ tables_are_of_bags t.kind (joined pieces) rows (same_bag rows (joined pieces) bag)
merged_is t rows table m h (InOrder u r x xs ys first second bag behind one two e) =
    let both = first_rows (table_width t.kind) xs ys (bag_rows t.kind rows (xs ++ ys) bag h) in
    let a = merged_is t xs first m both.0 one in
    let b = merged_is t ys second m both.1 two in
    e ∙ (λ i. a i ++ b i) ∙ sym (tables_stand_in_order t.kind xs ys behind)
    ∙ tables_are_of_bags t.kind (xs ++ ys) rows (same_bag rows (xs ++ ys) bag)

-- ALL TABLES

module _ (p : Program) where
  -- what the records emit to a table, and the table of it
  abbrev sent : TableDecl → List (List ℤ) → List (List ℤ)
  sent t records = rows_for t.name (flat_map (emits p) records)

  abbrev table_for : TableDecl → List (List ℤ) → List (List ℤ)
  table_for t records = tab t.kind (sent t records)

  abbrev answer_for : List TableDecl → List (List ℤ) → Answer
  answer_for ts records = map (λ t. table_for t records) ts

  flat_map-append : (xs ys : List (List ℤ)) → flat_map (emits p) (xs ++ ys) ≡ flat_map (emits p) xs ++ flat_map (emits p) ys
  flat_map-append [] ys = refl
  flat_map-append (x ∷ xs) ys = ap (λ l. emits p x ++ l) (flat_map-append xs ys) ∙ sym (append_assoc (emits p x) (flat_map (emits p) xs) (flat_map (emits p) ys))

  sent_joined : (t : TableDecl) (pieces : List (List (List ℤ))) → sent t (joined pieces) ≡ joined (map (sent t) pieces)
  sent_joined t [] = refl
  sent_joined t (x ∷ xs) =
      ap (rows_for t.name) (flat_map-append x (joined xs)) ∙ rows_for-append t.name (flat_map (emits p) x) (flat_map (emits p) (joined xs))
      ∙ ap (λ l. sent t x ++ l) (sent_joined t xs)

  first_printed : (t : TableDecl) (ts : List TableDecl) (pieces : List (List (List ℤ)))
      → flat_map first_table (map (answer_for (t ∷ ts)) pieces) ≡ printed t.kind (map (sent t) pieces)
  first_printed t ts [] = refl
  first_printed t ts (x ∷ xs) = ap (λ l. table_for t x ++ l) (first_printed t ts xs)

  others_printed : (t : TableDecl) (ts : List TableDecl) (pieces : List (List (List ℤ)))
      → map other_tables (map (answer_for (t ∷ ts)) pieces) ≡ map (answer_for ts) pieces
  others_printed t ts [] = refl
  others_printed t ts (x ∷ xs) = ap (λ l. answer_for ts x ∷ l) (others_printed t ts xs)

  -- what a piece, or all, emits to a table are rows for it
  abbrev HasRows : TableDecl → Type 0
  HasRows t = (records : List (List ℤ)) → AreRowsFor t.kind (sent t records)

  -- the rows that are printed of the tables of the pieces are rows for a table
  printed_rows : (t : TableDecl) (pieces : List (List (List ℤ))) → HasRows t → AreRowsFor t.kind (joined (map (sent t) pieces))
  printed_rows t pieces h = subst (AreRowsFor t.kind) (sent_joined t pieces) (h (joined pieces))

  -- the table of what is printed of the tables of the pieces
  table_merged : (t : TableDecl) (pieces : List (List (List ℤ))) → HasRows t → tab t.kind (printed t.kind (map (sent t) pieces)) ≡ table_for t (joined pieces)
  table_merged t pieces h = tables_merge t.kind (map (sent t) pieces) (printed_rows t pieces h) ∙ ap (tab t.kind) (sym (sent_joined t pieces))

  all_merged : (ts : List TableDecl) (pieces : List (List (List ℤ))) (answer : Answer) → All IsMergeProgram ts → All HasRows ts
      → AreMergedBy ts (map (answer_for ts) pieces) answer → answer ≡ answer_for ts (joined pieces)
  all_merged [] pieces [] m h a = refl
  all_merged [] pieces (x ∷ xs) m h a = absurd a
  all_merged (t ∷ ts) pieces [] m h a = absurd a
  all_merged (t ∷ ts) pieces (x ∷ xs) m h a =
      let rows = All-head HasRows t ts h in
      let here : IsMergedBy t (printed t.kind (map (sent t) pieces)) x = subst (λ l. IsMergedBy t l x) (first_printed t ts pieces) a.0 in
      let there : AreMergedBy ts (map (answer_for ts) pieces) xs = subst (λ l. AreMergedBy ts l xs) (others_printed t ts pieces) a.1 in
      let one = merged_is t (printed t.kind (map (sent t) pieces)) x (All-head IsMergeProgram t ts m)
      (all_printed t.kind (map (sent t) pieces) (printed_rows t pieces rows)) here ∙ table_merged t pieces rows in
      let more = all_merged ts pieces xs (All-tail IsMergeProgram t ts m) (All-tail HasRows t ts h) there in
      λ i. one i ∷ more i

  at_once : (ts : List TableDecl) (pieces : List (List (List ℤ))) → All IsMergeProgram ts → All HasRows ts
      → merged ts (map (answer_for ts) pieces) ≡ answer_for ts (joined pieces)
  at_once [] pieces m h = refl
  at_once (t ∷ ts) pieces m h =
      let rows = All-head HasRows t ts h in
      let one : program_tables (merge_program t) (flat_map first_table (map (answer_for (t ∷ ts)) pieces)) ≡ table_for t (joined pieces) ∷ [] =
      ap (program_tables (merge_program t)) (first_printed t ts pieces)
      ∙ (All-head IsMergeProgram t ts m).means (printed t.kind (map (sent t) pieces)) (all_printed t.kind (map (sent t) pieces) (printed_rows t pieces rows))
      ∙ ap (λ l. l ∷ []) (table_merged t pieces rows) in
      let more = ap (merged ts) (others_printed t ts pieces) ∙ at_once ts pieces (All-tail IsMergeProgram t ts m) (All-tail HasRows t ts h) in
      λ i. one i ++ more i

-- what holds of each for all records
for_all : (p : Program) (ts : List TableDecl) → ((records : List (List ℤ)) → All (λ t. AreRowsFor t.kind (sent p t records)) ts) → All (HasRows p) ts
for_all p [] f = All-nil (HasRows p)
for_all p (t ∷ ts) f =
    All-cons (HasRows p) t ts (λ records. All-head (λ t. AreRowsFor t.kind (sent p t records)) t ts (f records))
    (for_all p ts (λ records. All-tail (λ t. AreRowsFor t.kind (sent p t records)) t ts (f records)))

-- the tables of the whole are those of the pieces, merged
pub pieces_merge : PiecesMerge
pieces_merge p read pieces answer h a =
    all_merged p (tables_in p) pieces answer (tables_have_merge_programs p read h) (for_all p (tables_in p) (λ records. emits_are_rows p read records h)) a

-- so they are where all pieces are merged at once
pub pieces_merge_at_once : PiecesMergeAtOnce
pieces_merge_at_once p read pieces h =
    at_once p (tables_in p) pieces (tables_have_merge_programs p read h) (for_all p (tables_in p) (λ records. emits_are_rows p read records h))
