-- The plan of a program means what the program means.
use Rattle.std.proofs.Common.{◌≡◌, ℕ, suc, ℤ, pos, ◌-◌, Bool, true, false, List, [], ◌∷◌, ◌++◌, map, take, Some, refl, sym, ap, ◌∙◌, arith, replicate}
use Rattle.std.specs.Prelude.{if◌then◌else◌, flat_map, slice_get, codes}
use Rattle.std.proofs.lemmas.List.{map-append}
use Rattle.river_base.specs.declared.item.Item as item
use Rattle.river_base.specs.Name.{name_eq}
use Rattle.river_base.specs.Places.{list_at}
use Rattle.work_code.specs.Steps.{Steps}
use Rattle.work_code.specs.Ran.{ran}
use Rattle.kern_rows.specs.Runs.{run_kept, pushed_to}
use Rattle.river_kernels.specs.Kern.{tally}
use Rattle.river_plan.specs.Forms.{Name, table_names}
use Rattle.river_plan.specs.declared.plan.TableDecl.{TableDecl}
use Rattle.brooklet_model.specs.Firings.{feed}
use Rattle.brooklet_model.specs.Fire.{fire}
use Rattle.brooklet_model.specs.Histories.{History, lists_of, given_on, written, inputs_of, hist, all_adds}
use Rattle.brooklet_model.proofs.Feeds.{one_input}
use Rattle.kern_tables.specs.Tables.{tab}
use Rattle.saw_text.specs.Tree.{Program}
use Rattle.saw_model.specs.Meaning.{tables_in, width, emits, rows_for, Emitted}
use Rattle.saw_model.specs.Elaborate.{At, nothing_read}
use Rattle.saw_model.specs.Plan.{queue_name, queues_of, map_op, body_form, plan_of, rows_as_items}
use Rattle.saw_model.specs.Laws.{TranslationMeans}
use Rattle.saw_model.proofs.Elaborated.{fine}
use Rattle.saw_model.proofs.Fed.{code_fed, tally_fed, written_queue, tallies_write_nothing, tallied, pushed_are}
use Rattle.saw_model.proofs.Parts.{parts_read, reads_parts, record_met, tables_once}

-- the rows of a table in two lists are those of the one that they make
pub rows_for-append : (n : Name) (xs ys : List Emitted) → rows_for n (xs ++ ys) ≡ rows_for n xs ++ rows_for n ys
rows_for-append n [] ys = refl
rows_for-append n (x ∷ xs) ys = step (name_eq x.0 n) (rows_for-append n xs ys) where
  step : (b : Bool) → rows_for n (xs ++ ys) ≡ rows_for n xs ++ rows_for n ys
      → (if b then x.1 ∷ rows_for n (xs ++ ys) else rows_for n (xs ++ ys)) ≡ (if b then x.1 ∷ rows_for n xs else rows_for n xs) ++ rows_for n ys
  step true h = ap (λ l. x.1 ∷ l) h
  step false h = h

module _ (p : Program) (read : Steps × At) (h : parts_read p nothing_read ≡ fine read) where
  abbrev ts : List TableDecl
  ts = tables_in p

  pushes_of : (i : ℕ) (t : TableDecl) (r : List ℤ) → slice_get ts i ≡ Some t
      → pushed_to i (run_kept (body_form p read.0 read.1.slots).body [] (take (width p) r)).pushes ≡ rows_as_items (rows_for t.name (emits p r))
  pushes_of i t r g =
      let slots : read.1.slots - 0 ≡ read.1.slots = omega arith in
      ap (λ n. pushed_to i (ran read.0 (take (width p) r) (replicate n (pos 0))).pushes) slots
      ∙ pushed_are ts (emits p r) (ran read.0 (take (width p) r) (replicate read.1.slots (pos 0))).pushes i t (tables_once p nothing_read read h) g
      (record_met p read (width p) r h (omega arith))

  all_pushes : (i : ℕ) (t : TableDecl) (rs : List (List ℤ)) → slice_get ts i ≡ Some t
      → flat_map (λ r. pushed_to i (run_kept (body_form p read.0 read.1.slots).body [] r).pushes) (map (take (width p)) rs) ≡ rows_as_items
      (rows_for t.name (flat_map (emits p) rs))
  all_pushes i t [] g = refl
  all_pushes i t (r ∷ rs) g =
      (λ k. pushes_of i t r g k ++ all_pushes i t rs g k)
      ∙ sym (ap rows_as_items (rows_for-append t.name (emits p r) (flat_map (emits p) rs))
      ∙ map-append _ (rows_for t.name (emits p r)) (rows_for t.name (flat_map (emits p) rs)))

  abbrev inputs : List (List ℤ) → List (List item.Item)
  inputs records = rows_as_items (map (take (width p)) records) ∷ []

  abbrev first : List (List ℤ) → History
  first records = inputs_of (codes "in" ∷ []) (list_at (inputs records))

  queue_has : (records : List (List ℤ)) (i : ℕ) (t : TableDecl) → slice_get ts i ≡ Some t
      → hist (plan_of p read) (inputs records) (queue_name t.name) ≡ rows_as_items (rows_for t.name (flat_map (emits p) records))
  queue_has records i t g =
      let op = map_op p read.0 read.1.slots in
      let given_is = one_input op.kernel (lists_of (first records) op.reads) [] refl in
      ap (λ (x : History). x (queue_name t.name)) (tallies_write_nothing ts (written (queues_of ts) (given_on op (first records)).outs (first records)))
      ∙ written_queue ts (given_on op (first records)).outs (first records) i t (tables_once p nothing_read read h) g
      ∙ ap (λ f. f.outs i) given_is
      ∙ code_fed (body_form p read.0 read.1.slots) (map (take (width p)) records) i
      ∙ all_pushes i t records g

  -- exactly what all records emit to a table is added to it, in order
  pub added : (records : List (List ℤ)) (i : ℕ) (t : TableDecl) → slice_get ts i ≡ Some t
      → all_adds (plan_of p read) (inputs records) t.name ≡ rows_for t.name (flat_map (emits p) records)
  added records i t g =
      let all = hist (plan_of p read) (inputs records) in
      tallied (table_names ts) ts all i t (λ n lt. lt) (tables_once p nothing_read read h) g
      ∙ ap (λ f. f.adds 0) (one_input tally (lists_of all (queue_name t.name ∷ [])) [] refl)
      ∙ ap (λ xs. (feed (fire tally 0) xs []).adds 0) (queue_has records i t g)
      ∙ tally_fed (rows_for t.name (flat_map (emits p) records))

map_places : {A B : Type 0} (f g : A → B) (xs : List A) → ((i : ℕ) (x : A) → slice_get xs i ≡ Some x → f x ≡ g x) → map f xs ≡ map g xs
map_places f g [] e = refl
map_places f g (x ∷ xs) e = let a = e 0 x refl in let b = map_places f g xs (λ i y h. e (suc i) y h) in λ i. a i ∷ b i

-- a program's plan means what the program means
pub translation_means : TranslationMeans
translation_means p read records h =
    let g = reads_parts 1 p nothing_read read h in
    let tables = map_places (λ t. tab t.kind (all_adds (plan_of p read) (inputs p read g records) t.name)) _ (tables_in p)
    (λ i t there. ap (tab t.kind) (added p read g records i t there)) in
    ap (λ ts. record { outs = []; tables = ts }) tables
