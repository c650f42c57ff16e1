-- The plan of a program that is accepted is valid.
use Rattle.std.proofs.Common.{◌≡◌, ℕ, zero, suc, ◌+◌, ◌<◌, ◌≤◌, Bool, true, false, List, [], ◌∷◌, ◌++◌, length, map, Option, Some, None, refl, sym, ap, ◌∙◌}
use Rattle.std.proofs.Common.{subst, arith, ⊎_elim}
use Rattle.std.specs.Prelude.{codes, All, unwrap_or, if◌then◌else◌, nat_le, slice_get, flat_map}
use Rattle.std.specs.List.{AllByRecursion}
use Rattle.std.proofs.lemmas.Bool.{and_parts, and_from, le-leb, leb-true}
use Rattle.std.proofs.lemmas.List.{length-map, append-nil}
use Rattle.std.proofs.lemmas.List.Elements.{All-nil, All-cons, All-append}
use Rattle.std.proofs.lemmas.Option.{same_Some}
use Rattle.river_base.specs.Name.{name_eq}
use Rattle.river_base.specs.declared.kind.QueueType.{QueueType}
use Rattle.work_code.specs.Steps.{Steps}
use Rattle.kern_tables.specs.declared.kind.TableKind.{TableKind}
use Rattle.kern_tables.specs.declared.kind.TableKind.TheVariants.{Sum, Collection, Maximum}
use Rattle.kern_tables.specs.Tables.{table_width}
use Rattle.river_kernels.specs.Fits.{rows, ports, are_widths}
use Rattle.river_kernels.specs.Formed.{is_width, is_steps}
use Rattle.river_kernels.specs.Limits.{size, either}
use Rattle.river_kernels.specs.declared.limit.Limit.{Limit}
use Rattle.river_kernels.specs.declared.limit.Limit.TheVariants as limit
use Rattle.river_kernels.specs.declared.types.VarKind.{VarKind}
use Rattle.river_kernels.specs.declared.types.VarKind.TheVariants.{Table}
use Rattle.river_plan.specs.declared.plan.TableDecl.{TableDecl}
use Rattle.river_plan.specs.Forms.{Name, OpForm, decl_names, table_names, queue_names, all_decls}
use Rattle.river_plan.specs.Names.{one_if, count}
use Rattle.river_plan.specs.Uses.{Each, total, reads_it, writes_it, vars_it, named_it, and_writes, ReadsBefore}
use Rattle.river_plan.specs.Faults.{IsOuter, HasWidth, IsTableKind}
use Rattle.river_plan.specs.Kinds.{kind_in, kind_of, table_in, var_kind, FitsAt}
use Rattle.river_plan.specs.Limits.{most_of, numbers, port_numbers, kernel_numbers, nestings, best_rows}
use Rattle.river_plan.specs.Valid.{IsPlan}
use Rattle.river_plan.proofs.NameLemmas.{cases_name, name_same}
use Rattle.saw_text.specs.Tree.{TableUnit, StatementUnit}
use Rattle.saw_model.specs.Meaning.{table_kind}
use Rattle.saw_text.specs.Tree.{Program}
use Rattle.saw_model.specs.Meaning.{tables_in, width}
use Rattle.saw_model.specs.Elaborate.{At, KnownName, Var, Port, find, keys_in, is_best, nothing_read}
use Rattle.saw_model.specs.Plan.{queue_name, queues_of, queue_decls, tally_op, map_op, plan_of}
use Rattle.saw_model.specs.Shallow.{AreShallowUnits}
use Rattle.saw_model.specs.Laws.{PlansAreValid}
use Rattle.saw_model.proofs.Elaborated.{fine, IsSound, ArePorts}
use Rattle.saw_model.proofs.Formed.{widths_of, parts_reach, parts_count, parts_formed}
use Rattle.saw_model.proofs.Parts.{parts_read, reads_parts, tables_once, tables_few, tabled_parts, split_parts}
use Rattle.saw_model.proofs.Suffixed.{AreOnce, once_rest, got_once, with_end, end_count, end_once, end_none, not_in, not_map}

abbrev tallies : List TableDecl → List OpForm
tallies ts = map tally_op ts

-- WHAT THE OPERATORS NAME

tallies_write : (q : Name) (ts : List TableDecl) → total (writes_it q) (tallies ts) ≡ 0
tallies_write q [] = refl
tallies_write q (t ∷ ts) = let e = tallies_write q ts in omega (arith, e)

tallies_read : (q : Name) (ts : List TableDecl) → total (reads_it q) (tallies ts) ≡ count q (queues_of ts)
tallies_read q [] = refl
tallies_read q (t ∷ ts) = let e = tallies_read q ts in omega (arith, e)

tallies_use : (v : Name) (ts : List TableDecl) → total (vars_it v) (tallies ts) ≡ count v (table_names ts)
tallies_use v [] = refl
tallies_use v (t ∷ ts) = let e = tallies_use v ts in omega (arith, e)

tallies_named : (l : Name) (ts : List TableDecl) → total (named_it l) (tallies ts) ≡ count l (with_end (codes "@tally") ts)
tallies_named l [] = refl
tallies_named l (t ∷ ts) = let e = tallies_named l ts in omega (arith, e)

tallies_ordered : (known : Name → ℕ) (ts : List TableDecl) → ((q : Name) → 0 < count q (queues_of ts) → 0 < known q) → ReadsBefore known (tallies ts)
tallies_ordered known [] h = tt
tallies_ordered known (t ∷ ts) h = (
  λ q lt. h q (omega (arith, lt)),
  tallies_ordered (and_writes known (tally_op t)) ts (λ q lt. let k = h q (omega (arith, lt)) in omega (arith, k)),
)

-- the names of the queues
pub names_of : (ts : List TableDecl) → decl_names (queue_decls ts) ≡ queues_of ts
names_of [] = refl
names_of (t ∷ ts) = ap (λ l. queue_name t.name ∷ l) (names_of ts)

decls_many : (ts : List TableDecl) → length (queue_decls ts) ≡ length ts
decls_many [] = refl
decls_many (t ∷ ts) = ap suc (decls_many ts)

-- TYPES

if_known : {A : Type 0} (b : Bool) (x : A) (o : Option A) → b ≡ true → (if b then Some x else o) ≡ Some x
if_known b x o e = ap (λ c. if c then Some x else o) e

if_other : {A : Type 0} (b : Bool) (x : A) (o : Option A) → b ≡ false → (if b then Some x else o) ≡ o
if_other b x o e = ap (λ c. if c then Some x else o) e

-- the queue of the table at a place has rows as wide as the table
kind_there : (ts : List TableDecl) (i : ℕ) (t : TableDecl) → AreOnce (queues_of ts) → slice_get ts i ≡ Some t
    → kind_in (queue_decls ts) (queue_name t.name) ≡ Some (rows (table_width t.kind))
kind_there [] i t o g = absurd (cc g)
kind_there (u ∷ us) zero t o g =
    let e = same_Some u t g in
    if_known (name_eq (queue_name u.name) (queue_name t.name)) (rows (table_width u.kind)) (kind_in (queue_decls us) (queue_name t.name))
    (ap (λ (x : TableDecl). name_eq (queue_name x.name) (queue_name t.name)) e ∙ name_same (queue_name t.name))
    ∙ ap (λ (x : TableDecl). Some (rows (table_width x.kind))) e
kind_there (u ∷ us) (suc i) t o g = ⊎_elim
    (λ c.
    let e = ap one_if c.1 in let w = o (queue_name t.name) in
    let n = got_once us i t g in let m = end_count (codes "@q") us t.name in absurd (omega (arith, e, w, n, m)))
    (λ c. if_other (name_eq (queue_name u.name) (queue_name t.name)) (rows (table_width u.kind)) (kind_in (queue_decls us) (queue_name t.name)) c.1
    ∙ kind_there us i t (once_rest (queue_name u.name) (queues_of us) o) g)
    (cases_name (queue_name u.name) (queue_name t.name))

table_there : (ts : List TableDecl) (i : ℕ) (t : TableDecl) → AreOnce (table_names ts) → slice_get ts i ≡ Some t
    → table_in ts t.name ≡ Some (Table (table_width t.kind))
table_there [] i t o g = absurd (cc g)
table_there (u ∷ us) zero t o g =
    let e = same_Some u t g in
    if_known (name_eq u.name t.name) (Table (table_width u.kind)) (table_in us t.name) (ap (λ (x : TableDecl). name_eq x.name t.name) e ∙ name_same t.name)
    ∙ ap (λ (x : TableDecl). Some (Table (table_width x.kind))) e
table_there (u ∷ us) (suc i) t o g = ⊎_elim
    (λ c. let e = ap one_if c.1 in let w = o t.name in let n = got_once us i t g in absurd (omega (arith, e, w, n)))
    (λ c. if_other (name_eq u.name t.name) (Table (table_width u.kind)) (table_in us t.name) c.1 ∙ table_there us i t (once_rest u.name (table_names us) o) g)
    (cases_name u.name t.name)

-- WHAT READING SEES TO

pub record IsGood (k : TableKind) : Type 0 where
  pub table : IsTableKind k
  pub width : is_width (table_width k) ≡ true
  pub best : All (λ n. n ≤ 1000000) (best_rows k)

abbrev AreGood : List TableDecl → Type 0
AreGood ts = AllByRecursion (λ t. IsGood t.kind) ts

width_true : (n : ℕ) → 1 ≤ n → n ≤ 16 → is_width n ≡ true
width_true n a b = and_from (nat_le 1 n) (nat_le n 16) (le-leb 1 n a) (le-leb n 16 b)

one : (most n : ℕ) → n ≤ most → All (λ (m : ℕ). m ≤ most) (n ∷ [])
one most n h = All-cons (λ (m : ℕ). m ≤ most) n [] h (All-nil (λ (m : ℕ). m ≤ most))

more : (most n : ℕ) (ns : List ℕ) → n ≤ most → All (λ (m : ℕ). m ≤ most) ns → All (λ (m : ℕ). m ≤ most) (n ∷ ns)
more most n ns h all = All-cons (λ (m : ℕ). m ≤ most) n ns h all

nothing : (most : ℕ) → All (λ (m : ℕ). m ≤ most) []
nothing most = All-nil (λ (m : ℕ). m ≤ most)

good_kind : (k : TableKind) → is_best k ≡ true → keys_in k ≤ 8 → IsGood k
good_kind (Sum keys) b h = record { table = h; width = width_true (keys + 1) (omega arith) (omega (arith, h)); best = nothing 1000000 }
good_kind (Collection keys) b h = record { table = h; width = width_true (keys + 1) (omega arith) (omega (arith, h)); best = nothing 1000000 }
good_kind (Maximum best keys) b h =
    let p = and_parts (nat_le 1 best) (nat_le best 1000000) b in
    record {
      table = (h, leb-true 1 best p.0);
      width = width_true (keys + 2) (omega arith) (omega (arith, h));
      best =
          one 1000000 best (leb-true best 1000000 p.1);
    }

goods : (p : Program) (s : At) (y : Steps × At) → parts_read p s ≡ fine y → AreGood (tables_in p)
goods [] s y h = tt
goods (TableUnit tb ∷ ps) s y h =
    let d = split_parts (TableUnit tb) ps s y h in
    let t = tabled_parts tb.name (table_kind tb) s d.first d.first_is in
    (good_kind (table_kind tb) t.best t.keys, goods ps d.first.1 d.others d.others_is)
goods (StatementUnit c ∷ ps) s y h = let d = split_parts (StatementUnit c) ps s y h in goods ps d.first.1 d.others d.others_is

good_there : (ts : List TableDecl) (i : ℕ) (t : TableDecl) → AreGood ts → slice_get ts i ≡ Some t → IsGood t.kind
good_there [] i t h g = absurd (cc g)
good_there (u ∷ us) zero t h g = subst (λ (x : TableDecl). IsGood x.kind) (same_Some u t g) h.0
good_there (u ∷ us) (suc i) t h g = good_there us i t h.1 g

good_tables : (ts : List TableDecl) → AreGood ts → All (λ t. IsTableKind t.kind) ts
good_tables [] h = All-nil (λ t. IsTableKind t.kind)
good_tables (t ∷ ts) h = All-cons (λ t. IsTableKind t.kind) t ts h.0.table (good_tables ts h.1)

good_best : (ts : List TableDecl) → AreGood ts → All (λ n. n ≤ 1000000) (flat_map (λ t. best_rows t.kind) ts)
good_best [] h = nothing 1000000
good_best (t ∷ ts) h = All-append (λ n. n ≤ 1000000) (best_rows t.kind) (flat_map (λ t. best_rows t.kind) ts) h.0.best (good_best ts h.1)

good_queues : (ts : List TableDecl) → AreGood ts → All HasWidth (queue_decls ts)
good_queues [] h = All-nil HasWidth
good_queues (t ∷ ts) h =
    All-cons HasWidth (record { name = queue_name t.name; kind = rows (table_width t.kind) }) (queue_decls ts) h.0.width (good_queues ts h.1)

good_widths : (ts : List TableDecl) → AreGood ts → are_widths (widths_of ts) ≡ true
good_widths [] h = refl
good_widths (t ∷ ts) h = and_from (is_width (table_width t.kind)) (are_widths (widths_of ts)) h.0.width (good_widths ts h.1)

-- KERNELS

kinds_of : (kind : Name → QueueType) (ts : List TableDecl)
    → ((i : ℕ) (t : TableDecl) → slice_get ts i ≡ Some t → kind (queue_name t.name) ≡ rows (table_width t.kind))
    → map kind (queues_of ts) ≡ ports (widths_of ts)
kinds_of kind [] h = refl
kinds_of kind (t ∷ ts) h = let a = h zero t refl in let b = kinds_of kind ts (λ i u g. h (suc i) u g) in λ i. a i ∷ b i

each_tally : (P : OpForm → Type 0) (ts : List TableDecl) → ((i : ℕ) (t : TableDecl) → slice_get ts i ≡ Some t → P (tally_op t)) → Each P (tallies ts)
each_tally P [] h = tt
each_tally P (t ∷ ts) h = (h zero t refl, each_tally P ts (λ i u g. h (suc i) u g))

few_ports : (ts : List TableDecl) → All (λ n. n ≤ 64) (port_numbers (tallies ts))
few_ports [] = nothing 64
few_ports (t ∷ ts) = more 64 1 (0 ∷ port_numbers (tallies ts)) (omega arith) (more 64 0 (port_numbers (tallies ts)) (omega arith) (few_ports ts))

no_numbers : (l : Limit) (ts : List TableDecl) → kernel_numbers l (tallies ts) ≡ []
no_numbers l [] = refl
no_numbers l (t ∷ ts) = no_numbers l ts

once_nested : (ts : List TableDecl) → All (λ n. n ≤ 32) (nestings (tallies ts))
once_nested [] = nothing 32
once_nested (t ∷ ts) = more 32 1 (nestings (tallies ts)) (omega arith) (once_nested ts)

-- the input and the queues have names of their own
pub in_and_queues : (ts : List TableDecl) → AreOnce (table_names ts) → (q : Name) → count q (codes "in" ∷ queues_of ts) ≤ 1
in_and_queues ts once q = ⊎_elim
    (λ c.
    let e = ap one_if c.1 in
    let n : count q (queues_of ts) ≡ 0 = subst (λ x. count x (queues_of ts) ≡ 0) c.0 (end_none (codes "@q") (codes "in") not_in ts) in
    omega (arith, e, n))
    (λ c. let e = ap one_if c.1 in let n = end_once (codes "@q") ts once q in omega (arith, e, n))
    (cases_name (codes "in") q)

module _ (p : Program) (read : Steps × At) (low : AreShallowUnits p) (h : parts_read p nothing_read ≡ fine read) where
  abbrev ts : List TableDecl
  ts = tables_in p

  abbrev first : OpForm
  first = map_op p read.0 read.1.slots

  abbrev ops : List OpForm
  ops = first ∷ tallies ts

  once : AreOnce (table_names ts)
  once = tables_once p nothing_read read h

  queues_once : AreOnce (queues_of ts)
  queues_once = end_once (codes "@q") ts once

  good : AreGood ts
  good = goods p nothing_read read h

  few : length ts ≤ 64
  few = let e = tables_few p nothing_read read h (omega arith) in omega (arith, e)

  wide : is_width (width p) ≡ true
  wide = let r = parts_reach p nothing_read read h in width_true (width p) (omega arith) (omega (arith, r))

  queue_names_are : queue_names (plan_of p read) ≡ codes "in" ∷ queues_of ts
  queue_names_are = ap (λ l. codes "in" ∷ l) (names_of ts)

  all_once : (q : Name) → count q (codes "in" ∷ queues_of ts) ≤ 1
  all_once q = in_and_queues ts once q

  written : (q : Name) → total (writes_it q) ops ≡ count q (queues_of ts)
  written q = let e = tallies_write q ts in omega (arith, e)

  read_by : (q : Name) → total (reads_it q) ops ≡ count q (codes "in" ∷ queues_of ts)
  read_by q = let e = tallies_read q ts in omega (arith, e)

  used : (v : Name) → total (vars_it v) ops ≡ count v (table_names ts)
  used v = let e = tallies_use v ts in omega (arith, e)

  labels : (l : Name) → total (named_it l) ops ≤ 1
  labels l = let t = tallies_named l ts in ⊎_elim
      (λ c.
      let e = ap one_if c.1 in
      let n : count l (with_end (codes "@tally") ts) ≡ 0 =
      subst (λ x. count x (with_end (codes "@tally") ts) ≡ 0) c.0 (end_none (codes "@tally") (codes "map") not_map ts) in
      omega (arith, t, e, n))
      (λ c. let e = ap one_if c.1 in let n = end_once (codes "@tally") ts once l in omega (arith, t, e, n))
      (cases_name (codes "map") l)

  abbrev kind : Name → QueueType
  kind = kind_of (all_decls (plan_of p read))

  kind_at : (i : ℕ) (t : TableDecl) → slice_get ts i ≡ Some t → kind (queue_name t.name) ≡ rows (table_width t.kind)
  kind_at i t g = ⊎_elim
      (λ c. absurd (not_in t.name (sym c.0)))
      (λ c. ap (λ o. unwrap_or o (rows 0))
      (if_other (name_eq (codes "in") (queue_name t.name)) (rows (width p)) (kind_in (queue_decls ts) (queue_name t.name)) c.1
      ∙ kind_there ts i t queues_once g))
      (cases_name (codes "in") (queue_name t.name))

  abbrev var : Name → VarKind
  var = var_kind ts []

  var_at : (i : ℕ) (t : TableDecl) → slice_get ts i ≡ Some t → var t.name ≡ Table (table_width t.kind)
  var_at i t g = ap (λ o. unwrap_or (either o None) (Table 0)) (table_there ts i t once g)

  tally_fits : (i : ℕ) (t : TableDecl) → slice_get ts i ≡ Some t → FitsAt kind var (tally_op t)
  tally_fits i t g = (table_width t.kind, ap (λ k. k ∷ []) (kind_at i t g), refl, ap (λ k. k ∷ []) (var_at i t g), (good_there ts i t good g).width)

  none_known : (n : Name) (b : KnownName) → find [] n ≡ Some b → ⊥
  none_known n b f = absurd (cc f)

  sound : IsSound nothing_read.scope nothing_read.slots
  sound = record { below = λ n i f. absurd (none_known n (Var i) f); apart = λ n m i f g. absurd (none_known n (Var i) f) }

  no_ports : ArePorts ts nothing_read.scope
  no_ports = record { port = λ n q k f. absurd (none_known n (Port q k) f) }

  body : is_steps (width p) read.1.slots (widths_of ts) read.0 ≡ true
  body = parts_formed (width p) read.1.slots ts p nothing_read read [] low (omega arith) h sound no_ports (omega arith) refl refl

  first_fits : FitsAt kind var first
  first_fits = (
    refl,
    kinds_of kind ts kind_at,
    refl,
    and_from (is_width (width p)) _ wide
        (and_from (are_widths (widths_of ts)) _ (good_widths ts good)
        (and_from (is_steps (width p) read.1.slots (widths_of ts) read.0) (nat_le 0 read.1.slots) body (le-leb 0 read.1.slots (omega arith)))),
  )

  limited : (l : Limit) → All (λ n. n ≤ most_of l) (numbers l (plan_of p read))
  limited limit.Inputs = one 8 1 (omega arith)
  limited limit.Operators = one 256 (length ops) (let e = length-map ts tally_op in omega (arith, e, few))
  limited limit.Queues = one 512 (0 + (1 + length (queue_decls ts))) (let e = decls_many ts in omega (arith, e, few))
  limited limit.Variables = one 256 (length ts + 0) (omega (arith, few))
  limited limit.Ports =
      more 64 1 (length (queues_of ts) ∷ port_numbers (tallies ts)) (omega arith)
      (more 64 (length (queues_of ts)) (port_numbers (tallies ts)) (let e = length-map ts (λ t. queue_name t.name) in omega (arith, e, few)) (few_ports ts))
  limited limit.Statements =
      let c = parts_count p nothing_read read h in let s = c.size in let m = c.small (omega arith) in
      more 16384 (size read.0) (kernel_numbers limit.Statements (tallies ts)) (omega (arith, s, m))
      (subst (All (λ n. n ≤ 16384)) (sym (no_numbers limit.Statements ts)) (nothing 16384))
  limited limit.Slots =
      let c = parts_count p nothing_read read h in let m = c.few (omega arith) in
      more 256 read.1.slots (kernel_numbers limit.Slots (tallies ts)) m (subst (All (λ n. n ≤ 256)) (sym (no_numbers limit.Slots ts)) (nothing 256))
  limited limit.Rates = subst (All (λ n. n ≤ 65536)) (sym (no_numbers limit.Rates ts)) (nothing 65536)
  limited limit.Weights = subst (All (λ n. n ≤ 65536)) (sym (no_numbers limit.Weights ts)) (nothing 65536)
  limited limit.Nesting = more 32 1 (nestings (tallies ts)) (omega arith) (once_nested ts)
  limited limit.Latest = subst (All (λ n. n ≤ 1000000)) (sym (no_numbers limit.Latest ts)) (nothing 1000000)
  limited limit.Best = good_best ts good

  vars_are : (v : Name) → count v (table_names ts ++ []) ≡ count v (table_names ts)
  vars_are v = ap (count v) (append-nil (table_names ts))

  pub valid : IsPlan (plan_of p read)
  valid = record {
    queues_once = λ q. subst (λ l. count q l ≤ 1) (sym queue_names_are) (all_once q);
    variables_once = λ v. let a = vars_are v in let b = once v in omega (arith, a, b);
    labels_once = labels;
    reads_declared = λ q lt. subst (λ l. 0 < count q l) (sym queue_names_are) (let r = read_by q in omega (arith, r, lt));
    writes_declared = λ q lt. subst (λ l. 0 < count q l) (sym queue_names_are) (let w = written q in omega (arith, w, lt));
    vars_declared = λ v lt. let a = vars_are v in let b = used v in omega (arith, a, b, lt);
    written_once = λ q. let w = written q in let a = all_once q in omega (arith, w, a);
    read_once = λ q. let r = read_by q in let a = all_once q in omega (arith, r, a);
    in_order = (λ q lt. lt, tallies_ordered (and_writes (λ q. count q (codes "in" ∷ [])) first) ts (λ q lt. omega (arith, lt)));
    outputs_typed = All-nil IsOuter;
    inputs_typed = All-cons IsOuter (record { name = codes "in"; kind = rows (width p) }) [] (wide, tt) (All-nil IsOuter);
    queues_typed = good_queues ts good;
    tables_typed = good_tables ts good;
    fits = (first_fits, each_tally (FitsAt kind var) ts tally_fits);
    within = limited;
    vars_apart = ((λ v. omega arith), each_tally (λ op. (v : Name) → vars_it v op ≤ 1) ts (λ i t g v. bit t.name v));
    private_once = λ v lt. absurd (omega (arith, lt));
  }
    where
      bit : (n v : Name) → one_if (name_eq n v) + 0 ≤ 1
      bit n v = ⊎_elim (λ c. let e = ap one_if c.1 in omega (arith, e)) (λ c. let e = ap one_if c.1 in omega (arith, e)) (cases_name n v)

-- the plan of an accepted program is valid
pub plans_are_valid : PlansAreValid
plans_are_valid p read low h = valid p read low (reads_parts 1 p nothing_read read h)
