-- A program without a fault is accepted.
use Rattle.std.proofs.Common.{◌≡◌, ℕ, ◌+◌, ◌<◌, ◌≤◌, Bool, true, false, Option, Some, None, List, [], ◌∷◌, ◌++◌, refl, sym, ap, ◌∙◌, arith, subst, length}
use Rattle.std.proofs.Common.{⊎_elim, append_assoc, append-nil, length-append}
use Rattle.std.specs.Prelude.{nat_lt, nat_eq, IsTrue}
use Rattle.std.specs.List.{AllByRecursion}
use Rattle.std.proofs.lemmas.List.{length-map}
use Rattle.std.proofs.lemmas.Bool.{ltb-false}
use Rattle.cql_text.specs.Tree.{Window, Now, Range, Unbounded, Latest}
use Rattle.river_kernels.specs.Fits.{rows}
use Rattle.river_kernels.specs.Formed.{is_width, is_window}
use Rattle.river_kernels.specs.declared.types.VarKind.TheVariants.{Private}
use Rattle.river_plan.specs.Forms.{Name}
use Rattle.river_plan.specs.Names.{one_if, count}
use Rattle.river_plan.proofs.NameLemmas.{cases_name}
use Rattle.cql_model.specs.KernelWords.{kernel_window}
use Rattle.cql_model.specs.Plannable.{has_no_at, declared_names, IsPlannableQuery, AreQueries}
use Rattle.cql_model.specs.declared.fault.Fault.{Fault}
use Rattle.cql_model.specs.declared.fault.Fault.TheVariants.{UnknownStream, NameTwice, Limit}
use Rattle.cql_model.specs.declared.fault.Refusal.{Refusal}
use Rattle.cql_model.specs.Judged.{then_fault, fault_if, is_rows_fault, item_fault, items_fault, chosen_fault, columns_fault, condition_fault, query_fault}
use Rattle.cql_model.specs.Judged.{fields_fault, stream_fault, in_unit, first_fault, IsSpokenQuery, AreSpoken, FaultlessPlannable, has_columns, scalar_fault}
use Rattle.cql_model.specs.Laws.{known_names, AreKnown}
use Rattle.cql_model.specs.Program.{streams_of}
use Rattle.cql_text.specs.Tree.{Source, Column, Columns, Star, Chosen, Query, Register, AQuery, Program}
use Rattle.cql_model.specs.Scopes.{Named, item_named, scope_of}
use Rattle.cql_model.specs.Plan.{widths_of, query_named, columns_width}
use Rattle.cql_model.proofs.AllFit.{sized_scope, columns_many}
use Rattle.cql_model.proofs.Valid.{sized_some, Sized}
use Rattle.cql_model.proofs.SpotFaults.{eq_no}
use Rattle.cql_model.proofs.Fitting.{wide}

first_none : (a b : Option Fault) → then_fault a b ≡ None → a ≡ None
first_none None b h = refl
first_none (Some f) b h = absurd (cc h)

then_none : (a b : Option Fault) → then_fault a b ≡ None → b ≡ None
then_none None b h = h
then_none (Some f) b h = absurd (cc h)

if_none : (b : Bool) (f : Fault) → fault_if b f ≡ None → b ≡ false
if_none true f h = absurd (cc h)
if_none false f h = refl

unit_none : (unit : ℕ) (a : Option Fault) (o : Option Refusal) → in_unit unit a o ≡ None → (a ≡ None) × (o ≡ None)
unit_none unit None o h = (refl, h)
unit_none unit (Some f) o h = absurd (cc h)

window_good : (w : Window) → is_rows_fault w ≡ false → IsTrue (is_window (kernel_window w))
window_good Now h = refl
window_good (Range n unit) h = refl
window_good Unbounded h = refl
window_good (Latest n) h = grind (arith, h)

-- ITEMS

pub record ItemsGood (known scope : List Named) (items : List Source) : Type 0 where
  pub few : length scope + length items ≤ 4
  pub streams : AreKnown known (streams_of items)
  pub windows : AllByRecursion (λ (i : Source). IsTrue (is_window (kernel_window i.window))) items
  pub product : widths_of (scope ++ scope_of known items) ≤ 16

items_good : (known scope : List Named) (items : List Source) → length scope ≤ 4 → widths_of scope ≤ 16 → items_fault known scope items ≡ None
    → ItemsGood known scope items
items_good known scope [] few narrow h =
    record { few = omega (arith, few); streams = tt; windows = tt; product = subst (λ (l : List Named). widths_of l ≤ 16) (sym (append-nil scope)) narrow }
items_good known scope (i ∷ is) few narrow h =
    let named = item_named known i in
    let a = fault_if (nat_eq (count i.stream (known_names known)) 0) UnknownStream in
    let b = fault_if (nat_lt 3 (length scope)) Limit in
    let c = fault_if (is_rows_fault i.window) Limit in
    let d = fault_if (nat_lt 0 (count named.name (known_names scope))) NameTwice in
    let e = fault_if (nat_lt 16 (widths_of (scope ++ named ∷ []))) Limit in
    let one = first_none (item_fault known scope i) (items_fault known (scope ++ named ∷ []) is) h in
    let rest = then_none (item_fault known scope i) (items_fault known (scope ++ named ∷ []) is) h in
    let one_b = then_none a (then_fault b (then_fault c (then_fault d e))) one in
    let one_c = then_none b (then_fault c (then_fault d e)) one_b in
    let one_d = then_none c (then_fault d e) one_c in
    let short = ltb-false 3 (length scope) (if_none (nat_lt 3 (length scope)) Limit (first_none b (then_fault c (then_fault d e)) one_b)) in
    let longer = length-append scope (named ∷ []) in
    let slim = ltb-false 16 (widths_of (scope ++ named ∷ [])) (if_none (nat_lt 16 (widths_of (scope ++ named ∷ []))) Limit (then_none d e one_d)) in
    let more = items_good known (scope ++ named ∷ []) is (omega (arith, longer, short)) slim rest in
    record {
      few = (let m = more.few in omega (arith, m, longer));
      streams = (
        eq_no (count i.stream (known_names known))
            (if_none (nat_eq (count i.stream (known_names known)) 0) UnknownStream
            (first_none a (then_fault b (then_fault c (then_fault d e))) one)),
        more.streams,
      );
      windows = (window_good i.window (if_none (is_rows_fault i.window) Limit (first_none c (then_fault d e) one_c)), more.windows);
      product = subst (λ (l : List Named). widths_of l ≤ 16) (append_assoc scope (named ∷ []) (scope_of known is)) more.product;
    }

-- COLUMNS

chosen_few : (scope : List Named) (k : ℕ) (cs : List Column) → k ≤ 16 → chosen_fault scope k cs ≡ None → k + length cs ≤ 16
chosen_few scope k [] le h = omega (arith, le)
chosen_few scope k (c ∷ cs) le h =
    let a = fault_if (nat_lt 15 k) Limit in
    let rest = then_fault (scalar_fault scope c.value) (chosen_fault scope (k + 1) cs) in
    let short = ltb-false 15 k (if_none (nat_lt 15 k) Limit (first_none a rest h)) in
    let m = chosen_few scope (k + 1) cs (omega (arith, short)) (then_none (scalar_fault scope c.value) (chosen_fault scope (k + 1) cs) (then_none a rest h)) in
    omega (arith, m)

columns_good : (scope : List Named) (cs : Columns) → 1 ≤ widths_of scope → widths_of scope ≤ 16 → has_columns cs ≡ true → columns_fault scope cs ≡ None
    → is_width (columns_width scope cs) ≡ true
columns_good scope Star some few c h = wide (widths_of scope) some few
columns_good scope (Chosen cs) some few c h = wide (length cs) (grind (arith, c)) (let m = chosen_few scope 0 cs (omega arith) h in omega (arith, m))

query_good : (known : List Named) (q : Query) → Sized known → IsSpokenQuery q → query_fault known q ≡ None → IsPlannableQuery known q
query_good known q z s h =
    let scope = scope_of known q.items in
    let a = fault_if (nat_lt 0 (count q.name (known_names known))) NameTwice in
    let b = items_fault known [] q.items in
    let c = columns_fault scope q.columns in
    let d = condition_fault scope q.condition in
    let h1 = then_none a (then_fault b (then_fault c d)) h in
    let g = items_good known [] q.items (omega arith) (omega arith) (first_none b (then_fault c d) h1) in
    let long : 0 < length scope = (let e = length-map q.items (item_named known) in let m = s.items in omega (arith, e, m)) in
    let some = sized_some scope long (sized_scope (λ n. rows 0) (λ v. Private) [] [] known q.items z g.streams) in
    record {
      some = s.items;
      few = (let m = g.few in omega (arith, m));
      streams = g.streams;
      windows = g.windows;
      product = g.product;
      columns = columns_good scope q.columns some g.product s.columns (first_none c d (then_none b (then_fault c d) h1));
      values = s.values;
      condition = s.condition;
    }

-- STREAMS

fields_few : (past fields : List Name) → length past ≤ 16 → fields_fault past fields ≡ None → length past + length fields ≤ 16
fields_few past [] le h = omega (arith, le)
fields_few past (f ∷ fs) le h =
    let a = fault_if (nat_lt 0 (count f past)) NameTwice in
    let b = fault_if (nat_lt 15 (length past)) Limit in
    let c = fields_fault (past ++ f ∷ []) fs in
    let rest = then_none a (then_fault b c) h in
    let short = ltb-false 15 (length past) (if_none (nat_lt 15 (length past)) Limit (first_none b c rest)) in
    let longer = length-append past (f ∷ []) in
    let m = fields_few (past ++ f ∷ []) fs (omega (arith, longer, short)) (then_none b c rest) in
    omega (arith, m, longer)

-- THE PROGRAM

names_good : (ps : Program) → AreSpoken ps → AllByRecursion (λ n. IsTrue (has_no_at n)) (declared_names ps)
names_good [] s = tt
names_good (Register name fields ∷ ps) s = (s.0, names_good ps s.2)
names_good (AQuery q ∷ ps) s = (s.0, names_good ps s.2)

new_name : (known : List Named) (n : Name) (rest : Option Fault) → then_fault (fault_if (nat_lt 0 (count n (known_names known))) NameTwice) rest ≡ None
    → count n (known_names known) ≤ 0
new_name known n rest h =
    ltb-false 0 (count n (known_names known))
    (if_none (nat_lt 0 (count n (known_names known))) NameTwice (first_none (fault_if (nat_lt 0 (count n (known_names known))) NameTwice) rest h))

abbrev Distinct : List Named → Type 0
Distinct ks = (n : Name) → count n (known_names ks) ≤ 1

more_distinct : (ks : List Named) (k : Named) → Distinct ks → count k.name (known_names ks) ≤ 0 → Distinct (k ∷ ks)
more_distinct ks k d z n = ⊎_elim
    (λ c. let e : count n (known_names ks) ≤ 0 = subst (λ x. count x (known_names ks) ≤ 0) c.0 z in let b = ap one_if c.1 in omega (arith, e, b))
    (λ c. let b = ap one_if c.1 in let o = d n in omega (arith, o, b))
    (cases_name k.name n)

names_once : (ks : List Named) (many unit : ℕ) (ps : Program) → Distinct ks → first_fault ks many unit ps ≡ None → (n : Name)
    → count n (known_names ks) + count n (declared_names ps) ≤ 1
names_once ks many unit [] d h n = let o = d n in omega (arith, o)
names_once ks many unit (Register name fields ∷ ps) d h n =
    let k : Named = record { name = name; fields = fields } in
    let u = unit_none unit (stream_fault ks many name fields) (first_fault (k ∷ ks) (many + 1) (unit + 1) ps) h in
    let z = new_name ks name (then_fault (fault_if (nat_lt 7 many) Limit) (fields_fault [] fields)) u.0 in
    let m = names_once (k ∷ ks) (many + 1) (unit + 1) ps (more_distinct ks k d z) u.1 n in
    omega (arith, m)
names_once ks many unit (AQuery q ∷ ps) d h n =
    let k = query_named ks q in
    let u = unit_none unit (query_fault ks q) (first_fault (k ∷ ks) many (unit + 1) ps) h in
    let scope = scope_of ks q.items in
    let z = new_name ks q.name (then_fault (items_fault ks [] q.items) (then_fault (columns_fault scope q.columns) (condition_fault scope q.condition))) u.0 in
    let m = names_once (k ∷ ks) many (unit + 1) ps (more_distinct ks k d z) u.1 n in
    omega (arith, m)

queries_good : (ks : List Named) (many unit : ℕ) (ps : Program) → Sized ks → AreSpoken ps → first_fault ks many unit ps ≡ None → AreQueries ks ps
queries_good ks many unit [] z s h = tt
queries_good ks many unit (Register name fields ∷ ps) z s h =
    let k : Named = record { name = name; fields = fields } in
    let u = unit_none unit (stream_fault ks many name fields) (first_fault (k ∷ ks) (many + 1) (unit + 1) ps) h in
    let a = fault_if (nat_lt 0 (count name (known_names ks))) NameTwice in
    let b = fault_if (nat_lt 7 many) Limit in
    let few = fields_few [] fields (omega arith) (then_none b (fields_fault [] fields) (then_none a (then_fault b (fields_fault [] fields)) u.0)) in
    let w = wide (length fields) s.1 (omega (arith, few)) in
    (w, queries_good (k ∷ ks) (many + 1) (unit + 1) ps (w, z) s.2 u.1)
queries_good ks many unit (AQuery q ∷ ps) z s h =
    let k = query_named ks q in
    let u = unit_none unit (query_fault ks q) (first_fault (k ∷ ks) many (unit + 1) ps) h in
    let g = query_good ks q z s.1 u.0 in
    (g, queries_good (k ∷ ks) many (unit + 1) ps (ap is_width (columns_many (scope_of ks q.items) q.columns) ∙ g.columns, z) s.2 u.1)

-- the law: of a program without a fault a plan can be made
pub faultless_plannable : FaultlessPlannable
faultless_plannable p s h = record {
  names = names_good p s;
  once = λ n. let o = names_once [] 0 1 p (λ m. omega arith) h n in omega (arith, o);
  queries = queries_good [] 0 1 p tt s h;
}
