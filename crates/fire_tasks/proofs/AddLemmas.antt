-- The rows of a firing as entries of the logs, and what they add.
use Rattle.std.proofs.Common.{◌≡◌, ◌≢◌, ℕ, ℤ, zero, suc, ◌+◌, ◌<◌, ◌≤◌, Bool, Some, List, [], ◌∷◌, ◌++◌, length, map, take, refl, sym, ap, ◌∙◌, subst, arith, ⊎_elim}
use Rattle.std.proofs.Common.{append_assoc, get_or, set, eq-eqb, ne_eqb}
use Rattle.std.specs.Prelude.{All, AllPairs, filter, nat_eq, nat_lt, slice_get, slice_index_or, if◌then◌else◌}
use Rattle.std.specs.List.Sorted.{IsStrictlyIncreasing}
use Rattle.std.proofs.lemmas.Bool.{cases_eq, cases_lt}
use Rattle.std.proofs.lemmas.Grind.{flat_map-append}
use Rattle.std.proofs.lemmas.List.{append-nil, length-map, take_all}
use Rattle.std.proofs.lemmas.List.Elements.{All-nil, All-cons, All-append, All-head, All-tail}
use Rattle.std.proofs.lemmas.List.Kept.{AllPairs-from_increasing}
use Rattle.std.proofs.lemmas.Option.{slice_get_within, same_Some}
use Rattle.fire_tasks.proofs.JoinLemmas.{rows-append}
use Rattle.river_base.proofs.Lists.{got_map, take_length}
use Rattle.river_base.proofs.PlaceLemmas.{if_lt, if_ge, if_eq, if_ne}
use Rattle.river_plan.specs.Forms.{Name, OpForm, PlanForm, table_names}
use Rattle.river_plan.specs.Names.{count}
use Rattle.river_plan.specs.Places.{place, places}
use Rattle.river_plan.specs.Uses.{vars_it}
use Rattle.river_plan.specs.Valid.{IsPlan}
use Rattle.river_plan.proofs.PlaceLemmas.{place_apart}
use Rattle.brooklet_model.specs.Histories.{tables_of}
use Rattle.brooklet_model.proofs.Traces.{got_count, place_once, each_at}
use Rattle.brooklet_step.proofs.NextLemmas.{got_place}
use Rattle.brooklet_step.proofs.OpTables.{among_known}
use Rattle.class_locks.specs.declared.log.LogEntry.{LogEntry}
use Rattle.class_locks.specs.Logs.{TakesRows, rows_of_entry, rows_to, part_of_op}
use Rattle.class_locks.specs.Piles.{Piled}
use Rattle.fire_tasks.specs.declared.task.TablePort.{TablePort}
use Rattle.fire_tasks.specs.Adds.{AreHomes, IsEntryOf, added, rows_by, table_at, table_class, table_numbers}
use Rattle.fire_tasks.specs.Turns.{AreCellsOf, AreRowsFor, HasCells, HaveGained, classes_of, entries_for, pile_grown, logged, cell_with_rows}

-- ENTRIES OF A FIRING

-- a test that holds of each entry that a firing can make at a class
pub logged_all : (P : LogEntry → Type 0) (o : ℕ) (classes : List ℕ) (hs : List TablePort) (rows : ℕ → List (List ℤ)) (c : ℕ)
    → ((j : ℕ) (h : TablePort) (rs : List (List ℤ)) → slice_get hs j ≡ Some h → slice_index_or classes h.place 0 ≡ c
    → P (record { op = o; table = h.table; rows = rs }))
    → All P (logged o classes hs rows c)
logged_all P o classes [] rows c each = All-nil P
logged_all P o classes (h ∷ hs) rows c each =
    let here : slice_index_or classes h.place 0 ≡ c → All P (entries_for o h.table (rows 0)) = λ e. one (rows 0) (each 0 h (rows 0) refl e) in
    let rest = logged_all P o classes hs (λ j. rows (suc j)) c (λ j k rs g e. each (suc j) k rs g e) in
    All-append P (if nat_eq (slice_index_or classes h.place 0) c then entries_for o h.table (rows 0) else []) (logged o classes hs (λ j. rows (suc j)) c)
    (⊎_elim
    (λ e. subst (All P) (sym (if_eq (slice_index_or classes h.place 0) c (entries_for o h.table (rows 0)) [] e)) (here e))
    (λ ne. subst (All P) (sym (if_ne (slice_index_or classes h.place 0) c (entries_for o h.table (rows 0)) [] ne)) (All-nil P))
    (cases_eq (slice_index_or classes h.place 0) c))
    rest
  where
    one : (rs : List (List ℤ)) → P (record { op = o; table = h.table; rows = rs }) → All P (entries_for o h.table rs)
    one [] x = All-nil P
    one (r ∷ rs) x = All-cons P (record { op = o; table = h.table; rows = r ∷ rs }) [] x (All-nil P)

-- they are all of its operator
pub logged_own : (o : ℕ) (classes : List ℕ) (hs : List TablePort) (rows : ℕ → List (List ℤ)) (c : ℕ) → All (λ e. e.op ≡ o) (logged o classes hs rows c)
logged_own o classes hs rows c = logged_all (λ e. e.op ≡ o) o classes hs rows c (λ j h rs g e. refl)

-- one port more
pub logged_more : (o : ℕ) (classes : List ℕ) (hs : List TablePort) (h : TablePort) (rows : ℕ → List (List ℤ)) (c : ℕ)
    → logged o classes (hs ++ h ∷ []) rows c
    ≡ logged o classes hs rows c ++ (if nat_eq (slice_index_or classes h.place 0) c then entries_for o h.table (rows (length hs)) else [])
logged_more o classes [] h rows c = append-nil (if nat_eq (slice_index_or classes h.place 0) c then entries_for o h.table (rows 0) else [])
logged_more o classes (k ∷ hs) h rows c =
    let first = if nat_eq (slice_index_or classes k.place 0) c then entries_for o k.table (rows 0) else [] in
    ap (λ l. first ++ l) (logged_more o classes hs h (λ j. rows (suc j)) c)
    ∙ sym (append_assoc first (logged o classes hs (λ j. rows (suc j)) c)
    (if nat_eq (slice_index_or classes h.place 0) c then entries_for o h.table (rows (suc (length hs))) else []))

-- a class at which no port has its table has none
pub logged_none : (o : ℕ) (classes : List ℕ) (hs : List TablePort) (rows : ℕ → List (List ℤ)) (c : ℕ)
    → ((j : ℕ) (h : TablePort) → slice_get hs j ≡ Some h → slice_index_or classes h.place 0 ≢ c) → logged o classes hs rows c ≡ []
logged_none o classes [] rows c ne = refl
logged_none o classes (h ∷ hs) rows c ne =
    ap (λ l. l ++ logged o classes hs (λ j. rows (suc j)) c) (if_ne (slice_index_or classes h.place 0) c (entries_for o h.table (rows 0)) [] (ne 0 h refl))
    ∙ logged_none o classes hs (λ j. rows (suc j)) c (λ j k g. ne (suc j) k g)

-- THE ROWS FOR A TABLE

rows_one : (o table : ℕ) (rs : List (List ℤ)) → rows_to table (entries_for o table rs) ≡ rs
rows_one o table [] = refl
rows_one o table (r ∷ rs) =
    ap (λ (b : Bool). (if b then r ∷ rs else []) ++ []) (eq-eqb table table refl) ∙ append-nil (r ∷ rs)

rows_other : (o table other : ℕ) (rs : List (List ℤ)) → other ≢ table → rows_to table (entries_for o other rs) ≡ []
rows_other o table other [] ne = refl
rows_other o table other (r ∷ rs) ne = ap (λ (b : Bool). (if b then r ∷ rs else []) ++ []) (ne_eqb other table ne)

-- no port has this table
rows_absent : (o : ℕ) (classes : List ℕ) (hs : List TablePort) (rows : ℕ → List (List ℤ)) (c table : ℕ)
    → ((j : ℕ) (h : TablePort) → slice_get hs j ≡ Some h → h.table ≢ table) → rows_to table (logged o classes hs rows c) ≡ []
rows_absent o classes [] rows c table ne = refl
rows_absent o classes (h ∷ hs) rows c table ne =
    let first = if nat_eq (slice_index_or classes h.place 0) c then entries_for o h.table (rows 0) else [] in
    let rest = logged o classes hs (λ j. rows (suc j)) c in
    flat_map-append (rows_of_entry table) first rest
    ∙ ap (λ l. l ++ rows_to table rest) (⊎_elim
    (λ e. ap (rows_to table) (if_eq (slice_index_or classes h.place 0) c (entries_for o h.table (rows 0)) [] e)
    ∙ rows_other o table h.table (rows 0) (ne 0 h refl))
    (λ e. ap (rows_to table) (if_ne (slice_index_or classes h.place 0) c (entries_for o h.table (rows 0)) [] e))
    (cases_eq (slice_index_or classes h.place 0) c))
    ∙ rows_absent o classes hs (λ j. rows (suc j)) c table (λ j k g. ne (suc j) k g)

-- the port that has it gives its rows, at the class of the table
rows_present : (o : ℕ) (classes : List ℕ) (hs : List TablePort) (rows : ℕ → List (List ℤ)) (c j : ℕ) (h : TablePort)
    → ((i k : ℕ) (a b : TablePort) → slice_get hs i ≡ Some a → slice_get hs k ≡ Some b → a.table ≡ b.table → i ≡ k)
    → slice_get hs j ≡ Some h → slice_index_or classes h.place 0 ≡ c → rows_to h.table (logged o classes hs rows c) ≡ rows j
rows_present o classes [] rows c j h once g e = absurd (cc g)
rows_present o classes (k ∷ hs) rows c zero h once g e =
    let is : k ≡ h = same_Some k h g in
    let first = if nat_eq (slice_index_or classes k.place 0) c then entries_for o k.table (rows 0) else [] in
    let rest = logged o classes hs (λ j. rows (suc j)) c in
    flat_map-append (rows_of_entry h.table) first rest
    ∙ ap (λ l. rows_to h.table first ++ l)
    (rows_absent o classes hs (λ j. rows (suc j)) c h.table
    (λ i a ga same. absurd (let q = once (suc i) 0 a k ga refl (same ∙ sym (ap (λ (y : TablePort). y.table) is)) in omega (arith, q))))
    ∙ append-nil (rows_to h.table first)
    ∙ ap (rows_to h.table)
    (if_eq (slice_index_or classes k.place 0) c (entries_for o k.table (rows 0)) [] (ap (λ (y : TablePort). slice_index_or classes y.place 0) is ∙ e)
    ∙ ap (λ (y : TablePort). entries_for o y.table (rows 0)) is)
    ∙ rows_one o h.table (rows 0)
rows_present o classes (k ∷ hs) rows c (suc j) h once g e =
    let first = if nat_eq (slice_index_or classes k.place 0) c then entries_for o k.table (rows 0) else [] in
    let rest = logged o classes hs (λ i. rows (suc i)) c in
    let ne : k.table ≢ h.table = λ same. absurd (let q = once 0 (suc j) k h refl g same in omega (arith, q)) in
    flat_map-append (rows_of_entry h.table) first rest
    ∙ ap (λ l. l ++ rows_to h.table rest) (⊎_elim
    (λ q. ap (rows_to h.table) (if_eq (slice_index_or classes k.place 0) c (entries_for o k.table (rows 0)) [] q) ∙ rows_other o h.table k.table (rows 0) ne)
    (λ q. ap (rows_to h.table) (if_ne (slice_index_or classes k.place 0) c (entries_for o k.table (rows 0)) [] q))
    (cases_eq (slice_index_or classes k.place 0) c))
    ∙ rows_present o classes hs (λ i. rows (suc i)) c j h (λ i m a b ga gb s. let q = once (suc i) (suc m) a b ga gb s in omega (arith, q)) g e

-- those of some names that are among others
abbrev among : List Name → List Name → List Name
among ns vs = filter (λ v. nat_lt 0 (count v ns)) vs

-- THE ENTRIES OF ONE OPERATOR

-- all of them, where all are the operator's
pub part_all : (o : ℕ) (es : List LogEntry) → All (λ e. e.op ≡ o) es → part_of_op o es ≡ es
part_all o [] h = refl
part_all o (e ∷ es) h =
    ap (λ (b : Bool). if b then e ∷ part_of_op o es else part_of_op o es) (eq-eqb e.op o (All-head (λ (x : LogEntry). x.op ≡ o) e es h))
    ∙ ap (λ l. e ∷ l) (part_all o es (All-tail (λ (x : LogEntry). x.op ≡ o) e es h))

-- none, where all are another's
pub part_none : (o n : ℕ) (es : List LogEntry) → All (λ e. e.op ≡ o) es → n ≢ o → part_of_op n es ≡ []
part_none o n [] h ne = refl
part_none o n (e ∷ es) h ne =
    ap (λ (b : Bool). if b then e ∷ part_of_op n es else part_of_op n es) (ne_eqb e.op n (λ q. ne (sym q ∙ All-head (λ (x : LogEntry). x.op ≡ o) e es h)))
    ∙ part_none o n es (All-tail (λ (x : LogEntry). x.op ≡ o) e es h) ne

-- WHAT LOGS THAT GROW ADD

-- more entries of operator o change nothing of what another added
pub added_else : (p : PlanForm) (logs logs' more : ℕ → List LogEntry) (o n : ℕ) → ((c : ℕ) → logs' c ≡ logs c ++ more c)
    → ((c : ℕ) → All (λ e. e.op ≡ o) (more c)) → n ≢ o
    → (j : ℕ) → added p logs' n j ≡ added p logs n j
added_else p logs logs' more o n e own ne j =
    let t = table_at p n j in
    let c = table_class p t in
    ap (rows_by n t) (e c) ∙ rows-append n t (logs c) (more c)
    ∙ ap (λ l. rows_by n t (logs c) ++ rows_to t l) (part_none o n (more c) (own c) ne) ∙ append-nil (rows_by n t (logs c))

module _ (p : PlanForm) (v : IsPlan p) (o : ℕ) (op : OpForm) (g : slice_get p.ops o ≡ Some op) (tables : List TablePort) (classes : List ℕ)
    (homes : AreHomes p o tables classes) where
  abbrev names : List Name
  names = table_names p.tables

  abbrev mine : List Name
  mine = tables_of names op

  numbers_are : map (λ (h : TablePort). h.table) tables ≡ places names mine
  numbers_are = homes.numbers ∙ ap (table_numbers p) g

  name_of : (j : ℕ) (h : TablePort) → slice_get tables j ≡ Some h → (q : Name) × (slice_get mine j ≡ Some q) × (place names q ≡ h.table)
  name_of j h gh = got_place names mine j h.table (ap (λ l. slice_get l j) (sym numbers_are) ∙ got_map (λ (y : TablePort). y.table) tables j h gh)

  mine_once : (q : Name) → count q mine ≤ 1
  mine_once q =
      let few = each_at (λ (d : OpForm). (w : Name) → vars_it w d ≤ 1) p.ops o op v.vars_apart g q in
      let less = fewer names op.vars q in
      omega (arith, few, less)
    where
      fewer : (ns vs : List Name) (w : Name) → count w (among ns vs) ≤ count w vs
      fewer ns [] w = omega arith
      fewer ns (x ∷ vs) w = let h = fewer ns vs w in ⊎_elim
          (λ lt. let e = ap (count w) (if_lt 0 (count x ns) (x ∷ among ns vs) (among ns vs) lt) in omega (arith, e, h))
          (λ ge. let e = ap (count w) (if_ge 0 (count x ns) (x ∷ among ns vs) (among ns vs) ge) in omega (arith, e, h))
          (cases_lt 0 (count x ns))

  -- no table stands at two ports
  pub tables_once : (i k : ℕ) (a b : TablePort) → slice_get tables i ≡ Some a → slice_get tables k ≡ Some b → a.table ≡ b.table → i ≡ k
  tables_once i k a b ga gb same =
      let qa = name_of i a ga in
      let qb = name_of k b gb in
      let ka = among_known names op.vars qa.0 (got_count mine i qa.0 qa.1) in
      let kb = among_known names op.vars qb.0 (got_count mine k qb.0 qb.1) in
      let is : qa.0 ≡ qb.0 = place_apart names qa.0 qb.0 ka kb (qa.2 ∙ same ∙ sym qb.2) in
      place_once mine i k qa.0 (mine_once qa.0) qa.1 (ap (λ l. l) gb_is ∙ ap Some (sym is))
    where
      gb_is : slice_get mine k ≡ Some (name_of k b gb).0
      gb_is = (name_of k b gb).1

  -- the class of the table at a port
  pub class_is : (j : ℕ) (h : TablePort) → slice_get tables j ≡ Some h → slice_index_or classes h.place 0 ≡ table_class p h.table
  class_is j h gh = got_or classes h.place (table_class p h.table) (homes.places_are j h gh)
    where
      got_or : (xs : List ℕ) (i x : ℕ) → slice_get xs i ≡ Some x → slice_index_or xs i 0 ≡ x
      got_or [] i x e = absurd (cc e)
      got_or (y ∷ ys) zero x e = cc e
      got_or (y ∷ ys) (suc i) x e = got_or ys i x e

  -- the number of the table at a port
  pub table_is : (j : ℕ) (h : TablePort) → slice_get tables j ≡ Some h → table_at p o j ≡ h.table
  table_is j h gh =
      ap (λ (l : List ℕ). slice_index_or l j 0) (sym homes.numbers)
      ∙ got_or (map (λ (y : TablePort). y.table) tables) j h.table (got_map (λ (y : TablePort). y.table) tables j h gh)
    where
      got_or : (xs : List ℕ) (i x : ℕ) → slice_get xs i ≡ Some x → slice_index_or xs i 0 ≡ x
      got_or [] i x e = absurd (cc e)
      got_or (y ∷ ys) zero x e = cc e
      got_or (y ∷ ys) (suc i) x e = got_or ys i x e

  -- the entries of a firing add its rows
  pub added_more : (logs logs' : ℕ → List LogEntry) (rows : ℕ → List (List ℤ)) → ((c : ℕ) → logs' c ≡ logs c ++ logged o classes tables rows c)
      → (j : ℕ) (h : TablePort) → slice_get tables j ≡ Some h → added p logs' o j ≡ added p logs o j ++ rows j
  added_more logs logs' rows e j h gh =
      let t = table_at p o j in
      let is = table_is j h gh in
      let c = table_class p t in
      let came = logged o classes tables rows c in
      ap (rows_by o t) (e c) ∙ rows-append o t (logs c) came
      ∙ ap (λ l. rows_by o t (logs c) ++ l) (
      ap (rows_to t) (part_all o came (logged_own o classes tables rows c))
      ∙ ap (λ n. rows_to n (logged o classes tables rows (table_class p n))) is
      ∙ rows_present o classes tables rows (table_class p h.table) j h tables_once gh (class_is j h gh))

  -- and are right ones
  pub entries_logged : (rows : ℕ → List (List ℤ)) (c : ℕ) → All (IsEntryOf p c) (logged o classes tables rows c)
  entries_logged rows c = logged_all (IsEntryOf p c) o classes tables rows c (λ j h rs gh e. record {
    op = op;
    op_is = g;
    port = j;
    table = ap (λ l. slice_get l j) (sym (homes.numbers ∙ ap (table_numbers p) g)) ∙ got_map (λ (y : TablePort). y.table) tables j h gh;
    class = sym (class_is j h gh) ∙ e;
  })

-- CELLS OF A PILE

-- nothing came
pub grown_none : (pile : List Piled) → pile_grown (λ c. []) pile ≡ pile
grown_none [] = refl
grown_none (x ∷ xs) =
    ap (λ (l : List LogEntry). (x.0, record x.1 { log = l }) ∷ pile_grown (λ c. []) xs) (append-nil x.1.log) ∙ ap (λ (l : List Piled). x ∷ l) (grown_none xs)

grown_same : (f g : ℕ → List LogEntry) (pile : List Piled) → ((c : ℕ) → f c ≡ g c) → pile_grown f pile ≡ pile_grown g pile
grown_same f g [] e = refl
grown_same f g (x ∷ xs) e =
    ap (λ (l : List LogEntry). (x.0, record x.1 { log = x.1.log ++ l }) ∷ pile_grown f xs) (e x.0)
    ∙ ap (λ (l : List Piled). (x.0, record x.1 { log = x.1.log ++ g x.0 }) ∷ l) (grown_same f g xs e)

grown_twice : (f g : ℕ → List LogEntry) (pile : List Piled) → pile_grown g (pile_grown f pile) ≡ pile_grown (λ c. f c ++ g c) pile
grown_twice f g [] = refl
grown_twice f g (x ∷ xs) =
    ap (λ (l : List LogEntry). (x.0, record x.1 { log = l }) ∷ pile_grown g (pile_grown f xs)) (append_assoc x.1.log (f x.0) (g x.0))
    ∙ ap (λ (l : List Piled). (x.0, record x.1 { log = x.1.log ++ (f x.0 ++ g x.0) }) ∷ l) (grown_twice f g xs)

-- the classes of the cells stay
pub classes_grown : (f : ℕ → List LogEntry) (pile : List Piled) → classes_of (pile_grown f pile) ≡ classes_of pile
classes_grown f [] = refl
classes_grown f (x ∷ xs) = ap (λ (l : List ℕ). x.0 ∷ l) (classes_grown f xs)

grown_at : (f : ℕ → List LogEntry) (pile : List Piled) (i : ℕ) (x : Piled) → slice_get pile i ≡ Some x
    → slice_get (pile_grown f pile) i ≡ Some (x.0, record x.1 { log = x.1.log ++ f x.0 })
grown_at f pile i x g = got_map (λ (y : Piled). (y.0, record y.1 { log = y.1.log ++ f y.0 })) pile i x g

class_at : (pile : List Piled) (i d : ℕ) (x : Piled) → slice_get pile i ≡ Some x → get_or (classes_of pile) i d ≡ x.0
class_at [] i d x g = absurd (cc g)
class_at (y ∷ ys) zero d x g = ap (λ (z : Piled). z.0) (same_Some y x g)
class_at (y ∷ ys) (suc i) d x g = class_at ys i d x g

abbrev only_at : ℕ → List LogEntry → ℕ → List LogEntry
only_at c e n = if nat_eq c n then e else []

-- a cell of none of these classes
none_grown : (c : ℕ) (e : List LogEntry) (xs : List Piled) → ((k d : ℕ) → k < length xs → c ≢ get_or (classes_of xs) k d) → pile_grown (only_at c e) xs ≡ xs
none_grown c e [] ne = refl
none_grown c e (x ∷ xs) ne =
    ap (λ (l : List LogEntry). (x.0, record x.1 { log = x.1.log ++ l }) ∷ pile_grown (only_at c e) xs) (if_ne c x.0 e [] (ne 0 0 (omega arith)))
    ∙ ap (λ (l : List LogEntry). (x.0, record x.1 { log = l }) ∷ pile_grown (only_at c e) xs) (append-nil x.1.log)
    ∙ ap (λ (l : List Piled). x ∷ l) (none_grown c e xs (λ k d lt. ne (suc k) d (omega (arith, lt))))

-- one cell has more
set_grown : (pile : List Piled) (i : ℕ) (x : Piled) (e : List LogEntry) → slice_get pile i ≡ Some x → AllPairs (λ a b. a < b) (classes_of pile)
    → set pile i (x.0, record x.1 { log = x.1.log ++ e }) ≡ pile_grown (only_at x.0 e) pile
set_grown [] i x e g up = absurd (cc g)
set_grown (y ∷ ys) zero x e g up =
    let is : y ≡ x = same_Some y x g in
    let long = length-map ys (λ (z : Piled). z.0) in
    let ne : (k d : ℕ) → k < length ys
    → x.0 ≢ get_or (classes_of ys) k d = λ k d lt q. let h = up 0 (suc k) d (omega arith) (omega (arith, long, lt)) in let m =
    ap (λ (z : Piled). z.0) is in omega (arith, h, m, q) in
    ap (λ (l : List Piled). (x.0, record x.1 { log = x.1.log ++ e }) ∷ l) (sym (none_grown x.0 e ys ne))
    ∙ ap (λ (l : List LogEntry). (x.0, record x.1 { log = x.1.log ++ l }) ∷ pile_grown (only_at x.0 e) ys) (sym (if_eq x.0 x.0 e [] refl))
    ∙ ap (λ (z : Piled). (z.0, record z.1 { log = z.1.log ++ only_at x.0 e z.0 }) ∷ pile_grown (only_at x.0 e) ys) (sym is)
set_grown (y ∷ ys) (suc i) x e g up =
    let long = length-map ys (λ (z : Piled). z.0) in
    let there = slice_get_within ys i x g in
    let at = class_at ys i 0 x g in
    let lt : y.0 < x.0 = (let h = up 0 (suc i) 0 (omega arith) (omega (arith, long, there)) in omega (arith, h, at)) in
    ap (λ (l : List Piled). y ∷ l) (set_grown ys i x e g (λ a b d la lb. up (suc a) (suc b) d (omega (arith, la)) (omega (arith, lb))))
    ∙ ap (λ (l : List LogEntry). (y.0, record y.1 { log = l }) ∷ pile_grown (only_at x.0 e) ys) (sym (append-nil y.1.log))
    ∙ ap (λ (l : List LogEntry). (y.0, record y.1 { log = y.1.log ++ l }) ∷ pile_grown (only_at x.0 e) ys)
    (sym (if_ne x.0 y.0 e [] (λ q. omega (arith, q, lt))))

-- where there are no rows nothing changes
pub set_none : (o table : ℕ) (rows : List (List ℤ)) (pile : List Piled) (i : ℕ) (x : Piled) → slice_get pile i ≡ Some x → rows ≡ []
    → pile ≡ set pile i (cell_with_rows o table rows x)
set_none o table rows pile i x g e =
    sym (at pile i g) ∙ ap (set pile i)
    (ap (λ (l : List LogEntry). (x.0, record x.1 { log = l })) (sym (append-nil x.1.log)) ∙ ap (λ (r : List (List ℤ)). cell_with_rows o table r x) (sym e))
  where
    at : (ps : List Piled) (n : ℕ) → slice_get ps n ≡ Some x → set ps n x ≡ ps
    at [] n h = refl
    at (y ∷ ys) zero h = ap (λ z. z ∷ ys) (sym (same_Some y x h))
    at (y ∷ ys) (suc n) h = ap (λ l. y ∷ l) (at ys n h)

-- PORT BY PORT

-- the pile after the entries of the first ports
abbrev pub AddedTo : ℕ → List TablePort → (ℕ → List (List ℤ)) → ℕ → List Piled → List Piled → Type 0
AddedTo o tables rows j pile now = now ≡ pile_grown (logged o (classes_of pile) (take j tables) rows) pile

-- before the first port
pub added_none : (o : ℕ) (tables : List TablePort) (rows : ℕ → List (List ℤ)) (pile : List Piled) → AddedTo o tables rows 0 pile pile
added_none o tables rows pile = sym (grown_none pile)

take_next : {A : Type 0} (xs : List A) (j : ℕ) (x : A) → slice_get xs j ≡ Some x → take (j + 1) xs ≡ take j xs ++ x ∷ []
take_next xs j x g = let e : j + 1 ≡ suc j = omega arith in ap (λ n. take n xs) e ∙ by xs j x g
  where
    by : {A : Type 0} (ys : List A) (n : ℕ) (y : A) → slice_get ys n ≡ Some y → take (suc n) ys ≡ take n ys ++ y ∷ []
    by [] n y e = absurd (cc e)
    by (z ∷ ys) zero y e = ap (λ w. w ∷ []) (same_Some z y e)
    by (z ∷ ys) (suc n) y e = ap (λ l. z ∷ l) (by ys n y e)

-- the cell of the table at a port has the class's place, whatever came before
pub cell_now : (o : ℕ) (tables : List TablePort) (rows : ℕ → List (List ℤ)) (j : ℕ) (pile now : List Piled) (h : TablePort) → AddedTo o tables rows j pile now
    → HasCells tables rows pile → slice_get tables j ≡ Some h → (x : Piled) × (slice_get now h.place ≡ Some x) × TakesRows x.1.kinds h.table (rows j)
cell_now o tables rows j pile now h e can g =
    let x = can.each j h g in
    let more = logged o (classes_of pile) (take j tables) rows in
    ((x.0.0, record x.0.1 { log = x.0.1.log ++ more x.0.0 }), ap (λ l. slice_get l h.place) e ∙ grown_at more pile h.place x.0 x.1, x.2)

-- one port more
pub added_next : (o : ℕ) (tables : List TablePort) (rows : ℕ → List (List ℤ)) (j : ℕ) (pile now new : List Piled) (h : TablePort) (x : Piled)
    → IsStrictlyIncreasing (classes_of pile)
    → AddedTo o tables rows j pile now → slice_get tables j ≡ Some h → slice_get now h.place ≡ Some x
    → new ≡ set now h.place (cell_with_rows o h.table (rows j) x)
    → AddedTo o tables rows (j + 1) pile new
added_next o tables rows j pile now new h x up e g gx n =
    let cs = classes_of pile in
    let f = logged o cs (take j tables) rows in
    let en = entries_for o h.table (rows j) in
    let same : classes_of now ≡ cs = ap classes_of e ∙ classes_grown f pile in
    let at : slice_index_or cs h.place 0 ≡ x.0 = ap (λ (l : List ℕ). slice_index_or l h.place 0) (sym same) ∙ class_at now h.place 0 x gx in
    let rises = subst (λ l. AllPairs (λ (a b : ℕ). a < b) l) (sym same) (AllPairs-from_increasing cs up) in
    n ∙ set_grown now h.place x en gx rises ∙ ap (pile_grown (only_at x.0 en)) e ∙ grown_twice f (only_at x.0 en) pile
    ∙ grown_same (λ c. f c ++ only_at x.0 en c) (logged o cs (take (j + 1) tables) rows) pile (λ c.
    ap (λ m. f c ++ only_at m en c) (sym at)
    ∙ ap (λ m. f c ++ (if nat_eq (slice_index_or cs h.place 0) c then entries_for o h.table (rows m) else []))
    (sym (take_length tables j (slice_get_within tables j h g)))
    ∙ sym (logged_more o cs (take j tables) h rows c)
    ∙ ap (λ l. logged o cs l rows c) (sym (take_next tables j h g)))

-- behind the last port
pub added_whole : (o : ℕ) (tables : List TablePort) (rows : ℕ → List (List ℤ)) (j : ℕ) (pile now : List Piled) → AddedTo o tables rows j pile now
    → length tables ≤ j
    → now ≡ pile_grown (logged o (classes_of pile) tables rows) pile
added_whole o tables rows j pile now e le = e ∙ ap (λ l. pile_grown (logged o (classes_of pile) l rows) pile) (take_all j tables le)

-- what came is of this operator
pub added_gained : (o : ℕ) (tables : List TablePort) (rows : ℕ → List (List ℤ)) (j : ℕ) (pile now : List Piled) → AddedTo o tables rows j pile now
    → HaveGained o pile now
added_gained o tables rows j pile now e = record {
  more = logged o (classes_of pile) (take j tables) rows;
  is = e;
  own = λ c. logged_own o (classes_of pile) (take j tables) rows c;
}

-- nothing was added
pub none_gained : (o : ℕ) (pile : List Piled) → HaveGained o pile pile
none_gained o pile = record { more = λ c. []; is = sym (grown_none pile); own = λ c. All-nil (λ (e : LogEntry). e.op ≡ o) }

-- the cells of a task's classes take the rows of its tables
pub can_add : (p : PlanForm) (o : ℕ) (tables : List TablePort) (classes : List ℕ) (rows : ℕ → List (List ℤ)) (pile : List Piled) → AreHomes p o tables classes
    → AreRowsFor p tables rows → AreCellsOf p classes pile → HasCells tables rows pile
can_add p o tables classes rows pile homes wide cells = record {
  each = λ j h g.
      let d = wide.wide j h g in
      let at = homes.places_are j h g in
      let x = found pile h.place (table_class p h.table) (ap (λ l. slice_get l h.place) cells.named ∙ at) in
      (x.0, x.1, record { kind = d.0.kind; has = cells.kinds h.place x.0 x.1 h.table d.0 d.1 (sym x.2); wide = d.2 });
}
  where
    found : (ps : List Piled) (i c : ℕ) → slice_get (classes_of ps) i ≡ Some c → (x : Piled) × (slice_get ps i ≡ Some x) × (x.0 ≡ c)
    found [] i c e = absurd (cc e)
    found (y ∷ ys) zero c e = (y, refl, same_Some y.0 c e)
    found (y ∷ ys) (suc i) c e = found ys i c e
