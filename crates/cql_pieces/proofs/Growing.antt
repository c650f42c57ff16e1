-- A query of one item, all of whose rows stay: `Istream` gives the rows of the instant, and `Dstream` nothing.
use Rattle.std.proofs.Common.{◌≡◌, ◌+◌, ℤ, true, false, List, [], ◌∷◌, ◌++◌, refl, sym, ap, ◌∙◌, arith, cond, map, subst, append_assoc}
use Rattle.std.specs.Prelude.{int_lt, int_le, filter, flat_map, Option, Some, None}
use Rattle.std.specs.Ordering.{int_eq}
use Rattle.std.proofs.lemmas.List.Elements.{filter-append}
use Rattle.std.proofs.lemmas.List.Concat.{flat_map-append}
use Rattle.std.proofs.lemmas.List.{append-nil, map-append}
use Rattle.std.proofs.lemmas.List.Sums.{sum_by-append}
use Rattle.river_base.specs.Instants.{Timed}
use Rattle.river_base.specs.Row.{row_eq, copies, in_order}
use Rattle.kern_bags.specs.Contents.{without}
use Rattle.kern_changes.proofs.Copies.{copies-without}
use Rattle.kern_changes.proofs.Leading.{same_order}
use Rattle.work_code.specs.Value.{is_true}
use Rattle.cql_text.specs.Tree.{Name, Scalar, Window, Now, Range, Unbounded, Latest, Source, Query}
use Rattle.cql_text.specs.declared.tree.Kind.TheVariants.{Istream, Dstream}
use Rattle.cql_model.specs.Scopes.{Named}
use Rattle.cql_model.specs.Streams.{in_reach, windowed, last_instant, at_last, content_before, as_stream}
use Rattle.cql_model.specs.Meaning.{Tuple, eval, product_of, where_true, selected_row}
use Rattle.cql_model.proofs.Instants.{Ascends, filter-none, filter-all, each-map, ascends_below, reach_front, below_front}
use Rattle.cql_pieces.specs.Piece.{stays, growing}

-- THE ROWS THAT COME

lt_le : (u t : ℤ) → int_lt u t ≡ true → int_le u t ≡ true
lt_le u t h = grind (arith, h)

lt_ne : (u t : ℤ) → int_lt u t ≡ true → int_eq u t ≡ false
lt_ne u t h = grind (arith, h)

le_self : (t : ℤ) → int_le t t ≡ true
le_self t = grind arith

eq_self : (t : ℤ) → int_eq t t ≡ true
eq_self t = grind arith

-- the instants in reach up to t are those before it, and itself
all_to : (front back : List ℤ) (t : ℤ) → Ascends (front ++ (t ∷ back)) → filter (in_reach Unbounded t) (front ++ (t ∷ back)) ≡ front ++ t ∷ []
all_to front back t a =
    reach_front Unbounded front back t a ∙ filter-append (in_reach Unbounded t) front (t ∷ [])
    ∙ ap (λ l. l ++ filter (in_reach Unbounded t) (t ∷ []))
    (filter-all (in_reach Unbounded t) front (each-map (λ u. int_lt u t ≡ true) (λ u. in_reach Unbounded t u ≡ true) (λ u h. lt_le u t h) front (ascends_below front back t a)))
    ∙ ap (λ c. front ++ cond c (t ∷ []) []) (le_self t)

now_at : (front back : List ℤ) (t : ℤ) → Ascends (front ++ (t ∷ back)) → filter (in_reach Now t) (front ++ (t ∷ back)) ≡ t ∷ []
now_at front back t a =
    reach_front Now front back t a ∙ filter-append (in_reach Now t) front (t ∷ [])
    ∙ ap (λ l. l ++ filter (in_reach Now t) (t ∷ []))
    (filter-none (in_reach Now t) front (each-map (λ u. int_lt u t ≡ true) (λ u. in_reach Now t u ≡ false) (λ u h. lt_ne u t h) front (ascends_below front back t a)))
    ∙ ap (λ c. cond c (t ∷ []) []) (eq_self t)

rows_to : (front back : List ℤ) (t : ℤ) (r : Timed) → Ascends (front ++ (t ∷ back)) → windowed Unbounded (front ++ (t ∷ back)) r t ≡ flat_map r (front ++ t ∷ [])
rows_to front back t r a = ap (flat_map r) (all_to front back t a)

now_rows : (front back : List ℤ) (t : ℤ) (r : Timed) → Ascends (front ++ (t ∷ back)) → windowed Now (front ++ (t ∷ back)) r t ≡ r t
now_rows front back t r a = ap (flat_map r) (now_at front back t a) ∙ append-nil (r t)

-- the last of instants, and those before it
record Snoc (vs : List ℤ) : Type 0 where
  front : List ℤ
  last : ℤ
  parts : vs ≡ front ++ last ∷ []
  is_last : last_instant vs ≡ Some last

snoc : (v : ℤ) (vs : List ℤ) → Snoc (v ∷ vs)
snoc v [] = record { front = []; last = v; parts = refl; is_last = refl }
snoc v (x ∷ vs) = let s = snoc x vs in record { front = v ∷ s.front; last = s.last; parts = ap (λ l. v ∷ l) s.parts; is_last = s.is_last }

-- a function of contents, of what came before t
before_is : (F : List (List ℤ) → List (List ℤ)) → F [] ≡ [] → (front back : List ℤ) (t : ℤ) (r c : Timed) → Ascends (front ++ (t ∷ back))
    → ((u : ℤ) → c u ≡ F (windowed Unbounded (front ++ (t ∷ back)) r u)) → content_before (front ++ (t ∷ back)) c t ≡ F (flat_map r front)
before_is F e [] back t r c a h = ap (λ l. at_last c (last_instant l)) (below_front [] back t a) ∙ sym e
before_is F e (v ∷ front) back t r c a h =
    let s = snoc v front in
    let q : (v ∷ front) ++ (t ∷ back) ≡ s.front ++ (s.last ∷ (t ∷ back)) = ap (λ l. l ++ (t ∷ back)) s.parts ∙ append_assoc s.front (s.last ∷ []) (t ∷ back) in
    ap (λ l. at_last c (last_instant l)) (below_front (v ∷ front) back t a) ∙ ap (at_last c) s.is_last ∙ h s.last
    ∙ ap (λ l. F (windowed Unbounded l r s.last)) q
    ∙ ap F (rows_to s.front (t ∷ back) s.last r (subst Ascends q a)) ∙ ap (λ l. F (flat_map r l)) (sym s.parts)

-- BAGS

copies-append : (row : List ℤ) (xs ys : List (List ℤ)) → copies row (xs ++ ys) ≡ copies row xs + copies row ys
copies-append row xs ys = sum_by-append (λ y. cond (row_eq row y) 1 0) xs ys

came : (xs ys : List (List ℤ)) → in_order (without (xs ++ ys) xs) ≡ in_order ys
came xs ys = same_order (without (xs ++ ys) xs) ys (λ row.
    let a = copies-without row (xs ++ ys) xs in
    let b = copies-append row xs ys in
    omega (arith, a, b))

gone : (xs ys : List (List ℤ)) → in_order (without xs (xs ++ ys)) ≡ []
gone xs ys = same_order (without xs (xs ++ ys)) [] (λ row.
    let a = copies-without row xs (xs ++ ys) in
    let b = copies-append row xs ys in
    let z : copies row [] ≡ 0 = refl in
    omega (arith, a, b, z))

-- a function of contents that takes rows one behind another to such
record Joins (F : List (List ℤ) → List (List ℤ)) : Type 0 where
  pub none : F [] ≡ []
  pub both : (xs ys : List (List ℤ)) → F (xs ++ ys) ≡ F xs ++ F ys

istream_grows : (F : List (List ℤ) → List (List ℤ)) → Joins F → (front back : List ℤ) (t : ℤ) (r c : Timed) → Ascends (front ++ (t ∷ back))
    → ((u : ℤ) → c u ≡ F (windowed Unbounded (front ++ (t ∷ back)) r u)) → as_stream Istream (front ++ (t ∷ back)) c t ≡ in_order (F (r t))
istream_grows F j front back t r c a h =
    let now : c t ≡ F (flat_map r front) ++ F (r t) =
    h t ∙ ap F (rows_to front back t r a ∙ flat_map-append r front (t ∷ []) ∙ ap (λ l. flat_map r front ++ l) (append-nil (r t))) ∙ j.both (flat_map r front) (r t) in
    ap (λ l. in_order (without l (content_before (front ++ (t ∷ back)) c t))) now
    ∙ ap (λ l. in_order (without (F (flat_map r front) ++ F (r t)) l)) (before_is F j.none front back t r c a h) ∙ came (F (flat_map r front)) (F (r t))

dstream_grows : (F : List (List ℤ) → List (List ℤ)) → Joins F → (front back : List ℤ) (t : ℤ) (r c : Timed) → Ascends (front ++ (t ∷ back))
    → ((u : ℤ) → c u ≡ F (windowed Unbounded (front ++ (t ∷ back)) r u)) → as_stream Dstream (front ++ (t ∷ back)) c t ≡ []
dstream_grows F j front back t r c a h =
    let now : c t ≡ F (flat_map r front) ++ F (r t) =
    h t ∙ ap F (rows_to front back t r a ∙ flat_map-append r front (t ∷ []) ∙ ap (λ l. flat_map r front ++ l) (append-nil (r t))) ∙ j.both (flat_map r front) (r t) in
    ap (λ l. in_order (without (content_before (front ++ (t ∷ back)) c t) l)) now
    ∙ ap (λ l. in_order (without l (F (flat_map r front) ++ F (r t)))) (before_is F j.none front back t r c a h) ∙ gone (F (flat_map r front)) (F (r t))

-- THE QUERY

-- the rows of a query of one item, by the content of its window
abbrev pub of_rows : Query → List Named → List (List ℤ) → List (List ℤ)
of_rows q scope rows = map (selected_row scope q.columns) (where_true scope q.condition (product_of (rows ∷ [])))

where_both : (scope : List Named) (o : Option Scalar) (xs ys : List Tuple) → where_true scope o (xs ++ ys) ≡ where_true scope o xs ++ where_true scope o ys
where_both scope None xs ys = refl
where_both scope (Some e) xs ys = filter-append (λ tuple. is_true (eval scope e tuple)) xs ys

where_none : (scope : List Named) (o : Option Scalar) → where_true scope o [] ≡ []
where_none scope None = refl
where_none scope (Some e) = refl

product_both : (xs ys : List (List ℤ)) → product_of ((xs ++ ys) ∷ []) ≡ product_of (xs ∷ []) ++ product_of (ys ∷ [])
product_both xs ys =
    let one = λ (row : List ℤ). row ∷ [] in
    append-nil (map one (xs ++ ys)) ∙ map-append one xs ys
    ∙ ap (λ l. l ++ map one ys) (sym (append-nil (map one xs))) ∙ ap (λ l. product_of (xs ∷ []) ++ l) (sym (append-nil (map one ys)))

of_rows_joins : (q : Query) (scope : List Named) → Joins (of_rows q scope)
of_rows_joins q scope = record {
  none = ap (map (selected_row scope q.columns)) (where_none scope q.condition);
  both = λ xs ys. ap (λ l. map (selected_row scope q.columns) (where_true scope q.condition l)) (product_both xs ys)
      ∙ ap (map (selected_row scope q.columns)) (where_both scope q.condition (product_of (xs ∷ [])) (product_of (ys ∷ [])))
      ∙ map-append (selected_row scope q.columns) (where_true scope q.condition (product_of (xs ∷ []))) (where_true scope q.condition (product_of (ys ∷ [])));
}

-- `Istream` of such a query gives what its rows of the instant give
pub istream_is : (q : Query) (scope : List Named) (ts front back : List ℤ) (t : ℤ) (r c : Timed) → ts ≡ front ++ (t ∷ back) → Ascends ts
    → ((u : ℤ) → c u ≡ of_rows q scope (windowed Unbounded ts r u)) → as_stream Istream ts c t ≡ in_order (of_rows q scope (r t))
istream_is q scope ts front back t r c e a h =
    ap (λ l. as_stream Istream l c t) e
    ∙ istream_grows (of_rows q scope) (of_rows_joins q scope) front back t r c (subst Ascends e a) (λ u. h u ∙ ap (λ l. of_rows q scope (windowed Unbounded l r u)) e)

-- and `Dstream` nothing
pub dstream_is : (q : Query) (scope : List Named) (ts front back : List ℤ) (t : ℤ) (r c : Timed) → ts ≡ front ++ (t ∷ back) → Ascends ts
    → ((u : ℤ) → c u ≡ of_rows q scope (windowed Unbounded ts r u)) → as_stream Dstream ts c t ≡ []
dstream_is q scope ts front back t r c e a h =
    ap (λ l. as_stream Dstream l c t) e
    ∙ dstream_grows (of_rows q scope) (of_rows_joins q scope) front back t r c (subst Ascends e a) (λ u. h u ∙ ap (λ l. of_rows q scope (windowed Unbounded l r u)) e)

-- which queries these are
pub record Grows (items : List Source) (n : Name) : Type 0 where
  pub item : Source
  pub alone : items ≡ item ∷ []
  pub window : item.window ≡ Unbounded
  pub stream : item.stream ≡ n

window_stays : (w : Window) (n m : Name) → stays w n ≡ Some m → (w ≡ Unbounded) × (n ≡ m)
window_stays Now n m h = cc h
window_stays (Range k unit) n m h = cc h
window_stays Unbounded n m h = (refl, cc h)
window_stays (Latest k) n m h = cc h

-- a query that grows has one item, on this stream, with `[Range Unbounded]`
pub grows : (items : List Source) (n : Name) → growing items ≡ Some n → Grows items n
grows [] n h = cc h
grows (i ∷ []) n h = let w = window_stays i.window i.stream n h in record { item = i; alone = refl; window = w.0; stream = w.1 }
grows (i ∷ j ∷ is) n h = cc h

-- the rows of a stream at an instant
pub rows_now : (ts front back : List ℤ) (t : ℤ) (r : Timed) → ts ≡ front ++ (t ∷ back) → Ascends ts → windowed Now ts r t ≡ r t
rows_now ts front back t r e a = ap (λ l. windowed Now l r t) e ∙ now_rows front back t r (subst Ascends e a)
