-- Rows of streams and relations have their widths.
use Rattle.std.proofs.Common.{◌≡◌, ℕ, zero, suc, ℤ, ◌+◌, ◌-◌, Bool, true, false, cond, Option, Some, None, List, [], ◌∷◌, refl, sym, ◌∙◌, arith, length, map}
use Rattle.std.proofs.Common.{filter, fold, drop, length-append}
use Rattle.std.specs.Prelude.{All, int_lt, if◌then◌else◌}
use Rattle.std.specs.List.{flat_map}
use Rattle.std.specs.Ordering.{int_eq}
use Rattle.std.proofs.lemmas.List.{length-map}
use Rattle.std.proofs.lemmas.List.Elements.{All-head, All-tail, All-cons, All-nil, All-append}
use Rattle.river_base.specs.Instants.{Timed, at_instant}
use Rattle.river_base.specs.Bags.{put_in_order}
use Rattle.river_base.specs.Held.{HaveWidth}
use Rattle.river_base.specs.Name.{name_eq}
use Rattle.river_base.specs.Row.{in_order, row_lt, row_eq}
use Rattle.river_plan.specs.Forms.{Name}
use Rattle.kern_bags.specs.Contents.{take_out, without}
use Rattle.cql_text.specs.Tree.{Window, Now, Range, Unbounded, Latest}
use Rattle.cql_text.specs.declared.tree.Kind.{Kind}
use Rattle.cql_text.specs.declared.tree.Kind.TheVariants.{Istream, Dstream, Rstream}
use Rattle.cql_text.specs.Tree.{Source, Column, Columns, Star, Chosen, Query}
use Rattle.cql_model.specs.Scopes.{Named, fields_of, scope_of, names_from, column_names}
use Rattle.cql_model.specs.Streams.{in_reach, kept_rows, windowed, last_instant, at_last, content_before, changed, as_stream}
use Rattle.cql_model.specs.Meaning.{KnownStream, named_of, rows_named, Tuple, all_values, selected_row, where_true, product_of, windows_at, content, answer}
use Rattle.cql_model.proofs.Contents.{AreWide, product_fits, where_fits}
use Rattle.cql_model.proofs.Values.{Fits}

-- ELEMENTS

pub all-drop : {A : Type 0} (P : A → Type 0) (n : ℕ) (xs : List A) → All P xs → All P (drop n xs)
all-drop P zero xs h = h
all-drop P (suc n) [] h = h
all-drop P (suc n) (x ∷ xs) h = all-drop P n xs (All-tail P x xs h)

pub all-flat_map : {A B : Type 0} (P : B → Type 0) (f : A → List B) (xs : List A) → ((x : A) → All P (f x)) → All P (flat_map f xs)
all-flat_map P f [] h = All-nil P
all-flat_map P f (x ∷ xs) h = All-append P (f x) (flat_map f xs) (h x) (all-flat_map P f xs h)

all-place : (P : List ℤ → Type 0) (x : List ℤ) (ys : List (List ℤ)) → P x → All P ys → All P (put_in_order row_lt x ys)
all-place P x [] p h = All-cons P x [] p h
all-place P x (y ∷ ys) p h = step (row_lt y x) (all-place P x ys p (All-tail P y ys h)) where
  step : (b : Bool) → All P (put_in_order row_lt x ys) → All P (cond b (y ∷ put_in_order row_lt x ys) (x ∷ (y ∷ ys)))
  step true more = All-cons P y (put_in_order row_lt x ys) (All-head P y ys h) more
  step false more = All-cons P x (y ∷ ys) p h

all-from : (P : List ℤ → Type 0) (done xs : List (List ℤ)) → All P done → All P xs → All P (fold (λ d x. put_in_order row_lt x d) done xs)
all-from P done [] d h = d
all-from P done (x ∷ xs) d h = all-from P (put_in_order row_lt x done) xs (all-place P x done (All-head P x xs h) d) (All-tail P x xs h)

pub all-in_order : (P : List ℤ → Type 0) (xs : List (List ℤ)) → All P xs → All P (in_order xs)
all-in_order P xs h = all-from P [] xs (All-nil P) h

all-take_out : (P : List ℤ → Type 0) (y : List ℤ) (xs : List (List ℤ)) → All P xs → All P (take_out y xs)
all-take_out P y [] h = h
all-take_out P y (x ∷ xs) h = step (row_eq x y) (all-take_out P y xs (All-tail P x xs h)) where
  step : (b : Bool) → All P (take_out y xs) → All P (cond b xs (x ∷ take_out y xs))
  step true more = All-tail P x xs h
  step false more = All-cons P x (take_out y xs) (All-head P x xs h) more

pub all-without : (P : List ℤ → Type 0) (xs ys : List (List ℤ)) → All P xs → All P (without xs ys)
all-without P xs [] h = h
all-without P xs (y ∷ ys) h = all-without P (take_out y xs) ys (all-take_out P y xs h)

-- STREAMS

-- the rows of a file have its width at each instant
pub file_wide : (n : ℕ) (file : List (ℤ × List ℤ)) (t : ℤ) → All (λ (e : ℤ × List ℤ). length e.1 ≡ n) file → HaveWidth n (at_instant file t)
file_wide n [] t h = All-nil (λ (row : List ℤ). length row ≡ n)
file_wide n (e ∷ es) t h = step (int_eq e.0 t) (file_wide n es t (All-tail (λ (x : ℤ × List ℤ). length x.1 ≡ n) e es h)) where
  step : (b : Bool) → HaveWidth n (at_instant es t)
      → HaveWidth n (map (λ (x : ℤ × List ℤ). x.1) (cond b (e ∷ filter (λ (x : ℤ × List ℤ). int_eq x.0 t) es) (filter (λ (x : ℤ × List ℤ). int_eq x.0 t) es)))
  step true more = All-cons (λ (row : List ℤ). length row ≡ n) e.1 (at_instant es t) (All-head (λ (x : ℤ × List ℤ). length x.1 ≡ n) e es h) more
  step false more = more

kept_wide : (P : List ℤ → Type 0) (w : Window) (rows : List (List ℤ)) → All P rows → All P (kept_rows w rows)
kept_wide P Now rows h = h
kept_wide P (Range n unit) rows h = h
kept_wide P Unbounded rows h = h
kept_wide P (Latest n) rows h = all-drop P (length rows - n) rows h

pub window_wide : (P : List ℤ → Type 0) (w : Window) (ts : List ℤ) (s : Timed) (t : ℤ) → ((u : ℤ) → All P (s u)) → All P (windowed w ts s t)
window_wide P w ts s t h = kept_wide P w (flat_map s (filter (in_reach w t) ts)) (all-flat_map P s (filter (in_reach w t) ts) h)

last_wide : (P : List ℤ → Type 0) (r : Timed) (o : Option ℤ) → ((u : ℤ) → All P (r u)) → All P (at_last r o)
last_wide P r None h = All-nil P
last_wide P r (Some u) h = h u

changed_wide : (P : List ℤ → Type 0) (k : Kind) (old new : List (List ℤ)) → All P old → All P new → All P (changed k old new)
changed_wide P Istream old new a b = all-without P new old b
changed_wide P Dstream old new a b = all-without P old new a
changed_wide P Rstream old new a b = b

streamed_wide : (P : List ℤ → Type 0) (k : Kind) (ts : List ℤ) (r : Timed) (t : ℤ) → ((u : ℤ) → All P (r u)) → All P (as_stream k ts r t)
streamed_wide P k ts r t h =
    all-in_order P (changed k (content_before ts r t) (r t))
    (changed_wide P k (content_before ts r t) (r t) (last_wide P r (last_instant (filter (λ u. int_lt u t) ts)) h) (h t))

-- WHAT IS KNOWN

-- all that is known has rows of its width
abbrev pub AllWide : List KnownStream → Type 0
AllWide [] = Unit {0}
AllWide (k ∷ ks) = ((t : ℤ) → HaveWidth (length k.named.fields) (k.rows t)) × AllWide ks

rows_wide : (ks : List KnownStream) (n : Name) (t : ℤ) → AllWide ks → HaveWidth (length (fields_of (named_of ks) n)) (rows_named ks n t)
rows_wide [] n t h = All-nil (λ (row : List ℤ). length row ≡ 0)
rows_wide (k ∷ ks) n t h = step (name_eq k.named.name n) (rows_wide ks n t h.1) where
  step : (b : Bool) → HaveWidth (length (fields_of (named_of ks) n)) (rows_named ks n t)
      → HaveWidth (length (if b then k.named.fields else fields_of (named_of ks) n)) (if b then k.rows t else rows_named ks n t)
  step true more = h.0 t
  step false more = more

pub windows_wide : (ts : List ℤ) (ks : List KnownStream) (items : List Source) (t : ℤ) → AllWide ks
    → AreWide (scope_of (named_of ks) items) (windows_at ts ks items t)
windows_wide ts ks [] t h = tt
windows_wide ts ks (i ∷ is) t h = (
  window_wide (λ row. length row ≡ length (fields_of (named_of ks) i.stream)) i.window ts (rows_named ks i.stream) t (λ u. rows_wide ks i.stream u h),
  windows_wide ts ks is t h,
)

-- the tuples of a query's items fit them
pub tuples_fit : (ts : List ℤ) (ks : List KnownStream) (items : List Source) (t : ℤ) → AllWide ks
    → All (Fits (scope_of (named_of ks) items)) (product_of (windows_at ts ks items t))
tuples_fit ts ks items t h = product_fits (scope_of (named_of ks) items) (windows_at ts ks items t) (windows_wide ts ks items t h)

-- ROWS OF COLUMNS

joined_wide : (scope : List Named) (tuple : Tuple) → Fits scope tuple → length (all_values tuple) ≡ length (flat_map (λ (i : Named). i.fields) scope)
joined_wide [] [] h = refl
joined_wide [] (r ∷ rs) h = absurd h
joined_wide (i ∷ is) [] h = absurd h
joined_wide (i ∷ is) (r ∷ rs) h =
    let m = joined_wide is rs h.1 in
    let a = length-append r (all_values rs) in
    let b = length-append i.fields (flat_map (λ (j : Named). j.fields) is) in
    omega (arith, m, a, b, h.0)

-- there are as many names as columns
pub length-names : (k : ℕ) (cs : List Column) → length (names_from k cs) ≡ length cs
length-names k [] = refl
length-names k (c ∷ cs) = let m = length-names (k + 1) cs in omega (arith, m)

row_wide : (scope : List Named) (cols : Columns) (tuple : Tuple) → Fits scope tuple → length (selected_row scope cols tuple) ≡ length (column_names scope cols)
row_wide scope Star tuple h = joined_wide scope tuple h
row_wide scope (Chosen cs) tuple h = length-map cs _ ∙ sym (length-names 1 cs)

rows_of_all : (n : ℕ) (g : Tuple → List ℤ) (P : Tuple → Type 0) (tuples : List Tuple) → All P tuples → ((x : Tuple) → P x → length (g x) ≡ n)
    → HaveWidth n (map g tuples)
rows_of_all n g P [] h f = All-nil (λ (row : List ℤ). length row ≡ n)
rows_of_all n g P (x ∷ xs) h f =
    All-cons (λ (row : List ℤ). length row ≡ n) (g x) (map g xs) (f x (All-head P x xs h)) (rows_of_all n g P xs (All-tail P x xs h) f)

content_wide : (ts : List ℤ) (ks : List KnownStream) (q : Query) (t : ℤ) → AllWide ks
    → HaveWidth (length (column_names (scope_of (named_of ks) q.items) q.columns)) (content ts ks q t)
content_wide ts ks q t h =
    let scope = scope_of (named_of ks) q.items in
    rows_of_all (length (column_names scope q.columns)) (selected_row scope q.columns) (Fits scope)
    (where_true scope q.condition (product_of (windows_at ts ks q.items t)))
    (where_fits scope q.condition (product_of (windows_at ts ks q.items t)) (tuples_fit ts ks q.items t h)) (λ x k. row_wide scope q.columns x k)

-- the rows of an answer have as many values as the query has columns
pub answer_wide : (ts : List ℤ) (ks : List KnownStream) (q : Query) (t : ℤ) → AllWide ks
    → HaveWidth (length (column_names (scope_of (named_of ks) q.items) q.columns)) (answer ts ks q t)
answer_wide ts ks q t h =
    streamed_wide (λ row. length row ≡ length (column_names (scope_of (named_of ks) q.items) q.columns)) q.kind ts (content ts ks q) t
    (λ u. content_wide ts ks q u h)
