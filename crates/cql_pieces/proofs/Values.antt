-- Programs and files of values of 64 bits mean rows of such values.
use Rattle.std.proofs.Common.{ℕ, zero, suc, ◌-◌, ◌<◌, ◌^◌, ℤ, pos, negsuc, Bool, true, false, List, [], ◌∷◌, ◌++◌, length, drop, arith, cond, subst, map, fold, ⊎_elim}
use Rattle.std.specs.Prelude.{All, int_lt, filter, flat_map, if◌then◌else◌, Option, Some, None, int_rem}
use Rattle.std.specs.List.{AllByRecursion, Contains}
use Rattle.std.specs.Int.{w64}
use Rattle.std.specs.Ordering.{int_eq}
use Rattle.std.proofs.lemmas.Int.{SFits-int_wrap}
use Rattle.std.proofs.lemmas.List.Elements.{Contains-append_cases, All-cons, All-nil, All-head, All-tail, All-append, All-filter}
use Rattle.river_base.specs.Instants.{Timed, at_instant, instants, stamps, spread}
use Rattle.river_base.specs.Name.{name_eq}
use Rattle.river_base.specs.Number.{IsValue}
use Rattle.river_base.specs.Row.{in_order}
use Rattle.river_base.proofs.Instants.{has_once}
use Rattle.work_code.specs.declared.expr.BinOp.{BinOp}
use Rattle.work_code.specs.declared.expr.BinOp.TheVariants as op
use Rattle.work_code.specs.Value.{truth, is_true, applied}
use Rattle.cql_text.specs.Tree.{Name, Scalar, Number, Field, ItemField, Neg, Not, Bin, Window, Now, Range, Unbounded, Latest, Source, Column, Columns, Star}
use Rattle.cql_text.specs.Tree.{Chosen, Query, Register, AQuery, Program}
use Rattle.cql_text.specs.declared.tree.Kind.{Kind}
use Rattle.cql_text.specs.declared.tree.Kind.TheVariants.{Istream, Dstream, Rstream}
use Rattle.cql_model.specs.KernelWords.{oper_of}
use Rattle.cql_model.specs.Scopes.{Named, scope_of}
use Rattle.cql_model.specs.Streams.{in_reach, kept_rows, last_instant, at_last, content_before, changed}
use Rattle.cql_model.specs.Meaning.{KnownStream, named_of, rows_named, Tuple, field_in, or_else, field_value, item_value, or_zero, eval, with_each, product_of}
use Rattle.cql_model.specs.Meaning.{where_true, all_values, selected_row, windows_at, content, answer, query_known, stream_known, answers}
use Rattle.cql_model.proofs.Widths.{all-in_order, all-without}
use Rattle.cql_pieces.specs.Piece.{File}
use Rattle.cql_pieces.specs.Text.{AreValues}
use Rattle.cql_pieces.specs.Values.{HasNumbers, ColumnsHaveNumbers, AreNumbers, IsOfValues, MeansValues}
use Rattle.cql_pieces.proofs.Cuts.{each_contained, first_or_more, none_there}

-- VALUES

small : (n : ℕ) → n < 2 ^ 63 → IsValue (pos n)
small n h = grind (arith, h)

nought : IsValue (pos 0)
nought = small 0 (omega arith)

truth-fits : (b : Bool) → IsValue (truth b)
truth-fits true = small 1 (omega arith)
truth-fits false = nought

if-fits : (b : Bool) (x y : ℤ) → IsValue x → IsValue y → IsValue (if b then x else y)
if-fits true x y h g = h
if-fits false x y h g = g

int_rem-fits : (a b : ℤ) → IsValue a → IsValue (int_rem a b)
int_rem-fits (pos n) (pos d) h = grind (arith, h)
int_rem-fits (pos n) (negsuc d) h = grind (arith, h)
int_rem-fits (negsuc n) (pos d) h = grind (arith, h)
int_rem-fits (negsuc n) (negsuc d) h = grind (arith, h)

applied-fits : (o : BinOp) (a b : ℤ) → IsValue a → IsValue b → IsValue (applied o a b)
applied-fits op.Add a b h g = SFits-int_wrap w64 _
applied-fits op.Sub a b h g = SFits-int_wrap w64 _
applied-fits op.Mul a b h g = SFits-int_wrap w64 _
applied-fits op.Quot a b h g = if-fits (int_eq b (pos 0)) (pos 0) _ nought (SFits-int_wrap w64 _)
applied-fits op.Rem a b h g = if-fits (int_eq b (pos 0)) (pos 0) (int_rem a b) nought (int_rem-fits a b h)
applied-fits op.Eq a b h g = truth-fits _
applied-fits op.Ne a b h g = truth-fits _
applied-fits op.Lt a b h g = truth-fits _
applied-fits op.Le a b h g = truth-fits _
applied-fits op.Gt a b h g = truth-fits _
applied-fits op.Ge a b h g = truth-fits _
applied-fits op.And a b h g = truth-fits _
applied-fits op.Or a b h g = truth-fits _

-- ROWS AND TUPLES

abbrev Fit : List ℤ → Type 0
Fit row = All IsValue row

abbrev AreFit : List (List ℤ) → Type 0
AreFit rows = All Fit rows

-- a stream, at all times
abbrev Streams : Timed → Type 0
Streams s = (t : ℤ) → AreFit (s t)

drop-fit : (n : ℕ) (rows : List (List ℤ)) → AreFit rows → AreFit (drop n rows)
drop-fit zero rows h = h
drop-fit (suc n) [] h = All-nil Fit
drop-fit (suc n) (row ∷ rows) h = drop-fit n rows (All-tail Fit row rows h)

joined-fit : (s : Timed) (ts : List ℤ) → Streams s → AreFit (flat_map s ts)
joined-fit s [] h = All-nil Fit
joined-fit s (t ∷ ts) h = All-append Fit (s t) (flat_map s ts) (h t) (joined-fit s ts h)

kept-fit : (w : Window) (rows : List (List ℤ)) → AreFit rows → AreFit (kept_rows w rows)
kept-fit Now rows h = h
kept-fit (Range n unit) rows h = h
kept-fit Unbounded rows h = h
kept-fit (Latest n) rows h = drop-fit (length rows - n) rows h

abbrev Tuples : List Tuple → Type 0
Tuples tuples = All AreFit tuples

ends-fit : (tuple : Tuple) (rows : List (List ℤ)) → AreFit tuple → AreFit rows → Tuples (map (λ row. tuple ++ row ∷ []) rows)
ends-fit tuple [] h g = All-nil AreFit
ends-fit tuple (row ∷ rows) h g =
    All-cons AreFit (tuple ++ row ∷ []) (map (λ r. tuple ++ r ∷ []) rows)
    (All-append Fit tuple (row ∷ []) h (All-cons Fit row [] (All-head Fit row rows g) (All-nil Fit))) (ends-fit tuple rows h (All-tail Fit row rows g))

each-fit : (tuples : List Tuple) (rows : List (List ℤ)) → Tuples tuples → AreFit rows → Tuples (with_each tuples rows)
each-fit [] rows h g = All-nil AreFit
each-fit (tuple ∷ tuples) rows h g =
    All-append AreFit (map (λ row. tuple ++ row ∷ []) rows) (with_each tuples rows) (ends-fit tuple rows (All-head AreFit tuple tuples h) g)
    (each-fit tuples rows (All-tail AreFit tuple tuples h) g)

product-from : (tuples : List Tuple) (contents : List (List (List ℤ))) → Tuples tuples → AllByRecursion AreFit contents → Tuples (fold with_each tuples contents)
product-from tuples [] h g = h
product-from tuples (c ∷ contents) h g = product-from (with_each tuples c) contents (each-fit tuples c h g.0) g.1

product-fit : (contents : List (List (List ℤ))) → AllByRecursion AreFit contents → Tuples (product_of contents)
product-fit contents g = product-from ([] ∷ []) contents (All-cons AreFit [] [] (All-nil Fit) (All-nil AreFit)) g

where-fit : (scope : List Named) (o : Option Scalar) (tuples : List Tuple) → Tuples tuples → Tuples (where_true scope o tuples)
where-fit scope None tuples h = h
where-fit scope (Some e) tuples h = All-filter (λ tuple. is_true (eval scope e tuple)) AreFit tuples h

-- EXPRESSIONS

Maybe : Option ℤ → Type 0
Maybe None = Unit {0}
Maybe (Some z) = IsValue z

zero-fits : (o : Option ℤ) → Maybe o → IsValue (or_zero o)
unfolding Maybe
zero-fits None h = nought
zero-fits (Some z) h = h

either-fits : (o d : Option ℤ) → Maybe o → Maybe d → Maybe (or_else o d)
unfolding Maybe
either-fits None d h g = g
either-fits (Some z) d h g = h

field_in-fits : (f : Name) (fields : List Name) (row : List ℤ) → Fit row → Maybe (field_in f fields row)
unfolding Maybe
field_in-fits f [] row h = tt
field_in-fits f (g ∷ gs) [] h = tt
field_in-fits f (g ∷ gs) (z ∷ zs) h = go (name_eq g f) (All-head IsValue z zs h) (field_in-fits f gs zs (All-tail IsValue z zs h)) where
  go : (b : Bool) → IsValue z → Maybe (field_in f gs zs) → Maybe (cond b (Some z) (field_in f gs zs))
  go true v m = v
  go false v m = m

field-fits : (f : Name) (scope : List Named) (tuple : Tuple) → AreFit tuple → Maybe (field_value f scope tuple)
unfolding Maybe
field-fits f [] tuple h = tt
field-fits f (i ∷ is) [] h = tt
field-fits f (i ∷ is) (row ∷ rows) h =
    either-fits (field_in f i.fields row) (field_value f is rows) (field_in-fits f i.fields row (All-head Fit row rows h))
    (field-fits f is rows (All-tail Fit row rows h))

item-fits : (a f : Name) (scope : List Named) (tuple : Tuple) → AreFit tuple → Maybe (item_value a f scope tuple)
unfolding Maybe
item-fits a f [] tuple h = tt
item-fits a f (i ∷ is) [] h = tt
item-fits a f (i ∷ is) (row ∷ rows) h =
    go (name_eq i.name a) (field_in-fits f i.fields row (All-head Fit row rows h)) (item-fits a f is rows (All-tail Fit row rows h)) where
      go : (b : Bool) → Maybe (field_in f i.fields row) → Maybe (item_value a f is rows) → Maybe (cond b (field_in f i.fields row) (item_value a f is rows))
      go true m n = m
      go false m n = n

eval-fits : (scope : List Named) (e : Scalar) (tuple : Tuple) → HasNumbers e → AreFit tuple → IsValue (eval scope e tuple)
eval-fits scope (Number n) tuple h g = h
eval-fits scope (Field f) tuple h g = zero-fits (field_value f scope tuple) (field-fits f scope tuple g)
eval-fits scope (ItemField a f) tuple h g = zero-fits (item_value a f scope tuple) (item-fits a f scope tuple g)
eval-fits scope (Neg e) tuple h g = SFits-int_wrap w64 _
eval-fits scope (Not e) tuple h g = truth-fits _
eval-fits scope (Bin o l r) tuple h g =
    applied-fits (oper_of o) (eval scope l tuple) (eval scope r tuple) (eval-fits scope l tuple h.0 g) (eval-fits scope r tuple h.1 g)

-- QUERIES

whole-fit : (tuple : Tuple) → AreFit tuple → Fit (all_values tuple)
whole-fit [] h = All-nil IsValue
whole-fit (row ∷ rows) h = All-append IsValue row (all_values rows) (All-head Fit row rows h) (whole-fit rows (All-tail Fit row rows h))

columns-fit : (scope : List Named) (cs : List Column) (tuple : Tuple) → AllByRecursion (λ c. HasNumbers c.value) cs → AreFit tuple
    → Fit (map (λ c. eval scope c.value tuple) cs)
columns-fit scope [] tuple h g = All-nil IsValue
columns-fit scope (c ∷ cs) tuple h g =
    All-cons IsValue (eval scope c.value tuple) (map (λ d. eval scope d.value tuple) cs) (eval-fits scope c.value tuple h.0 g) (columns-fit scope cs tuple h.1 g)

row-fits : (scope : List Named) (cs : Columns) (tuple : Tuple) → ColumnsHaveNumbers cs → AreFit tuple → Fit (selected_row scope cs tuple)
row-fits scope Star tuple h g = whole-fit tuple g
row-fits scope (Chosen cs) tuple h g = columns-fit scope cs tuple h g

rows-fit : (scope : List Named) (cs : Columns) (tuples : List Tuple) → ColumnsHaveNumbers cs → Tuples tuples → AreFit (map (selected_row scope cs) tuples)
rows-fit scope cs [] h g = All-nil Fit
rows-fit scope cs (tuple ∷ tuples) h g =
    All-cons Fit (selected_row scope cs tuple) (map (selected_row scope cs) tuples) (row-fits scope cs tuple h (All-head AreFit tuple tuples g))
    (rows-fit scope cs tuples h (All-tail AreFit tuple tuples g))

-- all streams that are known
Known : List KnownStream → Type 0
Known ks = AllByRecursion (λ k. Streams k.rows) ks

named-fit : (ks : List KnownStream) (n : Name) → Known ks → Streams (rows_named ks n)
unfolding Known
named-fit [] n h t = All-nil Fit
named-fit (k ∷ ks) n h t = go (name_eq k.named.name n) (h.0 t) (named-fit ks n h.1 t) where
  go : (b : Bool) → AreFit (k.rows t) → AreFit (rows_named ks n t) → AreFit (cond b (k.rows t) (rows_named ks n t))
  go true x y = x
  go false x y = y

windows-fit : (ts : List ℤ) (ks : List KnownStream) (items : List Source) (t : ℤ) → Known ks → AllByRecursion AreFit (windows_at ts ks items t)
windows-fit ts ks [] t h = tt
windows-fit ts ks (i ∷ is) t h = (
  kept-fit i.window (flat_map (rows_named ks i.stream) (filter (in_reach i.window t) ts))
      (joined-fit (rows_named ks i.stream) (filter (in_reach i.window t) ts) (named-fit ks i.stream h)),
  windows-fit ts ks is t h,
)

content-fit : (ts : List ℤ) (ks : List KnownStream) (q : Query) → ColumnsHaveNumbers q.columns → Known ks → Streams (content ts ks q)
content-fit ts ks q n h t =
    let scope = scope_of (named_of ks) q.items in
    rows-fit scope q.columns (where_true scope q.condition (product_of (windows_at ts ks q.items t))) n
    (where-fit scope q.condition (product_of (windows_at ts ks q.items t)) (product-fit (windows_at ts ks q.items t) (windows-fit ts ks q.items t h)))

last-fit : (r : Timed) (o : Option ℤ) → Streams r → AreFit (at_last r o)
last-fit r None h = All-nil Fit
last-fit r (Some u) h = h u

changed-fit : (k : Kind) (old new : List (List ℤ)) → AreFit old → AreFit new → AreFit (changed k old new)
changed-fit Istream old new h g = all-without Fit new old g
changed-fit Dstream old new h g = all-without Fit old new h
changed-fit Rstream old new h g = g

answer-fit : (ts : List ℤ) (ks : List KnownStream) (q : Query) → ColumnsHaveNumbers q.columns → Known ks → Streams (answer ts ks q)
answer-fit ts ks q n h t =
    let c = content-fit ts ks q n h in
    let old = content_before ts (content ts ks q) t in
    all-in_order Fit (changed q.kind old (content ts ks q t))
    (changed-fit q.kind old (content ts ks q t) (last-fit (content ts ks q) (last_instant (filter (λ u. int_lt u t) ts)) c) (c t))

file-fit : (file : File) → IsOfValues file → Streams (at_instant file)
file-fit [] h t = All-nil Fit
file-fit (e ∷ es) h t = go (int_eq e.0 t) (All-head (λ (d : ℤ × List ℤ). All IsValue (d.0 ∷ d.1)) e es h)
    (file-fit es (All-tail (λ (d : ℤ × List ℤ). All IsValue (d.0 ∷ d.1)) e es h) t) where
      go : (b : Bool) → All IsValue (e.0 ∷ e.1) → AreFit (at_instant es t)
          → AreFit (map (λ (d : ℤ × List ℤ). d.1) (cond b (e ∷ filter (λ (d : ℤ × List ℤ). int_eq d.0 t) es) (filter (λ (d : ℤ × List ℤ). int_eq d.0 t) es)))
      go true v m = All-cons Fit e.1 (at_instant es t) (All-tail IsValue e.0 e.1 v) m
      go false v m = m

-- PROGRAMS

answers-fit : (ts : List ℤ) (ks : List KnownStream) (p : Program) (files : List File) → AreNumbers p → Known ks → AllByRecursion IsOfValues files
    → AllByRecursion Streams (answers ts ks p files)
unfolding Known
answers-fit ts ks [] files n h v = tt
answers-fit ts ks (Register name fields ∷ ps) [] n h v = answers-fit ts (stream_known name fields [] ∷ ks) ps [] n ((λ t. All-nil Fit), h) tt
answers-fit ts ks (Register name fields ∷ ps) (f ∷ files) n h v = answers-fit ts (stream_known name fields (f ∷ files) ∷ ks) ps files n (file-fit f v.0, h) v.1
answers-fit ts ks (AQuery q ∷ ps) files n h v =
    (answer-fit ts ks q n.0 h, answers-fit ts (query_known ts ks q ∷ ks) ps files n.1 (answer-fit ts ks q n.0 h, h) v)

-- the instants are values
times-fit : (file : File) → IsOfValues file → (u : ℤ) → Contains (map (λ (e : ℤ × List ℤ). e.0) file) u → IsValue u
times-fit [] h u m = none_there u m
times-fit (e ∷ es) h u m =
    let E = λ (d : ℤ × List ℤ). All IsValue (d.0 ∷ d.1) in
    first_or_more e.0 (map (λ (d : ℤ × List ℤ). d.0) es) u (λ s. subst IsValue s (All-head IsValue e.0 e.1 (All-head E e es h)))
    (λ k. times-fit es (All-tail E e es h) u k) m

stamps-fit : (files : List File) → AllByRecursion IsOfValues files → (u : ℤ) → Contains (stamps files) u → IsValue u
stamps-fit [] h u m = none_there u m
stamps-fit (f ∷ files) h u m =
    ⊎_elim (λ a. times-fit f h.0 u a) (λ a. stamps-fit files h.1 u a) (Contains-append_cases (map (λ (e : ℤ × List ℤ). e.0) f) (stamps files) u m)

stamped-fit : (t : ℤ) (rows : List (List ℤ)) → IsValue t → AreFit rows → AllByRecursion (λ row. All IsValue row) (map (λ row. t ∷ row) rows)
stamped-fit t [] v h = tt
stamped-fit t (row ∷ rows) v h = (All-cons IsValue t row v (All-head Fit row rows h), stamped-fit t rows v (All-tail Fit row rows h))

items-fit : (ts : List ℤ) (s : Timed) → AllByRecursion IsValue ts → Streams s → AreValues (spread ts s)
items-fit [] s v h = tt
items-fit (t ∷ ts) s v h = (stamped-fit t (in_order (s t)) v.0 (all-in_order Fit (s t) (h t)), items-fit ts s v.1 h)

all-items : (ts : List ℤ) (ss : List Timed) → AllByRecursion IsValue ts → AllByRecursion Streams ss → AllByRecursion AreValues (map (spread ts) ss)
all-items ts [] v h = tt
all-items ts (s ∷ ss) v h = (items-fit ts s v h.0, all-items ts ss v h.1)

-- the law
pub means_values : MeansValues
unfolding Known
means_values p files n v =
    all-items (instants files) (answers (instants files) [] p files) (each_contained IsValue (instants files) (λ u m. stamps-fit files v u (has_once (stamps files) u m)))
    (answers-fit (instants files) [] p files n tt v)
