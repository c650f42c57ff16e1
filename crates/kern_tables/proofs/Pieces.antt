-- Tables of rows that come in pieces.
use Rattle.std.proofs.Common.{◌≡◌, ℕ, zero, suc, ℤ, ◌+◌, ◌≤◌, List, [], ◌∷◌, ◌++◌, refl, sym, ap, ◌∙◌, subst, arith, map, length, append_assoc}
use Rattle.std.specs.Prelude.{flat_map}
use Rattle.std.specs.List.{AllByRecursion}
use Rattle.std.proofs.lemmas.List.{append-nil, length-append}
use Rattle.std.proofs.lemmas.List.Elements.{All-head, All-tail, All-cons, All-nil, All-append}
use Rattle.std.proofs.lemmas.List.Sorted.{All-permutation}
use Rattle.river_base.specs.Bags.{SameBag}
use Rattle.river_base.specs.Row.{in_order, HaveWidth}
use Rattle.river_base.proofs.Counts.{permutation_from_bag, bag_from_permutation}
use Rattle.river_base.proofs.Lists.{count_by-append}
use Rattle.river_base.proofs.Rows.{in_order_bag}
use Rattle.kern_tables.specs.declared.kind.TableKind.{TableKind}
use Rattle.kern_tables.specs.declared.kind.TableKind.TheVariants.{Sum, Collection, Maximum}
use Rattle.kern_tables.specs.declared.kept.Aggregate.TheVariants.{Sums, Maxima}
use Rattle.kern_tables.specs.declared.ranked.Ranked.{Ranked}
use Rattle.kern_tables.specs.Entries.{sum_rows, maximum_rows}
use Rattle.kern_tables.specs.Kept.{kept_of, added_all, rows_of}
use Rattle.kern_tables.specs.Pieces.{AreRowsFor, joined, printed, TablesAreRows, TwoTablesMerge, TablesMerge, AtOnce, InPieces, InOrder, MergesAreTables}
use Rattle.kern_tables.specs.Tables.{table_width, keys_of, tab, ranked_row}
use Rattle.kern_tables.proofs.Apart.{tables_stand_in_order}
use Rattle.kern_tables.proofs.Again.{AreLong, sums_at, sums_again, maxima_at, maxima_again}
use Rattle.kern_tables.proofs.Tabs.{sums, maxima, sums_keyed, maxima_keyed, kept_more, kept_rows, tables_are_of_bags}

-- rows are long enough to have the keys
long_rows : (keys more : ℕ) (rows : List (List ℤ)) → HaveWidth (keys + more) rows → AreLong keys rows
long_rows keys more [] h = All-nil (λ row. keys ≤ length row)
long_rows keys more (row ∷ rows) h =
    let e = All-head (λ row. length row ≡ keys + more) row rows h in
    All-cons (λ row. keys ≤ length row) row rows (omega (arith, e)) (long_rows keys more rows (All-tail (λ row. length row ≡ keys + more) row rows h))

-- A MAXIMUM THAT KEEPS NOTHING

none_of : (ks : List (List ℤ)) (l : List ℤ → List Ranked) → ((k : List ℤ) → l k ≡ []) → flat_map (λ key. map (ranked_row key) (l key)) ks ≡ []
none_of [] l h = refl
none_of (k ∷ ks) l h = λ i. map (ranked_row k) (h k i) ++ none_of ks l h i

none_kept : (keys : ℕ) (adds : List (List ℤ)) → tab (Maximum 0 keys) adds ≡ []
none_kept keys adds = none_of (keys_of keys adds) (λ key. []) (λ k. refl)

-- ONE TABLE, AND OTHER ROWS

kept_append : (kind : TableKind) (xs ys : List (List ℤ)) → kept_of kind (xs ++ ys) ≡ added_all (kept_of kind xs) ys
kept_append kind xs [] = ap (kept_of kind) (append-nil xs)
kept_append kind xs (y ∷ ys) =
    ap (kept_of kind) (sym (append_assoc xs (y ∷ []) ys)) ∙ kept_append kind (xs ++ y ∷ []) ys ∙ ap (λ t. added_all t ys) (kept_more kind xs y)

-- where a table keeps the same
same_kept : (kind : TableKind) (xs ys zs : List (List ℤ)) → kept_of kind xs ≡ kept_of kind ys → tab kind (xs ++ zs) ≡ tab kind (ys ++ zs)
same_kept kind xs ys zs h =
    sym (kept_rows kind (xs ++ zs)) ∙ ap rows_of (kept_append kind xs zs ∙ ap (λ t. added_all t zs) h ∙ sym (kept_append kind ys zs)) ∙ kept_rows kind (ys ++ zs)

-- a bag is the bag that is it
pub same_bag : (xs ys : List (List ℤ)) → SameBag xs ys → SameBag ys xs
same_bag xs ys h test = sym (h test)

ordered_bag : (xs : List (List ℤ)) → SameBag (in_order xs) xs
ordered_bag xs = same_bag xs (in_order xs) (bag_from_permutation xs (in_order xs) (in_order_bag xs))

bag_before : (xs ys zs : List (List ℤ)) → SameBag xs ys → SameBag (xs ++ zs) (ys ++ zs)
bag_before xs ys zs h test = let a = count_by-append test xs zs in let b = count_by-append test ys zs in let e = h test in omega (arith, a, b, e)

-- the rows of a table stand for what was added to it
table_first : (kind : TableKind) (xs zs : List (List ℤ)) → AreRowsFor kind xs → tab kind (tab kind xs ++ zs) ≡ tab kind (xs ++ zs)
table_first (Sum keys) xs zs h =
    same_kept (Sum keys) (tab (Sum keys) xs) xs zs
    (ap (Sums keys) (ap (sums keys) (sym (sums_keyed keys xs)) ∙ sums_again keys xs (long_rows keys 1 xs h)))
table_first (Collection keys) xs zs h = tables_are_of_bags (Collection keys) (in_order xs ++ zs) (xs ++ zs) (bag_before (in_order xs) xs zs (ordered_bag xs))
table_first (Maximum zero keys) xs zs h = none_kept keys (tab (Maximum 0 keys) xs ++ zs) ∙ sym (none_kept keys (xs ++ zs))
table_first (Maximum (suc n) keys) xs zs h =
    same_kept (Maximum (suc n) keys) (tab (Maximum (suc n) keys) xs) xs zs
    (ap (Maxima (suc n) keys) (ap (maxima (suc n) keys) (sym (maxima_keyed (suc n) keys xs)) ∙ maxima_again n keys xs (long_rows keys 2 xs h)))

-- TABLES ARE ROWS

sums_wide : (keys : ℕ) (es : List (List ℤ × ℤ)) → AllByRecursion (λ e. (length e.0 ≡ keys)) es → HaveWidth (keys + 1) (sum_rows es)
sums_wide keys [] a = All-nil (λ row. length row ≡ keys + 1)
sums_wide keys (e ∷ es) a =
    let l = length-append e.0 (e.1 ∷ []) in
    let k = a.0 in
    All-cons (λ row. length row ≡ keys + 1) (e.0 ++ e.1 ∷ []) (sum_rows es) (omega (arith, l, k)) (sums_wide keys es a.1)

ranked_wide : (keys : ℕ) (k : List ℤ) (l : List Ranked) → length k ≡ keys → HaveWidth (keys + 2) (map (ranked_row k) l)
ranked_wide keys k [] h = All-nil (λ row. length row ≡ keys + 2)
ranked_wide keys k (r ∷ rs) h =
    let l = length-append k (r.value ∷ r.weight ∷ []) in
    All-cons (λ row. length row ≡ keys + 2) (ranked_row k r) (map (ranked_row k) rs) (omega (arith, l, h)) (ranked_wide keys k rs h)

maxima_wide : (keys : ℕ) (es : List (List ℤ × List Ranked)) → AllByRecursion (λ e. (length e.0 ≡ keys)) es → HaveWidth (keys + 2) (maximum_rows es)
maxima_wide keys [] a = All-nil (λ row. length row ≡ keys + 2)
maxima_wide keys (e ∷ es) a =
    All-append (λ row. length row ≡ keys + 2) (map (ranked_row e.0) e.1) (maximum_rows es) (ranked_wide keys e.0 e.1 a.0) (maxima_wide keys es a.1)

each_of : {V : Type 0} (P Q : List ℤ → V → Type 0) (es : List (List ℤ × V)) → ((k : List ℤ) (v : V) → P k v → Q k v) → AllByRecursion (λ e. P e.0 e.1) es
    → AllByRecursion (λ e. Q e.0 e.1) es
each_of P Q [] f a = tt
each_of P Q (e ∷ es) f a = (f e.0 e.1 a.0, each_of P Q es f a.1)

-- what is printed of a table are rows for such a table
pub tables_are_rows : TablesAreRows
tables_are_rows (Sum keys) adds h =
    subst (HaveWidth (keys + 1)) (sums_keyed keys adds)
    (sums_wide keys (sums keys adds) (each_of _ (λ k v. length k ≡ keys) (sums keys adds) (λ k v p. p.0) (sums_at keys adds (long_rows keys 1 adds h))))
tables_are_rows (Collection keys) adds h = All-permutation (λ row. length row ≡ keys + 1) adds (in_order adds) (in_order_bag adds) h
tables_are_rows (Maximum zero keys) adds h = subst (HaveWidth (keys + 2)) (sym (none_kept keys adds)) (All-nil (λ row. length row ≡ keys + 2))
tables_are_rows (Maximum (suc n) keys) adds h =
    subst (HaveWidth (keys + 2)) (maxima_keyed (suc n) keys adds)
    (maxima_wide keys (maxima (suc n) keys adds)
    (each_of _ (λ k v. length k ≡ keys) (maxima (suc n) keys adds) (λ k v p. p.0) (maxima_at n keys adds (long_rows keys 2 adds h))))

-- PIECES

turned : (kind : TableKind) (xs ys : List (List ℤ)) → tab kind (xs ++ ys) ≡ tab kind (ys ++ xs)
turned kind xs ys =
    tables_are_of_bags kind (xs ++ ys) (ys ++ xs) (λ test. let a = count_by-append test xs ys in let b = count_by-append test ys xs in omega (arith, a, b))

-- where all rows have a width, the first have it, and the others
pub first_rows : (w : ℕ) (xs ys : List (List ℤ)) → HaveWidth w (xs ++ ys) → HaveWidth w xs × HaveWidth w ys
first_rows w [] ys h = (All-nil (λ row. length row ≡ w), h)
first_rows w (x ∷ xs) ys h =
    let P : List ℤ → Type 0 = λ row. length row ≡ w in
    let more = first_rows w xs ys (All-tail P x (xs ++ ys) h) in
    (All-cons P x xs (All-head P x (xs ++ ys) h) more.0, more.1)

pieces_first : (kind : TableKind) (pieces : List (List (List ℤ))) (zs : List (List ℤ)) → AreRowsFor kind (joined pieces)
    → tab kind (printed kind pieces ++ zs) ≡ tab kind (joined pieces ++ zs)
pieces_first kind [] zs h = refl
pieces_first kind (p ∷ ps) zs h =
    let both = first_rows (table_width kind) p (joined ps) h in
    ap (tab kind) (append_assoc (tab kind p) (printed kind ps) zs)
    ∙ table_first kind p (printed kind ps ++ zs) both.0
    ∙ turned kind p (printed kind ps ++ zs)
    ∙ ap (tab kind) (append_assoc (printed kind ps) zs p)
    ∙ pieces_first kind ps (zs ++ p) both.1
    ∙ ap (tab kind) (sym (append_assoc (joined ps) zs p))
    ∙ turned kind (joined ps ++ zs) p
    ∙ ap (tab kind) (sym (append_assoc p (joined ps) zs))

-- the table of what is printed of some tables is that of all their rows
pub tables_merge : TablesMerge
tables_merge kind pieces h =
    ap (tab kind) (sym (append-nil (printed kind pieces))) ∙ pieces_first kind pieces [] h ∙ ap (tab kind) (append-nil (joined pieces))

-- so is that of two
pub two_tables_merge : TwoTablesMerge
two_tables_merge kind xs ys h g =
    table_first kind xs (tab kind ys) h ∙ turned kind xs (tab kind ys) ∙ table_first kind ys xs g ∙ turned kind ys xs

-- LEVELS

-- what is printed of the tables of pieces are rows
pub all_printed : (kind : TableKind) (pieces : List (List (List ℤ))) → AreRowsFor kind (joined pieces) → AreRowsFor kind (printed kind pieces)
all_printed kind [] h = All-nil (λ row. length row ≡ table_width kind)
all_printed kind (p ∷ ps) h =
    let both = first_rows (table_width kind) p (joined ps) h in
    All-append (λ row. length row ≡ table_width kind) (tab kind p) (printed kind ps) (tables_are_rows kind p both.0) (all_printed kind ps both.1)

-- rows of one bag are alike wide
pub bag_rows : (kind : TableKind) (rows others : List (List ℤ)) → SameBag rows others → AreRowsFor kind rows → AreRowsFor kind others
bag_rows kind rows others bag h = All-permutation (λ row. length row ≡ table_width kind) rows others (permutation_from_bag rows others bag) h

-- however the rows are merged, in whichever levels, what comes is their table
pub merges_are_tables : MergesAreTables
merges_are_tables kind rows table h (AtOnce k r t e) = e
merges_are_tables kind rows table h (InPieces k r t pieces bag more) =
    let there = bag_rows kind rows (joined pieces) bag h in
    merges_are_tables kind (printed kind pieces) table (all_printed kind pieces there) more
    ∙ tables_merge kind pieces there
    ∙ tables_are_of_bags kind (joined pieces) rows (same_bag rows (joined pieces) bag)
merges_are_tables kind rows table h (InOrder k r t xs ys first second bag behind one two e) =
    let both = first_rows (table_width kind) xs ys (bag_rows kind rows (xs ++ ys) bag h) in
    let a = merges_are_tables kind xs first both.0 one in
    let b = merges_are_tables kind ys second both.1 two in
    e ∙ (λ i. a i ++ b i) ∙ sym (tables_stand_in_order kind xs ys behind)
    ∙ tables_are_of_bags kind (xs ++ ys) rows (same_bag rows (xs ++ ys) bag)
