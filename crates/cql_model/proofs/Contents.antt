-- The relation of a query: products of contents in order are the product in order, and so on.
use Rattle.std.proofs.Common.{◌≡◌, ℕ, ℤ, Bool, true, false, cond, Option, Some, None, List, [], ◌∷◌, ◌++◌, sym, ap, ◌∙◌, subst, length, map, filter, fold}
use Rattle.std.proofs.Common.{append_assoc}
use Rattle.std.specs.Prelude.{All, sum_by}
use Rattle.std.proofs.lemmas.List.{append-nil}
use Rattle.std.proofs.lemmas.List.Concat.{flat_map-append}
use Rattle.std.proofs.lemmas.List.Elements.{All-head, All-tail, All-cons, All-nil, All-append}
use Rattle.kern_changes.proofs.Leading.{sum-map, sum-filter, sum-flat_map}
use Rattle.river_base.specs.Held.{HaveWidth}
use Rattle.river_base.specs.Row.{in_order}
use Rattle.work_code.specs.Value.{val, is_true}
use Rattle.kern_bags.specs.Contents.{selected, projected, product}
use Rattle.kern_changes.proofs.Copies.{sum-cong}
use Rattle.cql_text.specs.Tree.{Scalar, Column, Chosen}
use Rattle.cql_model.specs.Scopes.{Named}
use Rattle.cql_model.specs.Meaning.{Tuple, eval, with_each, product_of, where_true, all_values, selected_row}
use Rattle.cql_model.specs.Plan.{resolved, terms_of}
use Rattle.cql_model.proofs.Bags.{sum-on, same_bag, filter-in_order, in_order-map, pairs, sum-pairs, product_is}
use Rattle.cql_model.proofs.Values.{Fits, resolved_is, columns_are}

-- the rows of tuples
abbrev pub rows : List Tuple → List (List ℤ)
rows tuples = map all_values tuples

-- PRODUCTS

joined_more : (tuple : Tuple) (row : List ℤ) → all_values (tuple ++ row ∷ []) ≡ all_values tuple ++ row
joined_more tuple row = flat_map-append (λ r. r) tuple (row ∷ []) ∙ ap (λ l. all_values tuple ++ l) (append-nil row)

sum-with : (f : List ℤ → ℕ) (tuples : List Tuple) (ys : List (List ℤ)) → sum_by f (rows (with_each tuples ys)) ≡ sum_by f (pairs (rows tuples) ys)
sum-with f tuples ys =
    sum-map f all_values (with_each tuples ys)
    ∙ sum-flat_map (λ t. f (all_values t)) (λ tuple. map (λ row. tuple ++ row ∷ []) ys) tuples
    ∙ sum-cong (λ tuple. sum_by (λ t. f (all_values t)) (map (λ row. tuple ++ row ∷ []) ys)) (λ tuple. sum_by (λ y. f (all_values tuple ++ y)) ys) tuples
    (λ tuple.
    sum-map (λ t. f (all_values t)) (λ row. tuple ++ row ∷ []) ys
    ∙ sum-cong (λ row. f (all_values (tuple ++ row ∷ []))) (λ y. f (all_values tuple ++ y)) ys (λ row. ap f (joined_more tuple row)))
    ∙ sym (sum-pairs f (rows tuples) ys ∙ sum-map (λ x. sum_by (λ y. f (x ++ y)) ys) all_values tuples)

-- a product more
pub product_more : (tuples : List Tuple) (ys : List (List ℤ)) → product (in_order (rows tuples)) (in_order ys) ≡ in_order (rows (with_each tuples ys))
product_more tuples ys = product_is (rows tuples) ys ∙ same_bag (pairs (rows tuples) ys) (rows (with_each tuples ys)) (λ f. sym (sum-with f tuples ys))

-- one item alone
pub one_item : (ys : List (List ℤ)) → in_order ys ≡ in_order (rows (product_of (ys ∷ [])))
one_item ys =
    same_bag ys (rows (with_each ([] ∷ []) ys)) (λ f. sym (sum-with f ([] ∷ []) ys ∙ ap (sum_by f) (append-nil (map (λ y. y) ys)) ∙ sum-map f (λ y. y) ys))

-- TUPLES FIT THEIR ITEMS

fits_more : (scope : List Named) (tuple : Tuple) (i : Named) (row : List ℤ) → Fits scope tuple → length row ≡ length i.fields
    → Fits (scope ++ i ∷ []) (tuple ++ row ∷ [])
fits_more [] [] i row h e = (e, tt)
fits_more [] (r ∷ rs) i row h e = absurd h
fits_more (s ∷ ss) [] i row h e = absurd h
fits_more (s ∷ ss) (r ∷ rs) i row h e = (h.0, fits_more ss rs i row h.1 e)

each_more : (scope : List Named) (tuple : Tuple) (i : Named) (ys : List (List ℤ)) → Fits scope tuple → HaveWidth (length i.fields) ys
    → All (Fits (scope ++ i ∷ [])) (map (λ row. tuple ++ row ∷ []) ys)
each_more scope tuple i [] h w = All-nil (Fits (scope ++ i ∷ []))
each_more scope tuple i (y ∷ ys) h w =
    All-cons (Fits (scope ++ i ∷ [])) (tuple ++ y ∷ []) (map (λ row. tuple ++ row ∷ []) ys)
    (fits_more scope tuple i y h (All-head (λ row. length row ≡ length i.fields) y ys w))
    (each_more scope tuple i ys h (All-tail (λ row. length row ≡ length i.fields) y ys w))

all_more : (scope : List Named) (tuples : List Tuple) (i : Named) (ys : List (List ℤ)) → All (Fits scope) tuples → HaveWidth (length i.fields) ys
    → All (Fits (scope ++ i ∷ [])) (with_each tuples ys)
all_more scope [] i ys h w = All-nil (Fits (scope ++ i ∷ []))
all_more scope (t ∷ ts) i ys h w =
    All-append (Fits (scope ++ i ∷ [])) (map (λ row. t ++ row ∷ []) ys) (with_each ts ys)
    (each_more scope t i ys (All-head (Fits scope) t ts h) w) (all_more scope ts i ys (All-tail (Fits scope) t ts h) w)

-- contents of these widths
abbrev pub AreWide : List Named → List (List (List ℤ)) → Type 0
AreWide [] [] = Unit {0}
AreWide [] (ys ∷ yss) = ⊥
AreWide (i ∷ is) [] = ⊥
AreWide (i ∷ is) (ys ∷ yss) = HaveWidth (length i.fields) ys × AreWide is yss

fits_from : (front scope : List Named) (tuples : List Tuple) (yss : List (List (List ℤ))) → All (Fits front) tuples → AreWide scope yss
    → All (Fits (front ++ scope)) (fold with_each tuples yss)
fits_from front [] tuples [] h w = subst (λ (l : List Named). All (Fits l) tuples) (sym (append-nil front)) h
fits_from front [] tuples (ys ∷ yss) h w = absurd w
fits_from front (i ∷ is) tuples [] h w = absurd w
fits_from front (i ∷ is) tuples (ys ∷ yss) h w =
    subst (λ (l : List Named). All (Fits l) (fold with_each (with_each tuples ys) yss)) (append_assoc front (i ∷ []) is)
    (fits_from (front ++ i ∷ []) is (with_each tuples ys) yss (all_more front tuples i ys h w.0) w.1)

-- the tuples of a product fit the items whose rows it is of
pub product_fits : (scope : List Named) (yss : List (List (List ℤ))) → AreWide scope yss → All (Fits scope) (product_of yss)
product_fits scope yss w = fits_from [] scope ([] ∷ []) yss (All-cons (Fits []) [] [] tt (All-nil (Fits []))) w

-- CONDITION AND COLUMNS

select_sum : (scope : List Named) (e : Scalar) (f : List ℤ → ℕ) (tuple : Tuple) → Fits scope tuple
    → cond (is_true (val (resolved scope e) (all_values tuple) [])) (f (all_values tuple)) 0 ≡ cond (is_true (eval scope e tuple)) (f (all_values tuple)) 0
select_sum scope e f tuple h = ap (λ z. cond (is_true z) (f (all_values tuple)) 0) (resolved_is scope e tuple h)

-- selecting rows is selecting the tuples for which the condition holds
pub select_is : (scope : List Named) (e : Scalar) (tuples : List Tuple) → All (Fits scope) tuples
    → selected (resolved scope e) (in_order (rows tuples)) ≡ in_order (rows (where_true scope (Some e) tuples))
select_is scope e tuples h =
    let p = λ (row : List ℤ). is_true (val (resolved scope e) row []) in
    let q = λ (tuple : Tuple). is_true (eval scope e tuple) in
    filter-in_order p (rows tuples)
    ∙ same_bag (filter p (rows tuples)) (rows (filter q tuples)) (λ f.
    sum-filter f p (rows tuples)
    ∙ sum-map (λ x. cond (p x) (f x) 0) all_values tuples
    ∙ sum-on (Fits scope) (λ t. cond (p (all_values t)) (f (all_values t)) 0) (λ t. cond (q t) (f (all_values t)) 0) tuples h (λ t k. select_sum scope e f t k)
    ∙ sym (sum-map f all_values (filter q tuples) ∙ sum-filter (λ t. f (all_values t)) q tuples))

all-filter : {A : Type 0} (P : A → Type 0) (p : A → Bool) (xs : List A) → All P xs → All P (filter p xs)
all-filter P p [] h = All-nil P
all-filter P p (x ∷ xs) h = step (p x) (all-filter P p xs (All-tail P x xs h)) where
  step : (b : Bool) → All P (filter p xs) → All P (cond b (x ∷ filter p xs) (filter p xs))
  step true more = All-cons P x (filter p xs) (All-head P x xs h) more
  step false more = more

-- the tuples that a condition lets pass fit their items
pub where_fits : (scope : List Named) (o : Option Scalar) (tuples : List Tuple) → All (Fits scope) tuples → All (Fits scope) (where_true scope o tuples)
where_fits scope None tuples h = h
where_fits scope (Some e) tuples h = all-filter (Fits scope) (λ tuple. is_true (eval scope e tuple)) tuples h

-- projecting rows is taking the columns of the tuples
pub project_is : (scope : List Named) (cs : List Column) (tuples : List Tuple) → All (Fits scope) tuples
    → projected (terms_of scope cs) (in_order (rows tuples)) ≡ in_order (map (selected_row scope (Chosen cs)) tuples)
project_is scope cs tuples h =
    let g = λ (row : List ℤ). map (λ t. val t row []) (terms_of scope cs) in
    in_order-map g (rows tuples)
    ∙ same_bag (map g (rows tuples)) (map (selected_row scope (Chosen cs)) tuples) (λ f.
    sum-map f g (rows tuples)
    ∙ sum-map (λ x. f (g x)) all_values tuples
    ∙ sum-on (Fits scope) (λ t. f (g (all_values t))) (λ t. f (selected_row scope (Chosen cs) t)) tuples h (λ t k. ap f (columns_are scope cs t k))
    ∙ sym (sum-map f (selected_row scope (Chosen cs)) tuples))
