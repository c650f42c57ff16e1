-- The relation of a query, one tuple after another.
use Rattle.std.proofs.Common.{◌≡◌, ℕ, ◌+◌, ◌<◌, ℤ, Bool, true, false, cond, Option, Some, None, List, [], ◌∷◌, ◌++◌, length, length-append, get_or, take, map}
use Rattle.std.proofs.Common.{refl, sym, ap, ◌∙◌, subst}
use Rattle.std.specs.Prelude.{All, IsTrue}
use Rattle.std.proofs.lemmas.List.{take_more, map-append, length-map, append-nil}
use Rattle.std.proofs.lemmas.List.Elements.{filter-append, All-cons, All-nil, All-head, All-tail}
use Rattle.river_kernels.specs.Formed.{is_width}
use Rattle.cql_text.specs.Tree.{Scalar, Column, Columns, Star, Chosen, Query}
use Rattle.cql_model.specs.Scopes.{Named, scope_of}
use Rattle.cql_model.specs.Meaning.{KnownStream, named_of, Tuple, eval, product_of, where_true, all_values, selected_row, windows_at, content}
use Rattle.cql_model.specs.Plan.{widths_of, columns_width}
use Rattle.cql_model.proofs.Values.{Fits}
use Rattle.cql_model.proofs.Widths.{AllWide, tuples_fit}
use Rattle.slow_cql.specs.declared.kept.Input.{Input}
use Rattle.slow_cql.specs.Kept.{input_scope, AreInputsOf}
use Rattle.slow_cql.specs.Contents.{condition_holds, product_at, content_over, IsNarrowTuple, AreNarrow}

-- ---- THE CONDITION

one_passes : (names : List Named) (o : Option Scalar) (x : Tuple) (b : Bool) → condition_holds names o x ≡ b → where_true names o (x ∷ []) ≡ cond b (x ∷ []) []
one_passes names None x b h = ap (λ c. cond c (x ∷ []) []) h
one_passes names (Some e) x b h = ap (λ c. cond c (x ∷ []) []) h

where_true-append : (names : List Named) (o : Option Scalar) (xs ys : List Tuple)
    → where_true names o (xs ++ ys) ≡ where_true names o xs ++ where_true names o ys
where_true-append names None xs ys = refl
where_true-append names (Some e) xs ys = filter-append _ xs ys

where_more : (names : List Named) (o : Option Scalar) (cs : Columns) (xs : List Tuple) (n : ℕ) (x : Tuple) (b : Bool) → n < length xs → x ≡ get_or xs n x
    → condition_holds names o x ≡ b
    → map (selected_row names cs) (where_true names o (take (n + 1) xs)) ≡ map (selected_row names cs) (where_true names o (take n xs)) ++ map
    (selected_row names cs)
    (cond b (x ∷ []) [])
where_more names o cs xs n x b lt e h =
    ap (λ l. map (selected_row names cs) (where_true names o l)) (take_more xs n x lt ∙ ap (λ y. take n xs ++ y ∷ []) (sym e))
    ∙ ap (map (selected_row names cs))
    (where_true-append names o (take n xs) (x ∷ []) ∙ ap (λ l. where_true names o (take n xs) ++ l) (one_passes names o x b h))
    ∙ map-append (selected_row names cs) (where_true names o (take n xs)) (cond b (x ∷ []) [])

pub where_passed : (names : List Named) (o : Option Scalar) (cs : Columns) (xs : List Tuple) (n : ℕ) (x : Tuple) (old new : List (List ℤ)) → n < length xs
    → x ≡ get_or xs n x → condition_holds names o x ≡ true
    → old ≡ map (selected_row names cs) (where_true names o (take n xs)) → new ≡ old ++ selected_row names cs x ∷ []
    → new ≡ map (selected_row names cs) (where_true names o (take (n + 1) xs))
where_passed names o cs xs n x old new lt e h is pushed = pushed ∙ ap (λ l. l ++ selected_row names cs x ∷ []) is
    ∙ sym (where_more names o cs xs n x true lt e h)

pub where_stopped : (names : List Named) (o : Option Scalar) (cs : Columns) (xs : List Tuple) (n : ℕ) (x : Tuple) (old : List (List ℤ)) → n < length xs
    → x ≡ get_or xs n x → condition_holds names o x ≡ false
    → old ≡ map (selected_row names cs) (where_true names o (take n xs)) → old ≡ map (selected_row names cs) (where_true names o (take (n + 1) xs))
where_stopped names o cs xs n x old lt e h is = is ∙ sym (where_more names o cs xs n x false lt e h
    ∙ append-nil (map (selected_row names cs) (where_true names o (take n xs))))

-- ---- THE COLUMNS

joined_wide : (names : List Named) (tuple : Tuple) → Fits names tuple → length (all_values tuple) ≡ widths_of names
joined_wide [] [] h = refl
joined_wide [] (r ∷ rs) h = absurd h
joined_wide (i ∷ is) [] h = absurd h
joined_wide (i ∷ is) (r ∷ rs) h = length-append r (all_values rs) ∙ (λ j. h.0 j + joined_wide is rs h.1 j)

row_wide : (names : List Named) (cs : Columns) (tuple : Tuple) → Fits names tuple → length (selected_row names cs tuple) ≡ columns_width names cs
row_wide names Star tuple h = joined_wide names tuple h
row_wide names (Chosen cs) tuple h = length-map cs (λ (c : Column). eval names c.value tuple)

each : {A : Type 0} (P Q : A → Type 0) (xs : List A) → ((x : A) → P x → Q x) → All P xs → All Q xs
each P Q [] f h = All-nil Q
each P Q (x ∷ xs) f h = All-cons Q x xs (f x (All-head P x xs h)) (each P Q xs f (All-tail P x xs h))

-- the rows of a query have from 1 to 16 values
pub are_narrow : (ts : List ℤ) (ks : List KnownStream) (q : Query) → AllWide ks → IsTrue (is_width (columns_width (scope_of (named_of ks) q.items) q.columns))
    → AreNarrow ts ks q
are_narrow ts ks q wide h t =
    let names = scope_of (named_of ks) q.items in
    each (Fits names) (IsNarrowTuple names q.columns) (product_of (windows_at ts ks q.items t))
    (λ x k. subst (λ n. IsTrue (is_width n)) (sym (row_wide names q.columns x k)) h) (tuples_fit ts ks q.items t wide)

-- ---- THE WHOLE

-- the relation over the inputs is the relation of the query
pub contents_are : (ts : List ℤ) (ks : List KnownStream) (q : Query) (is : List Input) → AreInputsOf ts ks q.items is → content_over is q ≡ content ts ks q
contents_are ts ks q is a j t = map (selected_row (a.named j) q.columns) (where_true (a.named j) q.condition (product_of (a.contents t j)))

-- and so the rows over the inputs are narrow
pub narrow_over : (ts : List ℤ) (ks : List KnownStream) (q : Query) (is : List Input) → AreInputsOf ts ks q.items is → AreNarrow ts ks q → (t : ℤ)
    → All (IsNarrowTuple (input_scope is) q.columns) (product_at t is)
narrow_over ts ks q is a n t =
    subst (λ l. All (IsNarrowTuple (input_scope is) q.columns) (product_of l)) (sym (a.contents t))
    (subst (λ names. All (IsNarrowTuple names q.columns) (product_of (windows_at ts ks q.items t))) (sym a.named) (n t))
