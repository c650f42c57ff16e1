-- The first fault of a unit, spot by spot.
use Rattle.std.proofs.Common.{◌≡◌, ℕ, ◌+◌, Bool, true, false, Option, Some, None, List, [], ◌∷◌, ◌++◌, map, length, filter, refl, sym, ap, ◌∙◌, subst, arith}
use Rattle.std.proofs.Common.{cond, length-append}
use Rattle.std.specs.Prelude.{nat_lt, nat_eq, flat_map, fold, if◌then◌else◌}
use Rattle.std.proofs.lemmas.List.{length-map, map-append}
use Rattle.std.proofs.lemmas.Grind.{fold-append}
use Rattle.std.proofs.lemmas.Simd.{map-map}
use Rattle.river_base.specs.Name.{name_eq}
use Rattle.river_plan.specs.Forms.{Name}
use Rattle.river_plan.specs.Names.{count}
use Rattle.river_plan.proofs.NameLemmas.{count-append}
use Rattle.cql_model.specs.declared.fault.Fault.{Fault}
use Rattle.cql_model.specs.declared.fault.Fault.TheVariants.{UnknownStream, NameTwice, Limit}
use Rattle.cql_model.specs.Judged.{then_fault, fault_if, field_places, item_places, scalar_fault, is_rows_fault, item_fault, items_fault, chosen_fault, columns_fault}
use Rattle.cql_model.specs.Judged.{condition_fault, query_fault, fields_fault, stream_fault}
use Rattle.cql_model.specs.Laws.{known_names}
use Rattle.cql_model.specs.Places.{with_earlier, declares, known_by, Alone, OfItem, mentions}
use Rattle.cql_model.specs.Places.{Spot, StreamName, FieldName, QueryName, ItemStream, ItemWindow, ItemName}
use Rattle.cql_model.specs.Places.{ColumnStart, FieldUse, item_spots, value_spots, column_spots, columns_spots, condition_spots, spots}
use Rattle.cql_model.specs.Plannable.{declared_names}
use Rattle.cql_text.specs.Tree.{Scalar, Number, Field, ItemField, Neg, Not, Bin, Source, Column, Columns, Star, Chosen}
use Rattle.cql_model.specs.Program.{registered}
use Rattle.cql_text.specs.Tree.{Query, Register, AQuery, UnitForm, Program}
use Rattle.cql_model.specs.Faults.{called, meant}
use Rattle.cql_model.specs.Scopes.{Named, item_named, scope_of}
use Rattle.cql_model.specs.Plan.{widths_of}
use Rattle.cql_model.proofs.Earlier.{behind, behind-none, behind-nil, behind-cons}
use Rattle.cql_model.proofs.First.{first_of, finds_both}
use Rattle.cql_model.proofs.SpotFaults.{Silent, Says, Found, some_among, none_among, one_more, above, bad_rows, twice_or_many, stream_or_many, only_limit}
use Rattle.cql_model.proofs.SpotFaults.{only_twice, field_use}

-- ONE FAULT BEHIND ANOTHER

then_first : (a b : Option Fault) → first_of a b ≡ then_fault a b
then_first None b = refl
then_first (Some f) b = refl

then_more : (a b c : Option Fault) → first_of (then_fault a b) c ≡ then_fault a (then_fault b c)
then_more None b c = then_first b c
then_more (Some f) b c = refl

both : (before : Program) (xs ys : List Spot) (a b c : Option Fault) → first_of a b ≡ c → Found before xs a → Found before ys b → Found before (xs ++ ys) c
both before xs ys a b c e f g = subst (Found before (xs ++ ys)) e (finds_both (Silent before) (Says before) xs ys a b f g)

-- WHAT IS KNOWN

pub known-names : (n : Name) (ks : List Named) (ps : Program)
    → count n (known_names (fold (λ (known : List Named) (unit : UnitForm). declares known unit ∷ known) ks ps)) ≡ count n (known_names ks) + count n
    (declared_names ps)
known-names n ks [] = omega arith
known-names n ks (Register name fields ∷ ps) = let m = known-names n (record { name = name; fields = fields } ∷ ks) ps in omega (arith, m)
known-names n ks (AQuery q ∷ ps) = let m = known-names n (declares ks (AQuery q) ∷ ks) ps in omega (arith, m)

known_are : (n : Name) (before : Program) → count n (known_names (known_by before)) ≡ count n (declared_names before)
known_are n before = let m = known-names n [] before in omega (arith, m)

-- one unit more is known
pub known-more : (before : Program) (u : UnitForm) → known_by (before ++ u ∷ []) ≡ declares (known_by before) u ∷ known_by before
known-more before u = fold-append (λ (known : List Named) (unit : UnitForm). declares known unit ∷ known) [] before (u ∷ [])

-- a registered stream more
pub registered-more : (before : Program) (n : Name) (fs : List Name) → length (registered (before ++ Register n fs ∷ [])) ≡ length (registered before) + 1
registered-more [] n fs = omega arith
registered-more (Register m gs ∷ ps) n fs = let r = registered-more ps n fs in omega (arith, r)
registered-more (AQuery q ∷ ps) n fs = registered-more ps n fs

-- a query registers none
pub registered-same : (before : Program) (q : Query) → length (registered (before ++ AQuery q ∷ [])) ≡ length (registered before)
registered-same [] q = refl
registered-same (Register m gs ∷ ps) q = let r = registered-same ps q in omega (arith, r)
registered-same (AQuery o ∷ ps) q = registered-same ps q

-- FIELDS IN VALUES

places_are : (f : Name) (scope : List Named) → field_places f scope ≡ count f (meant scope (Alone f))
places_are f [] = refl
places_are f (i ∷ is) = let m = places_are f is in let c = count-append f i.fields (meant is (Alone f)) in omega (arith, m, c)

item_places_are : (a f : Name) (scope : List Named) → item_places a f scope ≡ count f (meant scope (OfItem a f))
item_places_are a f [] = refl
item_places_are a f (i ∷ is) = step (name_eq i.name a) (item_places_are a f is) where
  step : (b : Bool) → item_places a f is ≡ count f (meant is (OfItem a f))
      → (if b then count f i.fields else 0) + item_places a f is
      ≡ count f (flat_map (λ (j : Named). j.fields) (cond b (i ∷ filter (λ j. name_eq j.name a) is) (filter (λ j. name_eq j.name a) is)))
  step true m = let c = count-append f i.fields (meant is (OfItem a f)) in omega (arith, m, c)
  step false m = omega (arith, m)

value : (before : Program) (items : List Source) (e : Scalar) → Found before (value_spots items e) (scalar_fault (scope_of (known_by before) items) e)
value before items (Number n) = refl
value before items (Field f) =
    field_use before items (Alone f) (field_places f (scope_of (known_by before) items)) (places_are f (scope_of (known_by before) items))
value before items (ItemField a f) =
    field_use before items (OfItem a f) (item_places a f (scope_of (known_by before) items)) (item_places_are a f (scope_of (known_by before) items))
value before items (Neg e) = value before items e
value before items (Not e) = value before items e
value before items (Bin o l r) =
    let scope = scope_of (known_by before) items in
    subst (λ (s : List Spot). Found before s (then_fault (scalar_fault scope l) (scalar_fault scope r)))
    (sym (map-append (FieldUse items) (mentions l) (mentions r)))
    (both before (value_spots items l) (value_spots items r) (scalar_fault scope l) (scalar_fault scope r) _
    (then_first (scalar_fault scope l) (scalar_fault scope r))
    (value before items l) (value before items r))

-- ITEMS

names-called : (ks : List Named) (past : List Source) → known_names (scope_of ks past) ≡ map called past
names-called ks past = map-map (λ (k : Named). k.name) (item_named ks) past

regroup : (a b c d e : Option Fault) → first_of (then_fault a b) (first_of c (then_fault d e)) ≡ then_fault a (then_fault b (then_fault c (then_fault d e)))
regroup None None None d e = refl
regroup None None (Some f) d e = refl
regroup None (Some f) c d e = refl
regroup (Some f) b c d e = refl

scope-more : (ks : List Named) (past : List Source) (i : Source) → scope_of ks past ++ item_named ks i ∷ [] ≡ scope_of ks (past ++ i ∷ [])
scope-more ks past i = sym (map-append (item_named ks) past (i ∷ []))

item : (before : Program) (past : List Source) (i : Source)
    → Found before (item_spots (past, i)) (item_fault (known_by before) (scope_of (known_by before) past) i)
item before past i =
    let ks = known_by before in
    let scope = scope_of ks past in
    let named = item_named ks i in
    let a = fault_if (nat_eq (count i.stream (known_names ks)) 0) UnknownStream in
    let b = fault_if (nat_lt 3 (length scope)) Limit in
    let c = fault_if (is_rows_fault i.window) Limit in
    let d = fault_if (nat_lt 0 (count named.name (known_names scope))) NameTwice in
    let e = fault_if (nat_lt 16 (widths_of (scope ++ named ∷ []))) Limit in
    both before (ItemStream past i ∷ []) (ItemWindow i.window ∷ ItemName past i ∷ []) (then_fault a b) (first_of c (then_fault d e)) _ (regroup a b c d e)
    (stream_or_many before past i (nat_eq (count i.stream (known_names ks)) 0) (nat_lt 3 (length scope))
    (none_among (count i.stream (known_names ks)) (count i.stream (declared_names before)) (known_are i.stream before))
    (one_more 3 (length scope) (length past) (length-map past (item_named ks))))
    (both before (ItemWindow i.window ∷ []) (ItemName past i ∷ []) c (then_fault d e) _ refl
    (only_limit before (ItemWindow i.window) (is_rows_fault i.window) (λ h. h) (λ h. h) (λ h. h) (λ h. h) (bad_rows i.window))
    (twice_or_many before (ItemName past i) (nat_lt 0 (count named.name (known_names scope))) (nat_lt 16 (widths_of (scope ++ named ∷ [])))
    (λ h. h) (λ h. h) (λ h. h)
    (some_among (count named.name (known_names scope)) (count (called i) (map called past)) (ap (count (called i)) (names-called ks past)))
    (above 16 (widths_of (scope ++ named ∷ [])) (widths_of (scope_of ks (past ++ i ∷ []))) (ap widths_of (scope-more ks past i)))))

items : (before : Program) (past is : List Source)
    → Found before (flat_map item_spots (behind past is)) (items_fault (known_by before) (scope_of (known_by before) past) is)
items before past [] = subst (λ (l : List (List Source × Source)). Found before (flat_map item_spots l) None) (sym (behind-nil past)) refl
items before past (i ∷ is) =
    let ks = known_by before in
    let scope = scope_of ks past in
    let rest = items_fault ks (scope_of ks (past ++ i ∷ [])) is in
    subst (λ (l : List (List Source × Source)). Found before (flat_map item_spots l) (items_fault ks scope (i ∷ is))) (sym (behind-cons past i is))
    (both before (item_spots (past, i)) (flat_map item_spots (behind (past ++ i ∷ []) is)) (item_fault ks scope i) rest _
    (then_first (item_fault ks scope i) rest ∙ ap (λ (l : List Named). then_fault (item_fault ks scope i) (items_fault ks l is)) (sym (scope-more ks past i)))
    (item before past i) (items before (past ++ i ∷ []) is))

-- COLUMNS AND CONDITIONS

one_longer : {A : Type 0} (xs : List A) (x : A) → length xs + 1 ≡ length (xs ++ x ∷ [])
one_longer xs x = let e = length-append xs (x ∷ []) in omega (arith, e)

chosen : (before : Program) (its : List Source) (past cs : List Column)
    → Found before (flat_map (column_spots its) (behind past cs)) (chosen_fault (scope_of (known_by before) its) (length past) cs)
chosen before its past [] = subst (λ (l : List (List Column × Column)). Found before (flat_map (column_spots its) l) None) (sym (behind-nil past)) refl
chosen before its past (c ∷ cs) =
    let scope = scope_of (known_by before) its in
    let a = fault_if (nat_lt 15 (length past)) Limit in
    let b = scalar_fault scope c.value in
    let rest = chosen_fault scope (length (past ++ c ∷ [])) cs in
    subst (λ (l : List (List Column × Column)). Found before (flat_map (column_spots its) l) (chosen_fault scope (length past) (c ∷ cs)))
    (sym (behind-cons past c cs))
    (both before (column_spots its (past, c)) (flat_map (column_spots its) (behind (past ++ c ∷ []) cs)) (then_fault a b) rest _
    (then_more a b rest ∙ ap (λ (k : ℕ). then_fault a (then_fault b (chosen_fault scope k cs))) (sym (one_longer past c)))
    (both before (ColumnStart past ∷ []) (value_spots its c.value) a b _ (then_first a b)
    (only_limit before (ColumnStart past) (nat_lt 15 (length past)) (λ h. h) (λ h. h) (λ h. h) (λ h. h) (one_more 15 (length past) (length past) refl))
    (value before its c.value))
    (chosen before its (past ++ c ∷ []) cs))

columns : (before : Program) (its : List Source) (cs : Columns)
    → Found before (columns_spots its cs) (columns_fault (scope_of (known_by before) its) cs)
columns before its Star = refl
columns before its (Chosen cs) =
    subst (λ (l : List (List Column × Column)). Found before (flat_map (column_spots its) l) (chosen_fault (scope_of (known_by before) its) 0 cs))
    (behind-none cs) (chosen before its [] cs)

condition : (before : Program) (its : List Source) (o : Option Scalar)
    → Found before (condition_spots its o) (condition_fault (scope_of (known_by before) its) o)
condition before its None = refl
condition before its (Some e) = value before its e

-- UNITS

-- the places of a query have the fault that judging tells
pub query : (before : Program) (q : Query) → Found before (spots (AQuery q)) (query_fault (known_by before) q)
query before q =
    let ks = known_by before in
    let scope = scope_of ks q.items in
    let a = fault_if (nat_lt 0 (count q.name (known_names ks))) NameTwice in
    let b = items_fault ks [] q.items in
    let c = columns_fault scope q.columns in
    let d = condition_fault scope q.condition in
    let is = flat_map item_spots (with_earlier q.items) in
    let cs = columns_spots q.items q.columns in
    let ws = condition_spots q.items q.condition in
    both before (QueryName q.name ∷ []) (is ++ (cs ++ ws)) a (then_fault b (then_fault c d)) _ (then_first a (then_fault b (then_fault c d)))
    (only_twice before q.name (nat_lt 0 (count q.name (known_names ks)))
    (some_among (count q.name (known_names ks)) (count q.name (declared_names before)) (known_are q.name before)))
    (both before is (cs ++ ws) b (then_fault c d) _ (then_first b (then_fault c d))
    (subst (λ (l : List (List Source × Source)). Found before (flat_map item_spots l) b) (behind-none q.items) (items before [] q.items))
    (both before cs ws c d _ (then_first c d) (columns before q.items q.columns) (condition before q.items q.condition)))

abbrev field_spot : List Name × Name → Spot
field_spot e = FieldName e.0 e.1

fields : (before : Program) (past fs : List Name) → Found before (map field_spot (behind past fs)) (fields_fault past fs)
fields before past [] = subst (λ (l : List (List Name × Name)). Found before (map field_spot l) None) (sym (behind-nil past)) refl
fields before past (f ∷ fs) =
    let a = fault_if (nat_lt 0 (count f past)) NameTwice in
    let b = fault_if (nat_lt 15 (length past)) Limit in
    let rest = fields_fault (past ++ f ∷ []) fs in
    subst (λ (l : List (List Name × Name)). Found before (map field_spot l) (fields_fault past (f ∷ fs))) (sym (behind-cons past f fs))
    (both before (FieldName past f ∷ []) (map field_spot (behind (past ++ f ∷ []) fs)) (then_fault a b) rest _ (then_more a b rest)
    (twice_or_many before (FieldName past f) (nat_lt 0 (count f past)) (nat_lt 15 (length past)) (λ h. h) (λ h. h) (λ h. h)
    (some_among (count f past) (count f past) refl) (one_more 15 (length past) (length past) refl))
    (fields before (past ++ f ∷ []) fs))

-- and so have those of a stream
pub stream : (before : Program) (name : Name) (fs : List Name)
    → Found before (spots (Register name fs)) (stream_fault (known_by before) (length (registered before)) name fs)
stream before name fs =
    let ks = known_by before in
    let a = fault_if (nat_lt 0 (count name (known_names ks))) NameTwice in
    let b = fault_if (nat_lt 7 (length (registered before))) Limit in
    let c = fields_fault [] fs in
    both before (StreamName name ∷ []) (map field_spot (with_earlier fs)) (then_fault a b) c _ (then_more a b c)
    (twice_or_many before (StreamName name) (nat_lt 0 (count name (known_names ks))) (nat_lt 7 (length (registered before))) (λ h. h) (λ h. h) (λ h. h)
    (some_among (count name (known_names ks)) (count name (declared_names before)) (known_are name before))
    (one_more 7 (length (registered before)) (length (registered before)) refl))
    (subst (λ (l : List (List Name × Name)). Found before (map field_spot l) c) (behind-none fs) (fields before [] fs))
