-- Values by names, and by places in the joined row.
use Rattle.std.proofs.Common.{◌≡◌, ℕ, ℤ, pos, ◌+◌, Bool, true, false, Option, Some, None, List, [], ◌∷◌, ◌++◌, refl, sym, ap, ◌∙◌, arith, length}
use Rattle.std.specs.Prelude.{map, slice_index_or, if◌then◌else◌}
use Rattle.std.specs.Ordering.{int_eq}
use Rattle.std.proofs.lemmas.List.{get_or-append-add}
use Rattle.river_base.specs.Name.{name_eq}
use Rattle.river_base.specs.Number.{negate}
use Rattle.work_code.specs.Value.{val, truth, applied}
use Rattle.river_plan.specs.Forms.{Name}
use Rattle.cql_text.specs.Tree.{Scalar, Number, Field, ItemField, Neg, Not, Bin, Column}
use Rattle.cql_model.specs.KernelWords.{oper_of}
use Rattle.cql_model.specs.Scopes.{Named}
use Rattle.cql_model.specs.Meaning.{Tuple, field_in, or_else, field_value, item_value, or_zero, eval, all_values}
use Rattle.cql_model.specs.Plan.{plus, or_place, place_among, field_place, item_place, at_place, resolved, terms_of}

-- a tuple has a row for each item, as wide as the item's fields
abbrev pub Fits : List Named → Tuple → Type 0
Fits [] [] = Unit {0}
Fits [] (row ∷ rows) = ⊥
Fits (i ∷ is) [] = ⊥
Fits (i ∷ is) (row ∷ rows) = (length row ≡ length i.fields) × Fits is rows

-- what stands at a place, where there is one
abbrev at : Option ℕ → List ℤ → Option ℤ
at None row = None
at (Some k) row = Some (slice_index_or row k (pos 0))

at_plus : (row rest : List ℤ) (n : ℕ) (o : Option ℕ) → length row ≡ n → at (plus n o) (row ++ rest) ≡ at o rest
at_plus row rest n None e = refl
at_plus row rest n (Some k) e = ap Some (ap (λ m. slice_index_or (row ++ rest) (m + k) (pos 0)) (sym e) ∙ get_or-append-add row rest k (pos 0))

place_is : (f : Name) (fields : List Name) (row rest : List ℤ) → length row ≡ length fields → at (place_among f fields) (row ++ rest) ≡ field_in f fields row
place_is f [] row rest e = refl
place_is f (g ∷ gs) [] rest e = absurd (omega (arith, e))
place_is f (g ∷ gs) (z ∷ zs) rest e =
    step (name_eq g f) (at_plus (z ∷ []) (zs ++ rest) 1 (place_among f gs) refl ∙ place_is f gs zs rest (omega (arith, e))) where
      step : (b : Bool) → at (plus 1 (place_among f gs)) (z ∷ (zs ++ rest)) ≡ field_in f gs zs
          → at (if b then Some 0 else plus 1 (place_among f gs)) (z ∷ (zs ++ rest)) ≡ (if b then Some z else field_in f gs zs)
      step true h = refl
      step false h = h

at_or : (o p : Option ℕ) (row : List ℤ) → at (or_place o p) row ≡ or_else (at o row) (at p row)
at_or None p row = refl
at_or (Some k) p row = refl

field_is : (f : Name) (scope : List Named) (tuple : Tuple) → Fits scope tuple → at (field_place f scope) (all_values tuple) ≡ field_value f scope tuple
field_is f [] tuple h = refl
field_is f (i ∷ is) [] h = absurd h
field_is f (i ∷ is) (row ∷ rows) h =
    at_or (place_among f i.fields) (plus (length i.fields) (field_place f is)) (row ++ all_values rows)
    ∙ ap (λ o. or_else o (at (plus (length i.fields) (field_place f is)) (row ++ all_values rows))) (place_is f i.fields row (all_values rows) h.0)
    ∙ ap (or_else (field_in f i.fields row)) (at_plus row (all_values rows) (length i.fields) (field_place f is) h.0 ∙ field_is f is rows h.1)

item_is : (a f : Name) (scope : List Named) (tuple : Tuple) → Fits scope tuple → at (item_place a f scope) (all_values tuple) ≡ item_value a f scope tuple
item_is a f [] tuple h = refl
item_is a f (i ∷ is) [] h = absurd h
item_is a f (i ∷ is) (row ∷ rows) h =
    step (name_eq i.name a) (place_is f i.fields row (all_values rows) h.0)
    (at_plus row (all_values rows) (length i.fields) (item_place a f is) h.0 ∙ item_is a f is rows h.1) where
      step : (b : Bool) → at (place_among f i.fields) (row ++ all_values rows) ≡ field_in f i.fields row
          → at (plus (length i.fields) (item_place a f is)) (row ++ all_values rows) ≡ item_value a f is rows
          → at (if b then place_among f i.fields else plus (length i.fields) (item_place a f is)) (row ++ all_values rows) ≡
          (if b then field_in f i.fields row else item_value a f is rows)
      step true p q = p
      step false p q = q

val_at : (o : Option ℕ) (row : List ℤ) → val (at_place o) row [] ≡ or_zero (at o row)
val_at None row = refl
val_at (Some k) row = refl

-- a value on the joined row is the value on the tuple
pub resolved_is : (scope : List Named) (e : Scalar) (tuple : Tuple) → Fits scope tuple → val (resolved scope e) (all_values tuple) [] ≡ eval scope e tuple
resolved_is scope (Number z) tuple h = refl
resolved_is scope (Field f) tuple h = val_at (field_place f scope) (all_values tuple) ∙ ap or_zero (field_is f scope tuple h)
resolved_is scope (ItemField a f) tuple h = val_at (item_place a f scope) (all_values tuple) ∙ ap or_zero (item_is a f scope tuple h)
resolved_is scope (Neg e) tuple h = ap negate (resolved_is scope e tuple h)
resolved_is scope (Not e) tuple h = ap (λ z. truth (int_eq z (pos 0))) (resolved_is scope e tuple h)
resolved_is scope (Bin o l r) tuple h =
    ap (λ z. applied (oper_of o) z (val (resolved scope r) (all_values tuple) [])) (resolved_is scope l tuple h)
    ∙ ap (applied (oper_of o) (eval scope l tuple)) (resolved_is scope r tuple h)

-- the columns on the joined row are the columns on the tuple
pub columns_are : (scope : List Named) (cs : List Column) (tuple : Tuple) → Fits scope tuple
    → map (λ t. val t (all_values tuple) []) (terms_of scope cs) ≡ map (λ (c : Column). eval scope c.value tuple) cs
columns_are scope [] tuple h = refl
columns_are scope (c ∷ cs) tuple h =
    ap (λ z. z ∷ map (λ t. val t (all_values tuple) []) (terms_of scope cs)) (resolved_is scope c.value tuple h)
    ∙ ap (λ l. eval scope c.value tuple ∷ l) (columns_are scope cs tuple h)
