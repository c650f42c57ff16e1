-- Tuples, gone over one after another.
use Rattle.std.proofs.Common.{◌≡◌, ℕ, zero, suc, ◌+◌, ◌<◌, ◌≤◌, ℤ, Bool, true, false, Option, Some, None, List, [], ◌∷◌, length, get_or, drop, map, refl, sym}
use Rattle.std.proofs.Common.{ap, ◌∙◌, arith}
use Rattle.std.specs.Prelude.{min, nat_le, if◌then◌else◌}
use Rattle.std.proofs.lemmas.List.{drop_all}
use Rattle.std.proofs.lemmas.Bool.Decides.{nat_tests}
use Rattle.river_base.proofs.Lists.{drop_next}
use Rattle.river_base.specs.Name.{name_eq}
use Rattle.river_plan.specs.Forms.{Name}
use Rattle.cql_model.specs.Scopes.{Named}
use Rattle.cql_model.specs.Meaning.{Tuple, field_in, or_else, field_value, item_value}

-- ---- ONE ROW: so far another field stood at each place

-- the value of a field is at this place, or behind it
pub value_in_at : (f : Name) (gs : List Name) (row : List ℤ) (i : ℕ) (g : Name) (z : ℤ) (b : Bool) → i < length gs → i < length row → g ≡ get_or gs i g
    → z ≡ get_or row i z → name_eq g f ≡ b
    → field_in f (drop i gs) (drop i row) ≡ (if b then Some z else field_in f (drop (i + 1) gs) (drop (i + 1) row))
value_in_at f gs row i g z b lg lr eg ez t =
    ap (λ l. field_in f l (drop i row)) (drop_next gs i g lg eg) ∙ ap (λ l. field_in f (g ∷ drop (i + 1) gs) l) (drop_next row i z lr ez)
    ∙ ap (λ c. if c then Some z else field_in f (drop (i + 1) gs) (drop (i + 1) row)) t

no_fields : (f : Name) (row : List ℤ) → field_in f [] row ≡ None
no_fields f row = refl

no_values : (f : Name) (gs : List Name) → field_in f gs [] ≡ None
no_values f [] = refl
no_values f (g ∷ gs) = refl

-- behind the last place there is none
pub value_in_end : (f : Name) (gs : List Name) (row : List ℤ) (i : ℕ) → min (length gs) (length row) ≤ i → field_in f (drop i gs) (drop i row) ≡ None
value_in_end f gs row i le = by (nat_le (length gs) i) refl where
  by : (b : Bool) → nat_le (length gs) i ≡ b → field_in f (drop i gs) (drop i row) ≡ None
  by true h = ap (λ l. field_in f l (drop i row)) (drop_all i gs (grind (arith, nat_tests, h)))
  by false h = ap (field_in f (drop i gs)) (drop_all i row (grind (arith, nat_tests, h, le))) ∙ no_values f (drop i gs)

-- ---- ALL ROWS

-- the value of a field is in this row, or behind it
pub field_value_at : (f : Name) (is : List Named) (rows : Tuple) (i : ℕ) (x : Named) (row : List ℤ) (o : Option ℤ) → i < length is → i < length rows
    → x ≡ get_or is i x → row ≡ get_or rows i row → o ≡ field_in f x.fields row
    → field_value f (drop i is) (drop i rows) ≡ or_else o (field_value f (drop (i + 1) is) (drop (i + 1) rows))
field_value_at f is rows i x row o li lr ei er e =
    ap (λ l. field_value f l (drop i rows)) (drop_next is i x li ei) ∙ ap (λ l. field_value f (x ∷ drop (i + 1) is) l) (drop_next rows i row lr er)
    ∙ ap (λ p. or_else p (field_value f (drop (i + 1) is) (drop (i + 1) rows))) (sym e)

or_found : (o p : Option ℤ) → (o ≡ None → ⊥) → o ≡ or_else o p
or_found None p h = absurd (h refl)
or_found (Some z) p h = refl

-- the input that has the field
pub field_value_here : (f : Name) (is : List Named) (rows : Tuple) (i : ℕ) (x : Named) (row : List ℤ) (o : Option ℤ) → i < length is → i < length rows
    → x ≡ get_or is i x → row ≡ get_or rows i row → o ≡ field_in f x.fields row
    → (o ≡ None → ⊥) → field_value f is rows ≡ field_value f (drop i is) (drop i rows) → o ≡ field_value f is rows
field_value_here f is rows i x row o li lr ei er e h so =
    or_found o (field_value f (drop (i + 1) is) (drop (i + 1) rows)) h ∙ sym (so ∙ field_value_at f is rows i x row o li lr ei er e)

no_rows : (f : Name) (is : List Named) → field_value f is [] ≡ None
no_rows f [] = refl
no_rows f (i ∷ is) = refl

-- behind the last row there is none
pub field_value_end : (f : Name) (is : List Named) (rows : Tuple) (i : ℕ) → min (length is) (length rows) ≤ i → field_value f (drop i is) (drop i rows) ≡ None
field_value_end f is rows i le = by (nat_le (length is) i) refl where
  by : (b : Bool) → nat_le (length is) i ≡ b → field_value f (drop i is) (drop i rows) ≡ None
  by true h = ap (λ l. field_value f l (drop i rows)) (drop_all i is (grind (arith, nat_tests, h)))
  by false h = ap (field_value f (drop i is)) (drop_all i rows (grind (arith, nat_tests, h, le))) ∙ no_rows f (drop i is)

-- the value of an item's field is in this row where it is called so, or behind it
pub item_value_at : (a f : Name) (is : List Named) (rows : Tuple) (i : ℕ) (x : Named) (row : List ℤ) (b : Bool) → i < length is → i < length rows
    → x ≡ get_or is i x → row ≡ get_or rows i row → name_eq x.name a ≡ b
    → item_value a f (drop i is) (drop i rows) ≡ (if b then field_in f x.fields row else item_value a f (drop (i + 1) is) (drop (i + 1) rows))
item_value_at a f is rows i x row b li lr ei er t =
    ap (λ l. item_value a f l (drop i rows)) (drop_next is i x li ei) ∙ ap (λ l. item_value a f (x ∷ drop (i + 1) is) l) (drop_next rows i row lr er)
    ∙ ap (λ c. if c then field_in f x.fields row else item_value a f (drop (i + 1) is) (drop (i + 1) rows)) t

none_rows : (a f : Name) (is : List Named) → item_value a f is [] ≡ None
none_rows a f [] = refl
none_rows a f (i ∷ is) = refl

-- behind the last row there is none of an item either
pub item_value_end : (a f : Name) (is : List Named) (rows : Tuple) (i : ℕ) → min (length is) (length rows) ≤ i → item_value a f (drop i is) (drop i rows) ≡ None
item_value_end a f is rows i le = by (nat_le (length is) i) refl where
  by : (b : Bool) → nat_le (length is) i ≡ b → item_value a f (drop i is) (drop i rows) ≡ None
  by true h = ap (λ l. item_value a f l (drop i rows)) (drop_all i is (grind (arith, nat_tests, h)))
  by false h = ap (item_value a f (drop i is)) (drop_all i rows (grind (arith, nat_tests, h, le))) ∙ none_rows a f (drop i is)

-- an input's name and fields among those of all
pub map_at : {A B : Type 0} (f : A → B) (xs : List A) (i : ℕ) (x : A) → i < length xs → x ≡ get_or xs i x → f x ≡ get_or (map f xs) i (f x)
map_at f [] i x lt e = absurd (omega (arith, lt))
map_at f (y ∷ ys) zero x lt e = ap f e
map_at f (y ∷ ys) (suc i) x lt e = map_at f ys i x (omega (arith, lt)) e
