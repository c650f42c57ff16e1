-- Places of fields, found one item after another.
use Rattle.std.proofs.Common.{◌≡◌, ℕ, ◌+◌, ◌<◌, Bool, true, false, Option, Some, None, List, length, drop, get_or, refl, sym, ap, ◌∙◌}
use Rattle.std.proofs.Common.{arith}
use Rattle.std.specs.Prelude.{if◌then◌else◌, IfSome}
use Rattle.river_base.proofs.Lists.{drop_next}
use Rattle.river_base.specs.Name.{name_eq}
use Rattle.river_plan.specs.Forms.{Name}
use Rattle.cql_model.specs.Plan.{plus, or_place, place_among, field_place, item_place, widths_of}
use Rattle.cql_build.specs.Views.{scope}
use Rattle.cql_build.specs.declared.item.Item.{Item}

plus_twice : (a b : ℕ) (o : Option ℕ) → plus a (plus b o) ≡ plus (a + b) o
plus_twice a b None = refl
plus_twice a b (Some k) = ap Some (let e : a + (b + k) ≡ a + b + k = omega arith in e)

plus_none : (o : Option ℕ) → o ≡ plus 0 o
plus_none None = refl
plus_none (Some k) = ap Some (let e : k ≡ 0 + k = omega arith in e)

-- the fields of one item: so far another one stood at each place
pub place_start : (f : Name) (fields : List Name) → place_among f fields ≡ plus 0 (place_among f fields)
place_start f fields = plus_none (place_among f fields)

place_at : (f : Name) (fields : List Name) (i : ℕ) (g : Name) (b : Bool) → place_among f fields ≡ plus i (place_among f (drop i fields)) → i < length fields
    → g ≡ get_or fields i g
    → name_eq g f ≡ b → place_among f fields ≡ plus i (if b then Some 0 else plus 1 (place_among f (drop (i + 1) fields)))
place_at f fields i g b h lt e t =
    h ∙ ap (λ l. plus i (place_among f l)) (drop_next fields i g lt e) ∙ ap (λ c. plus i (if c then Some 0 else plus 1 (place_among f (drop (i + 1) fields)))) t

pub place_here : (f : Name) (fields : List Name) (i : ℕ) (g : Name) → place_among f fields ≡ plus i (place_among f (drop i fields)) → i < length fields
    → g ≡ get_or fields i g
    → name_eq g f ≡ true → Some i ≡ place_among f fields
place_here f fields i g h lt e t = sym (place_at f fields i g true h lt e t ∙ ap Some (let z : i + 0 ≡ i = omega arith in z))

pub place_later : (f : Name) (fields : List Name) (i : ℕ) (g : Name) → place_among f fields ≡ plus i (place_among f (drop i fields)) → i < length fields
    → g ≡ get_or fields i g
    → name_eq g f ≡ false → place_among f fields ≡ plus (i + 1) (place_among f (drop (i + 1) fields))
place_later f fields i g h lt e t = place_at f fields i g false h lt e t ∙ plus_twice i 1 (place_among f (drop (i + 1) fields))

-- the fields of all items: so far no item has it, and this is how wide they are together
pub record FieldSoFar (all : List Item) (f : Name) (i wide : ℕ) : Type 0 where
  pub whole : field_place f (scope all) ≡ plus wide (field_place f (scope (drop i all)))
  pub rest : wide + widths_of (scope (drop i all)) ≡ widths_of (scope all)

pub field_start : (all : List Item) (f : Name) → FieldSoFar all f 0 0
field_start all f = record { whole = plus_none (field_place f (scope all)); rest = omega arith }

field_at : (all : List Item) (f : Name) (i wide : ℕ) (x : Item) (o : Option ℕ) → FieldSoFar all f i wide → i < length all → x ≡ get_or all i x
    → o ≡ place_among f x.fields.now
    → field_place f (scope all) ≡ plus wide (or_place o (plus (length x.fields.now) (field_place f (scope (drop (i + 1) all)))))
field_at all f i wide x o s lt e p =
    s.whole ∙ ap (λ l. plus wide (field_place f (scope l))) (drop_next all i x lt e)
    ∙ ap (λ q. plus wide (or_place q (plus (length x.fields.now) (field_place f (scope (drop (i + 1) all)))))) (sym p)

rest_at : (all : List Item) (i wide : ℕ) (x : Item) → wide + widths_of (scope (drop i all)) ≡ widths_of (scope all) → i < length all → x ≡ get_or all i x
    → wide + length x.fields.now + widths_of (scope (drop (i + 1) all)) ≡ widths_of (scope all)
rest_at all i wide x r lt e = let d = ap (λ l. widths_of (scope l)) (drop_next all i x lt e) in omega (arith, d, r)

-- an item that has it
pub field_here : (all : List Item) (f : Name) (i wide : ℕ) (x : Item) (k : ℕ) → FieldSoFar all f i wide → i < length all → x ≡ get_or all i x
    → Some k ≡ place_among f x.fields.now
    → k < length x.fields.now → (Some (wide + k) ≡ field_place f (scope all)) × (wide + k < widths_of (scope all))
field_here all f i wide x k s lt e p low =
    (sym (field_at all f i wide x (Some k) s lt e p), (let r = rest_at all i wide x s.rest lt e in omega (arith, r, low)))

-- an item that does not
pub field_later : (all : List Item) (f : Name) (i wide : ℕ) (x : Item) → FieldSoFar all f i wide → i < length all → x ≡ get_or all i x
    → None ≡ place_among f x.fields.now
    → FieldSoFar all f (i + 1) (wide + length x.fields.now)
field_later all f i wide x s lt e p = record {
  whole = field_at all f i wide x None s lt e p ∙ plus_twice wide (length x.fields.now) (field_place f (scope (drop (i + 1) all)));
  rest = rest_at all i wide x s.rest lt e;
}

-- the items: so far none has the name
pub record ItemSoFar (all : List Item) (a f : Name) (i wide : ℕ) : Type 0 where
  pub whole : item_place a f (scope all) ≡ plus wide (item_place a f (scope (drop i all)))
  pub rest : wide + widths_of (scope (drop i all)) ≡ widths_of (scope all)

pub item_start : (all : List Item) (a f : Name) → ItemSoFar all a f 0 0
item_start all a f = record { whole = plus_none (item_place a f (scope all)); rest = omega arith }

item_at : (all : List Item) (a f : Name) (i wide : ℕ) (x : Item) (b : Bool) → ItemSoFar all a f i wide → i < length all → x ≡ get_or all i x
    → name_eq x.name a ≡ b
    → item_place a f (scope all) ≡ plus wide (if b then place_among f x.fields.now else plus (length x.fields.now) (item_place a f (scope (drop (i + 1) all))))
item_at all a f i wide x b s lt e t =
    s.whole ∙ ap (λ l. plus wide (item_place a f (scope l))) (drop_next all i x lt e)
    ∙ ap (λ c. plus wide (if c then place_among f x.fields.now else plus (length x.fields.now) (item_place a f (scope (drop (i + 1) all))))) t

-- the item of this name
pub item_here : (all : List Item) (a f : Name) (i wide : ℕ) (x : Item) (o : Option ℕ) → ItemSoFar all a f i wide → i < length all → x ≡ get_or all i x
    → name_eq x.name a ≡ true
    → o ≡ place_among f x.fields.now → IfSome o (λ k. k < length x.fields.now)
    → (plus wide o ≡ item_place a f (scope all)) × IfSome (plus wide o) (λ k. k < widths_of (scope all))
item_here all a f i wide x o s lt e t p low =
    (ap (plus wide) p ∙ sym (item_at all a f i wide x true s lt e t), within o low)
  where
    within : (o : Option ℕ) → IfSome o (λ k. k < length x.fields.now) → IfSome (plus wide o) (λ k. k < widths_of (scope all))
    within None h = tt
    within (Some k) h = let r = rest_at all i wide x s.rest lt e in omega (arith, r, h)

-- another item
pub item_later : (all : List Item) (a f : Name) (i wide : ℕ) (x : Item) → ItemSoFar all a f i wide → i < length all → x ≡ get_or all i x
    → name_eq x.name a ≡ false
    → ItemSoFar all a f (i + 1) (wide + length x.fields.now)
item_later all a f i wide x s lt e t = record {
  whole = item_at all a f i wide x false s lt e t ∙ plus_twice wide (length x.fields.now) (item_place a f (scope (drop (i + 1) all)));
  rest = rest_at all i wide x s.rest lt e;
}
