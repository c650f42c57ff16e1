-- Lists that are gone over one element after another.
use Rattle.std.proofs.Common.{◌≡◌, ℕ, zero, suc, ◌+◌, ◌<◌, ◌≤◌, List, [], ◌∷◌, ◌++◌, length, take, drop, get_or, Bool, true, Some, length-drop}
use Rattle.std.proofs.Common.{refl, sym, ap, ◌∙◌, arith, add-one}
use Rattle.std.specs.Prelude.{nat_lt, if◌then◌else◌}
use Rattle.std.proofs.lemmas.List.{map-append}
use Rattle.river_base.proofs.Lists.{take_next}
use Rattle.river_base.specs.Name.{name_eq}
use Rattle.river_plan.specs.Forms.{Name}
use Rattle.river_plan.specs.Names.{one_if, count}
use Rattle.river_plan.proofs.NameLemmas.{count-append, one_same}
use Rattle.cql_model.specs.Judged.{field_places, item_places, then_fault, fault_if, scalar_fault, chosen_fault}
use Rattle.cql_model.specs.declared.fault.Fault.TheVariants.{Limit}
use Rattle.cql_text.specs.declared.tree.Column.{Column}
use Rattle.cql_model.specs.Scopes.{Named}
use Rattle.cql_text.specs.Tree.{column_of, chosen_of}
use Rattle.cql_build.specs.Views.{named_item, scope}
use Rattle.cql_build.specs.declared.item.Item.{Item}

-- one name more
pub count_next : (q : Name) (xs : List Name) (i : ℕ) (x : Name) → i < length xs → x ≡ get_or xs i x
    → count q (take (i + 1) xs) ≡ count q (take i xs) + one_if (name_eq x q)
count_next q xs i x lt e = let a = count-append q (take i xs) (x ∷ []) in ap (count q) (take_next xs i x lt e) ∙ omega (arith, a)

-- a name behind those that are there counts once more
pub once_more : (q : Name) (xs : List Name) → count q (xs ++ q ∷ []) ≡ count q xs + 1
once_more q xs = let a = count-append q xs (q ∷ []) in let o = one_same q in omega (arith, a, o)

-- one item more
places-append : (f : Name) (xs : List Named) (k : Named) → field_places f (xs ++ k ∷ []) ≡ field_places f xs + count f k.fields
places-append f [] k = omega arith
places-append f (x ∷ xs) k = let m = places-append f xs k in omega (arith, m)

-- one item more has its own places of a field
pub places_next : (f : Name) (xs : List Item) (i : ℕ) (x : Item) → i < length xs → x ≡ get_or xs i x
    → field_places f (scope (take (i + 1) xs)) ≡ field_places f (scope (take i xs)) + count f x.fields.now
places_next f xs i x lt e =
    ap (λ l. field_places f (scope l)) (take_next xs i x lt e) ∙ ap (field_places f) (map-append named_item (take i xs) (x ∷ []))
    ∙ places-append f (scope (take i xs)) (named_item x)

item_places-append : (a f : Name) (xs : List Named) (k : Named) (b : Bool) → name_eq k.name a ≡ b
    → item_places a f (xs ++ k ∷ []) ≡ item_places a f xs + (if b then count f k.fields else 0)
item_places-append a f [] k b e = ap (λ c. (if c then count f k.fields else 0) + 0) e ∙ turn (if b then count f k.fields else 0) where
  turn : (n : ℕ) → n + 0 ≡ 0 + n
  turn n = omega arith
item_places-append a f (x ∷ xs) k b e =
    ap (λ n. (if name_eq x.name a then count f x.fields else 0) + n) (item_places-append a f xs k b e)
    ∙ turn (if name_eq x.name a then count f x.fields else 0) (item_places a f xs) (if b then count f k.fields else 0)
  where
    turn : (m n k : ℕ) → m + (n + k) ≡ (m + n) + k
    turn m n k = omega arith

-- and only if it is called so, its places of a field of this item
pub item_places_next : (a f : Name) (xs : List Item) (i : ℕ) (x : Item) (b : Bool) → i < length xs → x ≡ get_or xs i x → name_eq x.name a ≡ b
    → item_places a f (scope (take (i + 1) xs)) ≡ item_places a f (scope (take i xs)) + (if b then count f x.fields.now else 0)
item_places_next a f xs i x b lt e t =
    ap (λ l. item_places a f (scope l)) (take_next xs i x lt e) ∙ ap (item_places a f) (map-append named_item (take i xs) (x ∷ []))
    ∙ item_places-append a f (scope (take i xs)) (named_item x) b t

-- the seventeenth column
pub too_many : (is : List Named) (i : ℕ) (cs : List Column) → i < length cs → 16 ≤ i → chosen_fault is i (chosen_of (drop i cs)) ≡ Some Limit
too_many is i cs lt le = some (drop i cs) (let l = length-drop i cs in omega (arith, l, lt)) where
  high : (n : ℕ) → 16 ≤ n → nat_lt 15 n ≡ true
  high n le = grind (arith, le)

  some : (ds : List Column) → 0 < length ds → chosen_fault is i (chosen_of ds) ≡ Some Limit
  some [] lt = absurd (omega (arith, lt))
  some (d ∷ ds) lt =
      ap (λ b. then_fault (fault_if b Limit) (then_fault (scalar_fault is (column_of d).value) (chosen_fault is (i + 1) (chosen_of ds)))) (high i le)

-- something is left before the end
pub drop_some : {A : Type 0} (xs : List A) (i : ℕ) → i < length xs → (x : A) × (drop i xs ≡ x ∷ drop (i + 1) xs)
drop_some {A} xs i lt = let d = there xs i lt in (d.0, d.1 ∙ ap (λ k. d.0 ∷ drop k xs) (sym (add-one i))) where
  there : (xs : List A) (i : ℕ) → i < length xs → (x : A) × (drop i xs ≡ x ∷ drop (suc i) xs)
  there [] i lt = absurd (omega (arith, lt))
  there (x ∷ xs) zero lt = (x, refl)
  there (x ∷ xs) (suc i) lt = there xs i (omega (arith, lt))
