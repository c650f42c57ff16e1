-- Items that are judged one after another.
use Rattle.std.proofs.Common.{◌≡◌, ℕ, zero, suc, ◌+◌, ◌-◌, ◌<◌, ◌≤◌, Bool, true, false, List, [], ◌∷◌, ◌++◌, length, take, drop, map, get_or, Option, Some}
use Rattle.std.proofs.Common.{None, refl, sym, ap, ◌∙◌, subst, arith}
use Rattle.std.specs.Prelude.{nat_lt, nat_eq, if◌then◌else◌}
use Rattle.std.specs.Borrow.{Bor}
use Rattle.std.specs.Option.{option_copied}
use Rattle.std.proofs.lemmas.List.{map-append}
use Rattle.river_base.proofs.Lists.{take_next, drop_next}
use Rattle.river_base.specs.Name.{name_eq}
use Rattle.river_plan.specs.Forms.{Name}
use Rattle.river_plan.specs.Names.{one_if, count}
use Rattle.cql_model.specs.Judged.{then_fault, fault_if, is_rows_fault, item_fault, items_fault}
use Rattle.cql_model.specs.Laws.{known_names}
use Rattle.cql_text.specs.Tree as tree
use Rattle.cql_model.specs.Scopes.{Named, alias_or, fields_of, item_named, scope_of}
use Rattle.cql_model.specs.Plan.{widths_of}
use Rattle.cql_model.specs.declared.fault.Fault.{Fault}
use Rattle.cql_model.specs.declared.fault.Fault.TheVariants.{UnknownStream, NameTwice, Limit}
use Rattle.cql_text.specs.declared.tree.Source.{Source}
use Rattle.cql_build.specs.Knowing.{IsFound}
use Rattle.cql_text.specs.Tree.{source_of, sources_of}
use Rattle.cql_build.specs.Views.{named_item, scope}
use Rattle.cql_build.specs.declared.item.Item.{Item}

-- NAMES OF ITEMS

abbrev name_of : Source → Name
name_of x = alias_or x.alias x.stream

names_are : (ks : List Named) (xs : List Source) → known_names (scope_of ks (sources_of xs)) ≡ map name_of xs
names_are ks [] = refl
names_are ks (x ∷ xs) = ap (λ l. name_of x ∷ l) (names_are ks xs)

-- an item of this name stands among them
pub name_there : (ks : List Named) (q : Name) (xs : List Source) (i : ℕ) (x : Source) → i < length xs → x ≡ get_or xs i x
    → name_eq (alias_or x.alias x.stream) q ≡ true
    → true ≡ nat_lt 0 (count q (known_names (scope_of ks (sources_of xs))))
name_there ks q xs i x lt e t =
    let c = there xs i lt e in positive (count q (known_names (scope_of ks (sources_of xs)))) (ap (count q) (names_are ks xs)) c where
      positive : (n : ℕ) {m : ℕ} → n ≡ m → 0 < m → true ≡ nat_lt 0 n
      positive n e lt = grind (arith, e, lt)

      there : (xs : List Source) (i : ℕ) → i < length xs → x ≡ get_or xs i x → 0 < count q (map name_of xs)
      there [] i lt e = absurd (omega (arith, lt))
      there (y ∷ ys) zero lt e = let o = ap one_if (ap (λ z. name_eq (name_of z) q) (sym e) ∙ t) in omega (arith, o)
      there (y ∷ ys) (suc i) lt e = let m = there ys i (omega (arith, lt)) e in omega (arith, m)

-- one item more, of another name
pub name_next : (ks : List Named) (q : Name) (xs : List Source) (i : ℕ) (x : Source) → i < length xs → x ≡ get_or xs i x
    → name_eq (alias_or x.alias x.stream) q ≡ false
    → count q (known_names (scope_of ks (sources_of (take i xs)))) ≡ 0 → count q (known_names (scope_of ks (sources_of (take (i + 1) xs)))) ≡ 0
name_next ks q xs i x lt e f z =
    ap (count q) (names_are ks (take (i + 1) xs) ∙ ap (map name_of) (take_next xs i x lt e))
    ∙ more (take i xs) (sym (ap (count q) (names_are ks (take i xs))) ∙ z)
  where
    more : (ys : List Source) → count q (map name_of ys) ≡ 0 → count q (map name_of (ys ++ x ∷ [])) ≡ 0
    more [] z = let o = ap one_if f in omega (arith, o)
    more (y ∷ ys) z = let m = more ys (omega (arith, z)) in omega (arith, m, z)

-- FIELDS OF ITEMS

none_found : (ks : List Named) (n : Name) → count n (known_names ks) ≡ 0 → fields_of ks n ≡ []
none_found [] n h = refl
none_found (k ∷ ks) n h = step (name_eq k.name n) refl h (none_found ks n (omega (arith, h))) where
  step : (b : Bool) → name_eq k.name n ≡ b → one_if (name_eq k.name n) + count n (known_names ks) ≡ 0 → fields_of ks n ≡ []
      → (if b then k.fields else fields_of ks n) ≡ []
  step true e h more = absurd (let o = ap one_if e in omega (arith, o, h))
  step false e h more = more

abbrev at_name : List Named → Name → Option (Bor (List Name)) → Type 0
at_name ks n r = IsFound (option_copied r) ks n

-- an item whose stream is known, or not
pub item_found : (ks : List Named) (x : Source) (r : Option (Bor (List Name))) (fs : Bor (List Name)) (i : Item) → IsFound (option_copied r) ks x.stream
    → r ≡ Some fs
    → i.fields ≡ fs → i.name ≡ alias_or x.alias x.stream → named_item i ≡ item_named ks (source_of x)
item_found ks x r fs i f e g n =
    let h = subst (at_name ks x.stream) e f in
    let same : i.fields.now ≡ fields_of ks x.stream = ap (λ (b : Bor (List Name)). b.now) g ∙ h.1 in
    λ j. record { name = n j; fields = same j }

-- the item of a stream that is not known has no fields
pub item_lost : (ks : List Named) (x : Source) (r : Option (Bor (List Name))) (i : Item) → IsFound (option_copied r) ks x.stream → r ≡ None
    → i.fields.now ≡ [] → i.name ≡ alias_or x.alias x.stream → named_item i ≡ item_named ks (source_of x)
item_lost ks x r i f e g n =
    let h = subst (at_name ks x.stream) e f in
    let same : i.fields.now ≡ fields_of ks x.stream = g ∙ sym (none_found ks x.stream h) in
    λ j. record { name = n j; fields = same j }

-- FAULTS OF ITEMS

widths-append : (xs : List Named) (k : Named) → widths_of (xs ++ k ∷ []) ≡ widths_of xs + length k.fields
widths-append [] k = omega arith
widths-append (x ∷ xs) k = let m = widths-append xs k in omega (arith, m)

passes : (b : Bool) (f : Fault) (rest : Option Fault) → b ≡ false → then_fault (fault_if b f) rest ≡ rest
passes b f rest e = ap (λ c. then_fault (fault_if c f) rest) e

-- an item of a known stream, which is not the fifth, of good rows and of a new name
pub record IsGood (ks : List Named) (scope : List Named) (i : tree.Source) : Type 0 where
  pub known : 0 < count i.stream (known_names ks)
  pub few : length scope < 4
  pub rows : is_rows_fault i.window ≡ false
  pub new : nat_lt 0 (count (item_named ks i).name (known_names scope)) ≡ false

passes_not : (b : Bool) (f : Fault) (rest : Option Fault) → b ≡ true → then_fault (fault_if b f) rest ≡ Some f
passes_not b f rest e = ap (λ c. then_fault (fault_if c f) rest) e

known_some : (n : ℕ) → 0 < n → nat_eq n 0 ≡ false
known_some n lt = grind (arith, lt)

few_left : (n : ℕ) → n < 4 → nat_lt 3 n ≡ false
few_left n lt = grind (arith, lt)

product_left : (ks scope : List Named) (i : tree.Source) → IsGood ks scope i
    → item_fault ks scope i ≡ fault_if (nat_lt 16 (widths_of (scope ++ item_named ks i ∷ []))) Limit
product_left ks scope i g =
    passes (nat_eq (count i.stream (known_names ks)) 0) UnknownStream _ (known_some (count i.stream (known_names ks)) g.known)
    ∙ passes (nat_lt 3 (length scope)) Limit _ (few_left (length scope) g.few)
    ∙ passes (is_rows_fault i.window) Limit _ g.rows
    ∙ passes (nat_lt 0 (count (item_named ks i).name (known_names scope))) NameTwice _ g.new

-- the product with it is not too wide
pub item_good : (ks scope : List Named) (i : tree.Source) (width : ℕ) (fields : List Name) → IsGood ks scope i → width ≡ widths_of scope → width ≤ 16
    → fields ≡ fields_of ks i.stream
    → length fields ≤ 16 - width → (width + length fields ≡ widths_of (scope ++ item_named ks i ∷ [])) × (item_fault ks scope i ≡ None)
item_good ks scope i width fields g w low f le =
    let a = widths-append scope (item_named ks i) in
    let l = ap (λ (x : List Name). length x) f in
    let sum : width + length fields ≡ widths_of (scope ++ item_named ks i ∷ []) = omega (arith, a, w, l) in
    (sum, product_left ks scope i g ∙ ap (λ b. fault_if b Limit) (narrow (widths_of (scope ++ item_named ks i ∷ [])) (omega (arith, sum, le, low))))
  where
    narrow : (n : ℕ) → n ≤ 16 → nat_lt 16 n ≡ false
    narrow n le = grind (arith, le)

-- it is too wide
pub item_wide : (ks scope : List Named) (i : tree.Source) (width : ℕ) (fields : List Name) → IsGood ks scope i → width ≡ widths_of scope → width ≤ 16
    → fields ≡ fields_of ks i.stream
    → 16 - width < length fields → item_fault ks scope i ≡ Some Limit
item_wide ks scope i width fields g w low f lt =
    let a = widths-append scope (item_named ks i) in
    let l = ap (λ (x : List Name). length x) f in
    product_left ks scope i g ∙ ap (λ b. fault_if b Limit) (wide (widths_of (scope ++ item_named ks i ∷ [])) (omega (arith, a, w, l, lt, low)))
  where
    wide : (n : ℕ) → 16 < n → nat_lt 16 n ≡ true
    wide n lt = grind (arith, lt)

-- an item of a stream that is not known
pub item_unknown : (ks scope : List Named) (i : tree.Source) → count i.stream (known_names ks) ≡ 0 → item_fault ks scope i ≡ Some UnknownStream
item_unknown ks scope i h = passes_not (nat_eq (count i.stream (known_names ks)) 0) UnknownStream _ (none (count i.stream (known_names ks)) h) where
  none : (n : ℕ) → n ≡ 0 → nat_eq n 0 ≡ true
  none n e = grind (arith, e)

-- a fifth item
pub item_fifth : (ks scope : List Named) (i : tree.Source) → 0 < count i.stream (known_names ks) → 4 ≤ length scope → item_fault ks scope i ≡ Some Limit
item_fifth ks scope i known four =
    passes (nat_eq (count i.stream (known_names ks)) 0) UnknownStream _ (known_some (count i.stream (known_names ks)) known)
    ∙ passes_not (nat_lt 3 (length scope)) Limit _ (none_left (length scope) four)
  where
    none_left : (n : ℕ) → 4 ≤ n → nat_lt 3 n ≡ true
    none_left n le = grind (arith, le)

-- one of too few or too many rows
pub item_rows : (ks scope : List Named) (i : tree.Source) → 0 < count i.stream (known_names ks) → length scope < 4 → is_rows_fault i.window ≡ true
    → item_fault ks scope i ≡ Some Limit
item_rows ks scope i known few rows =
    passes (nat_eq (count i.stream (known_names ks)) 0) UnknownStream _ (known_some (count i.stream (known_names ks)) known)
    ∙ passes (nat_lt 3 (length scope)) Limit _ (few_left (length scope) few)
    ∙ passes_not (is_rows_fault i.window) Limit _ rows

-- one of a name that is given already
pub item_twice : (ks scope : List Named) (i : tree.Source) → 0 < count i.stream (known_names ks) → length scope < 4 → is_rows_fault i.window ≡ false
    → nat_lt 0 (count (item_named ks i).name (known_names scope)) ≡ true
    → item_fault ks scope i ≡ Some NameTwice
item_twice ks scope i known few rows twice =
    passes (nat_eq (count i.stream (known_names ks)) 0) UnknownStream _ (known_some (count i.stream (known_names ks)) known)
    ∙ passes (nat_lt 3 (length scope)) Limit _ (few_left (length scope) few)
    ∙ passes (is_rows_fault i.window) Limit _ rows
    ∙ passes_not (nat_lt 0 (count (item_named ks i).name (known_names scope))) NameTwice _ twice

-- as many items as there are sources
pub scope_length : (ks : List Named) (xs : List Source) → length (scope_of ks (sources_of xs)) ≡ length xs
scope_length ks [] = refl
scope_length ks (x ∷ xs) = ap suc (scope_length ks xs)

-- so far: the items before have no fault, and this is how wide their product is
pub record SoFar (ks : List Named) (all : List Source) (i wide : ℕ) : Type 0 where
  pub whole : items_fault ks [] (sources_of all) ≡ items_fault ks (scope_of ks (sources_of (take i all))) (sources_of (drop i all))
  pub width : wide ≡ widths_of (scope_of ks (sources_of (take i all)))

at_item : (ks : List Named) (all : List Source) (i wide : ℕ) (x : Source) → SoFar ks all i wide → i < length all → x ≡ get_or all i x
    → items_fault ks [] (sources_of all) ≡ then_fault (item_fault ks (scope_of ks (sources_of (take i all))) (source_of x))
    (items_fault ks (scope_of ks (sources_of (take i all)) ++ item_named ks (source_of x) ∷ []) (sources_of (drop (i + 1) all)))
at_item ks all i wide x s lt e = s.whole ∙ ap (λ l. items_fault ks (scope_of ks (sources_of (take i all))) (sources_of l)) (drop_next all i x lt e)

-- the sources of a list with one more at its end
pub sources-append : (xs : List Source) (x : Source) → sources_of (xs ++ x ∷ []) ≡ sources_of xs ++ source_of x ∷ []
sources-append [] x = refl
sources-append (y ∷ ys) x = ap (λ l. source_of y ∷ l) (sources-append ys x)

scope_next : (ks : List Named) (all : List Source) (i : ℕ) (x : Source) → i < length all → x ≡ get_or all i x
    → scope_of ks (sources_of (take (i + 1) all)) ≡ scope_of ks (sources_of (take i all)) ++ item_named ks (source_of x) ∷ []
scope_next ks all i x lt e =
    ap (λ l. scope_of ks (sources_of l)) (take_next all i x lt e)
    ∙ ap (scope_of ks) (sources-append (take i all) x)
    ∙ map-append (item_named ks) (sources_of (take i all)) (source_of x ∷ [])

-- the item of one source more
pub items_next : (ks : List Named) (all : List Source) (i : ℕ) (x : Source) (items items' : List Item) (m : Item) → i < length all → x ≡ get_or all i x
    → scope items ≡ scope_of ks (sources_of (take i all)) → items' ≡ items ++ m ∷ [] → named_item m ≡ item_named ks (source_of x)
    → scope items' ≡ scope_of ks (sources_of (take (i + 1) all))
items_next ks all i x items items' m lt e s p n =
    ap scope p
    ∙ map-append named_item items (m ∷ [])
    ∙ ap (λ l. l ++ named_item m ∷ []) s
    ∙ ap (λ y. scope_of ks (sources_of (take i all)) ++ y ∷ []) n
    ∙ sym (scope_next ks all i x lt e)

-- before the first item
pub items_start : (ks : List Named) (all : List Source) → SoFar ks all 0 0
items_start ks all = record { whole = refl; width = refl }

-- one item more, without a fault
pub item_next : (ks : List Named) (all : List Source) (i wide wider : ℕ) (x : Source) → SoFar ks all i wide → i < length all → x ≡ get_or all i x
    → (wider ≡ widths_of (scope_of ks (sources_of (take i all)) ++ item_named ks (source_of x) ∷ []))
    × (item_fault ks (scope_of ks (sources_of (take i all))) (source_of x) ≡ None)
    → SoFar ks all (i + 1) wider
item_next ks all i wide wider x s lt e g = record {
  whole =
      at_item ks all i wide x s lt e
      ∙ ap (λ o. then_fault o (items_fault ks (scope_of ks (sources_of (take i all)) ++ item_named ks (source_of x) ∷ []) (sources_of (drop (i + 1) all)))) g.1
      ∙ ap (λ l. items_fault ks l (sources_of (drop (i + 1) all))) (sym (scope_next ks all i x lt e));
  width = g.0 ∙ ap widths_of (sym (scope_next ks all i x lt e));
}

-- one that has a fault
pub item_refused : (ks : List Named) (all : List Source) (i wide : ℕ) (x : Source) (f : Fault) → SoFar ks all i wide → i < length all → x ≡ get_or all i x
    → item_fault ks (scope_of ks (sources_of (take i all))) (source_of x) ≡ Some f → Some f ≡ items_fault ks [] (sources_of all)
item_refused ks all i wide x f s lt e g =
    sym (at_item ks all i wide x s lt e ∙ ap
    (λ o. then_fault o (items_fault ks (scope_of ks (sources_of (take i all)) ++ item_named ks (source_of x) ∷ []) (sources_of (drop (i + 1) all)))) g)
