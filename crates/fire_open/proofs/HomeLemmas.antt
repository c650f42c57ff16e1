-- Where an operator's rows go.
use Rattle.std.proofs.Common.{◌≡◌, Bool, true, false, ℕ, ℤ, pos, zero, suc, ◌+◌, ◌<◌, ◌≤◌, Some, List, [], ◌∷◌, ◌++◌, length, map, take, take-suc, refl, sym, ap}
use Rattle.std.proofs.Common.{◌∙◌, arith, subst, ⊎_elim, length-append}
use Rattle.std.specs.Prelude.{slice_get, slice_index, slice_index_or, if◌then◌else◌}
use Rattle.std.specs.List.Sorted.{IsStrictlyIncreasing}
use Rattle.std.proofs.lemmas.Bool.{cases_lt}
use Rattle.std.proofs.lemmas.List.{map-append, length-map}
use Rattle.std.proofs.lemmas.Option.{slice_get_within, slice_get-get_or, get_or_from_slice_get, same_Some}
use Rattle.river_base.proofs.Tests.{pos_is}
use Rattle.river_base.proofs.Lists.{got_last, got_map, there_is}
use Rattle.river_base.specs.Places.{list_at}
use Rattle.river_plan.specs.declared.plan.TableDecl.{TableDecl}
use Rattle.river_plan.specs.Forms.{PlanForm, table_names, variable_names}
use Rattle.river_plan.specs.Places.{place, places, var_places}
use Rattle.river_plan.proofs.PlaceLemmas.{place_below}
use Rattle.plan_classes.specs.Classes.{AreClasses, class_of}
use Rattle.plan_classes.specs.Numbered.{class_numbers}
use Rattle.plan_classes.proofs.Numbers.{are_numbers}
use Rattle.plan_classes.specs.Users.{having, table_users}
use Rattle.brooklet_model.specs.Histories.{tables_of}
use Rattle.brooklet_model.proofs.Traces.{got_count}
use Rattle.brooklet_step.specs.Tables.{table_places}
use Rattle.brooklet_step.proofs.OpTables.{among_known, table_places_are}
use Rattle.brooklet_step.proofs.ReadLemmas.{places_at}
use Rattle.fire_tasks.specs.Adds.{AreHomes, natural_of, table_class, table_numbers}
use Rattle.fire_tasks.specs.declared.task.TablePort.{TablePort}
use Rattle.fire_open.specs.Homes.{HasClass, AreByFirst, AreClassesOf, AreTableClasses}
use Rattle.fire_open.proofs.FirstLemmas.{map_got}

-- an element of a list with one more
pub got_snoc : {A : Type 0} (xs : List A) (x y : A) (j : ℕ) (P : ℕ → A → Type 0) → slice_get (xs ++ x ∷ []) j ≡ Some y
    → ((i : ℕ) (z : A) → slice_get xs i ≡ Some z → P i z) → P (length xs) x → P j y
got_snoc [] x y zero P g h k = subst (P 0) (same_Some x y g) k
got_snoc [] x y (suc j) P g h k = absurd (cc g)
got_snoc (a ∷ xs) x y zero P g h k = h 0 y g
got_snoc (a ∷ xs) x y (suc j) P g h k = got_snoc xs x y j (λ i z. P (suc i) z) g (λ i z e. h (suc i) z e) k

-- an element of a list is one of the list with one more
pub got_front : {A : Type 0} (xs : List A) (x y : A) (i : ℕ) → slice_get xs i ≡ Some y → slice_get (xs ++ x ∷ []) i ≡ Some y
got_front [] x y i g = absurd (cc g)
got_front (a ∷ xs) x y zero g = g
got_front (a ∷ xs) x y (suc i) g = got_front xs x y i g

-- the ports of these tables: each with the place of its table's class
pub record ArePortsOf (classes own tables : List ℕ) (ports : List TablePort) : Type 0 where
  pub tables_are : map (λ (h : TablePort). h.table) ports ≡ tables
  pub places_are : (j : ℕ) (h : TablePort) → slice_get ports j ≡ Some h → slice_get own h.place ≡ Some (slice_index_or classes h.table 0)

-- before the first table there is no port
pub ports_first : (classes own : List ℕ) (ports : List TablePort) → ports ≡ [] → ArePortsOf classes own [] ports
ports_first classes own ports e = subst (ArePortsOf classes own []) (sym e) (record { tables_are = refl; places_are = λ j h g. absurd (cc g) })

pub ports_more : (classes own tables : List ℕ) (ports : List TablePort) (h : TablePort) → ArePortsOf classes own tables ports
    → slice_get own h.place ≡ Some (slice_index_or classes h.table 0) → ArePortsOf classes own (tables ++ h.table ∷ []) (ports ++ h ∷ [])
ports_more classes own tables ports h a e = record {
  tables_are = map-append (λ (x : TablePort). x.table) ports (h ∷ []) ∙ ap (λ l. l ++ h.table ∷ []) a.tables_are;
  places_are = λ j x g. got_snoc ports h x j (λ i z. slice_get own z.place ≡ Some (slice_index_or classes z.table 0)) g a.places_are e;
}

-- one table more has its port
pub ports_next : (classes own items : List ℕ) (i : ℕ) (ports ports' : List TablePort) (place class : ℕ) → ArePortsOf classes own (take i items) ports
    → i < length items
    → ports' ≡ ports ++ record { table = slice_index_or items i 0; place = place } ∷ [] → slice_get own place ≡ Some class
    → class ≡ slice_index_or classes (slice_index_or items i 0) 0 → ArePortsOf classes own (take (i + 1) items) ports'
ports_next classes own items i ports ports' place class h lt e g c =
    let next : suc i ≡ i + 1 = omega arith in
    let taken : take (i + 1) items ≡ take i items ++ slice_index_or items i 0 ∷ [] = ap (λ k. take k items) (sym next) ∙ take-suc items i 0 lt in
    subst (ArePortsOf classes own (take (i + 1) items)) (sym e)
    (subst (λ ts. ArePortsOf classes own ts (ports ++ record { table = slice_index_or items i 0; place = place } ∷ [])) (sym taken)
    (ports_more classes own (take i items) ports (record { table = slice_index_or items i 0; place = place }) h (g ∙ ap Some c)))

-- ASCENDING CLASSES

index_front : (xs : List ℕ) (c i : ℕ) → i < length xs → slice_index (xs ++ c ∷ []) i ≡ slice_index xs i
index_front [] c i lt = absurd (omega (arith, lt))
index_front (x ∷ xs) c zero lt = refl
index_front (x ∷ xs) c (suc i) lt = index_front xs c i (omega (arith, lt))

index_last : (xs : List ℕ) (c : ℕ) → slice_index (xs ++ c ∷ []) (length xs) ≡ c
index_last [] c = refl
index_last (x ∷ xs) c = index_last xs c

get_index : (xs : List ℕ) (i : ℕ) → i < length xs → slice_get xs i ≡ Some (slice_index xs i)
get_index [] i lt = absurd (omega (arith, lt))
get_index (x ∷ xs) zero lt = refl
get_index (x ∷ xs) (suc i) lt = get_index xs i (omega (arith, lt))

-- a number above all of an ascending list may come behind it
ascend_more : (xs : List ℕ) (c : ℕ) → IsStrictlyIncreasing xs → ((i x : ℕ) → slice_get xs i ≡ Some x → x < c) → IsStrictlyIncreasing (xs ++ c ∷ [])
ascend_more xs c a b k lt =
    let l = length-append xs (c ∷ []) in
    let at : k < length xs = omega (arith, lt, l) in
    let here = index_front xs c k at in
    ⊎_elim
    (λ more. let there = index_front xs c (k + 1) more in let r = a k more in omega (arith, here, there, r))
    (λ last.
    let e : length xs ≡ k + 1 = omega (arith, at, last) in
    let there : slice_index (xs ++ c ∷ []) (k + 1) ≡ c = ap (slice_index (xs ++ c ∷ [])) (sym e) ∙ index_last xs c in
    let r = b k (slice_index xs k) (get_index xs k at) in
    omega (arith, here, there, r))
    (cases_lt (k + 1) (length xs))

pub own_first : (classes tables : List ℕ) → AreClassesOf classes tables 0 []
own_first classes tables = record {
  ascend = λ k lt. absurd (omega (arith, lt));
  below = λ i c g. absurd (cc g);
  used = λ i c g. absurd (cc g);
  all = λ c lt. absurd (omega (arith, lt));
}

pub own_more : (classes tables : List ℕ) (n : ℕ) (own : List ℕ) → AreClassesOf classes tables n own → HasClass classes tables n
    → AreClassesOf classes tables (n + 1) (own ++ n ∷ [])
own_more classes tables n own h k = record {
  ascend = ascend_more own n h.ascend h.below;
  below = λ i c g. got_snoc own n c i (λ j x. x < n + 1) g (λ j x e. let b = h.below j x e in omega (arith, b)) (omega arith);
  used = λ i c g. got_snoc own n c i (λ j x. HasClass classes tables x) g h.used k;
  all = λ c lt x. ⊎_elim
      (λ l. let y = h.all c l x in (y.0, got_front own n c y.0 y.1))
      (λ ge. let e : n ≡ c = omega (arith, lt, ge) in (length own, got_last own n ∙ ap Some e))
      (cases_lt c n);
}

pub own_stays : (classes tables : List ℕ) (n : ℕ) (own : List ℕ) → AreClassesOf classes tables n own → (HasClass classes tables n → ⊥)
    → AreClassesOf classes tables (n + 1) own
own_stays classes tables n own h k = record {
  ascend = h.ascend;
  below = λ i c g. let b = h.below i c g in omega (arith, b);
  used = h.used;
  all = λ c lt x. ⊎_elim
      (λ l. h.all c l x)
      (λ ge. let e : n ≡ c = omega (arith, lt, ge) in absurd (k (subst (HasClass classes tables) (sym e) x)))
      (cases_lt c n);
}

-- one class more was asked for
pub own_next : (classes tables : List ℕ) (n : ℕ) (own own' : List ℕ) (b : Bool) → AreClassesOf classes tables n own → (b ≡ true → HasClass classes tables n)
    → (b ≡ false → HasClass classes tables n → ⊥) → own' ≡ (if b then own ++ n ∷ [] else own) → AreClassesOf classes tables (n + 1) own'
own_next classes tables n own own' true h y f e = subst (AreClassesOf classes tables (n + 1)) (sym e) (own_more classes tables n own h (y refl))
own_next classes tables n own own' false h y f e = subst (AreClassesOf classes tables (n + 1)) (sym e) (own_stays classes tables n own h (f refl))

-- THE CLASSES OF A PLAN'S TABLES

index_map : (xs : List ℕ) (i : ℕ) → slice_index_or (map pos xs) i (pos 0) ≡ pos (slice_index_or xs i 0)
index_map [] i = refl
index_map (x ∷ xs) zero = refl
index_map (x ∷ xs) (suc i) = index_map xs i

got_index : (xs : List ℕ) (i : ℕ) → i < length xs → slice_get xs i ≡ Some (slice_index_or xs i 0)
got_index [] i lt = absurd (omega (arith, lt))
got_index (x ∷ xs) zero lt = refl
got_index (x ∷ xs) (suc i) lt = got_index xs i (omega (arith, lt))

index_got : (xs : List ℕ) (i x : ℕ) → slice_get xs i ≡ Some x → slice_index_or xs i 0 ≡ x
index_got xs i x g = same_Some (slice_index_or xs i 0) x (sym (got_index xs i (slice_get_within xs i x g)) ∙ g)

-- the classes that are given out are those of the plan's tables
pub table_classes_are : (p : PlanForm) (users : List (List ℤ)) (numbers : List ℤ) (places : List ℕ) → users ≡ table_users p → AreClasses users numbers
    → map pos places ≡ numbers
    → AreTableClasses p places
table_classes_are p users numbers places eu h en =
    let long : length users ≡ length p.tables = ap length eu ∙ length-map p.tables (λ (t : TableDecl). having t.name 0 p.ops) in
    let many : length places ≡ length p.tables = (let a = length-map places pos in let b = ap length en in let c = h.as_many in omega (arith, a, b, c, long)) in
    let is : numbers ≡ class_numbers (table_users p) = are_numbers users numbers h ∙ ap class_numbers eu in
    record {
      many = many;
      each = λ n lt.
          got_index places n (omega (arith, many, lt))
          ∙ ap Some (ap natural_of (sym (index_map places n) ∙ ap (λ l. class_of l n) (en ∙ is)));
      by_first = λ i c d g lt.
          let li = slice_get_within places i c g in
          let at : class_of numbers i ≡ pos c = ap (λ l. class_of l i) (sym en) ∙ index_map places i ∙ ap pos (index_got places i c g) in
          let s = h.by_first i c d (omega (arith, li, many, long)) at lt in
          let ls = s.1 in (
            s.0,
            s.1,
            got_index places s.0 (omega (arith, ls, li))
                ∙ ap Some (pos_is (slice_index_or places s.0 0) d (sym (index_map places s.0) ∙ ap (λ l. class_of l s.0) en ∙ s.2)),
          );
    }

-- THE TABLES OF AN OPERATOR

-- the tables among an operator's variables are its tables by number
pub numbers_are : (p : PlanForm) (o n : ℕ) (vs tables : List ℕ) → o < length p.ops → n ≡ length p.tables → vs ≡ list_at (var_places p) o
    → tables ≡ table_places n vs
    → tables ≡ table_numbers p (slice_get p.ops o)
numbers_are p o n vs tables lt en ev et =
    let x = there_is p.ops o lt in
    et ∙ ap (table_places n) (ev ∙ places_at (λ d. d.vars) (variable_names p) p.ops o x.0 x.1) ∙ table_places_are p x.0 n en ∙ ap (table_numbers p) (sym x.1)

-- each is the number of a table
pub numbers_below : (p : PlanForm) (o : ℕ) (tables : List ℕ) → o < length p.ops → tables ≡ table_numbers p (slice_get p.ops o) → (k d : ℕ) → k < length tables
    → slice_index_or tables k d < length p.tables
numbers_below p o tables lt e k d lk =
    let x = there_is p.ops o lt in
    let names = table_names p.tables in
    let qs = tables_of names x.0 in
    let is : tables ≡ places names qs = e ∙ ap (table_numbers p) x.1 in
    let g : slice_get (places names qs) k ≡ Some (slice_index_or tables k d) = ap (λ l. slice_get l k) (sym is) ∙ slice_get-get_or tables k d lk in
    let a = map_got (place names) qs k (slice_index_or tables k d) g in
    let b = place_below names a.0 (among_known names x.0.vars a.0 (got_count qs k a.0 a.1)) in
    let c = length-map p.tables (λ (t : TableDecl). t.name) in
    let q = a.2 in
    omega (arith, b, c, q)

-- classes are small: no class is above its first table
class_small : (classes : List ℕ) → AreByFirst classes → (n i c : ℕ) → i < n → slice_get classes i ≡ Some c → c ≤ i
class_small classes b zero i c lt g = absurd (omega (arith, lt))
class_small classes b (suc n) i zero lt g = omega arith
class_small classes b (suc n) i (suc d) lt g =
    let k = b i (suc d) d g (omega arith) in
    let lk = k.1 in
    let r = class_small classes b n k.0 d (omega (arith, lk, lt)) k.2 in
    omega (arith, r, lk)

pub classes_few : (classes : List ℕ) → AreByFirst classes → (i c : ℕ) → slice_get classes i ≡ Some c → c < length classes
classes_few classes b i c g =
    let a = class_small classes b (i + 1) i c (omega arith) g in
    let w = slice_get_within classes i c g in
    omega (arith, a, w)

-- the class of each table of an operator is among its classes
pub own_there : (p : PlanForm) (o : ℕ) (classes tables : List ℕ) (n : ℕ) (own : List ℕ) → o < length p.ops → AreTableClasses p classes
    → tables ≡ table_numbers p (slice_get p.ops o) → n ≡ length classes → AreClassesOf classes tables n own → (k d : ℕ) → k < length tables
    → (x : ℕ) × (slice_get own x ≡ Some (slice_index_or classes (slice_index_or tables k d) 0))
own_there p o classes tables n own lt h e en a k d lk =
    let m = slice_index_or tables k d in
    let b = numbers_below p o tables lt e k d lk in
    let many = h.many in
    let g : slice_get classes m ≡ Some (slice_index_or classes m 0) = got_index classes m (omega (arith, b, many)) in
    let few = classes_few classes h.by_first m (slice_index_or classes m 0) g in
    a.all (slice_index_or classes m 0) (omega (arith, few, en)) (k, m, slice_get-get_or tables k d lk, refl)

-- these are the homes of an operator's rows
pub homes_are : (p : PlanForm) (o : ℕ) (classes tables own : List ℕ) (n : ℕ) (ports : List TablePort) → o < length p.ops → AreTableClasses p classes
    → tables ≡ table_numbers p (slice_get p.ops o) → AreClassesOf classes tables n own → map (λ (h : TablePort). h.table) ports ≡ tables
    → ((j : ℕ) (h : TablePort) → slice_get ports j ≡ Some h → slice_get own h.place ≡ Some (slice_index_or classes h.table 0)) → AreHomes p o ports own
homes_are p o classes tables own n ports lt h e a em g = record {
  numbers = em ∙ e;
  places_are = λ j x gx. g j x gx ∙ ap Some (class_is (below j x gx));
  ascend = a.ascend;
  used = λ i c gc.
      let u = a.used i c gc in
      let x = map_got (λ (y : TablePort). y.table) ports u.0 u.1 (ap (λ l. slice_get l u.0) em ∙ u.2) in
      (u.0, x.0, x.1, sym u.3 ∙ ap (λ m. slice_index_or classes m 0) (sym x.2) ∙ class_is (below u.0 x.0 x.1));
}
  where
    below : (j : ℕ) (x : TablePort) → slice_get ports j ≡ Some x → x.table < length p.tables
    below j x gx =
        let gt : slice_get tables j ≡ Some x.table = ap (λ l. slice_get l j) (sym em) ∙ got_map (λ (y : TablePort). y.table) ports j x gx in
        subst (λ m. m < length p.tables) (get_or_from_slice_get tables j x.table 0 gt)
        (numbers_below p o tables lt e j 0 (slice_get_within tables j x.table gt))

    class_is : {m : ℕ} → m < length p.tables → slice_index_or classes m 0 ≡ table_class p m
    class_is {m} l = index_got classes m (table_class p m) (h.each m l)
