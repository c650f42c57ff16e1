-- The cells of the lock classes.
use Rattle.std.proofs.Common.{◌≡◌, Bool, true, false, ℕ, zero, suc, ◌+◌, ◌<◌, ◌≤◌, ◌==◌, Some, List, [], ◌∷◌, ◌++◌, length, take, take-suc, refl, sym, ap, ◌∙◌}
use Rattle.std.proofs.Common.{subst, arith, ⊎_elim, length-append, get_or, eq-eqb, ne_eqb}
use Rattle.std.specs.Prelude.{All, slice_get, slice_index_or, if◌then◌else◌}
use Rattle.std.proofs.lemmas.Bool.{cases_eq, cases_lt}
use Rattle.std.proofs.lemmas.Option.{slice_get_within, slice_get-get_or, get_or_from_slice_get, same_Some}
use Rattle.river_base.proofs.Lists.{got_last}
use Rattle.kern_tables.specs.declared.kind.TableKind.{TableKind}
use Rattle.river_plan.specs.declared.plan.TableDecl.{TableDecl}
use Rattle.river_plan.specs.Forms.{PlanForm}
use Rattle.class_locks.specs.Logs.{Holding, AreDistinct}
use Rattle.fire_tasks.specs.Adds.{table_class}
use Rattle.fire_open.specs.Homes.{AreByFirst, AreTableClasses, AreClassCells, IsClassCount, kinds_from, class_kinds}
use Rattle.fire_open.proofs.HomeLemmas.{got_snoc, got_front}

-- HOW MANY CLASSES

-- so many classes, and not more than tables
pub record Counted (classes : List ℕ) (n : ℕ) : Type 0 where
  pub used : (c : ℕ) → c < n → (i : ℕ) × (slice_get classes i ≡ Some c)
  pub all : (i c : ℕ) → slice_get classes i ≡ Some c → c < n
  pub few : n ≤ length classes

-- before the first table there is none
pub counted_none : Counted [] 0
counted_none = record { used = λ c lt. absurd (omega (arith, lt)); all = λ i c g. absurd (cc g); few = omega arith }

counted_new : (classes : List ℕ) (n : ℕ) → Counted classes n → Counted (classes ++ n ∷ []) (n + 1)
counted_new classes n h = record {
  used = λ c lt. ⊎_elim
      (λ l. let u = h.used c l in (u.0, got_front classes n c u.0 u.1))
      (λ ge. let e : n ≡ c = omega (arith, lt, ge) in (length classes, got_last classes n ∙ ap Some e))
      (cases_lt c n);
  all = λ i c g. got_snoc classes n c i (λ j x. x < n + 1) g (λ j x e. let a = h.all j x e in omega (arith, a)) (omega arith);
  few = (let l = length-append classes (n ∷ []) in let f = h.few in omega (arith, l, f));
}

counted_old : (classes : List ℕ) (n x : ℕ) → Counted classes n → x < n → Counted (classes ++ x ∷ []) n
counted_old classes n x h lt = record {
  used = λ c l. let u = h.used c l in (u.0, got_front classes x c u.0 u.1);
  all = λ i c g. got_snoc classes x c i (λ j y. y < n) g h.all lt;
  few = (let l = length-append classes (x ∷ []) in let f = h.few in omega (arith, l, f));
}

taken_got : (xs : List ℕ) (k n x : ℕ) → n < k → slice_get xs n ≡ Some x → slice_get (take k xs) n ≡ Some x
taken_got [] k n x lt g = absurd (cc g)
taken_got (y ∷ xs) zero n x lt g = absurd (omega (arith, lt))
taken_got (y ∷ xs) (suc k) zero x lt g = g
taken_got (y ∷ xs) (suc k) (suc n) x lt g = taken_got xs k n x (omega (arith, lt)) g

-- a class is new, or was there before: none is left out
pub counted_next : (classes : List ℕ) (i n m : ℕ) → AreByFirst classes → i < length classes → Counted (take i classes) n
    → m ≡ (if slice_index_or classes i 0 == n then n + 1 else n) → Counted (take (i + 1) classes) m
counted_next classes i n m b lt h e =
    let x = slice_index_or classes i 0 in
    let next : suc i ≡ i + 1 = omega arith in
    let taken : take (i + 1) classes ≡ take i classes ++ x ∷ [] = ap (λ k. take k classes) (sym next) ∙ take-suc classes i 0 lt in
    subst (λ l. Counted l m) (sym taken)
    (⊎_elim
    (λ q.
    let em : m ≡ n + 1 = e ∙ ap (λ t. if t then n + 1 else n) (eq-eqb x n q) in
    subst (Counted (take i classes ++ x ∷ [])) (sym em) (subst (λ y. Counted (take i classes ++ y ∷ []) (n + 1)) (sym q) (counted_new (take i classes) n h)))
    (λ ne.
    let em : m ≡ n = e ∙ ap (λ t. if t then n + 1 else n) (ne_eqb x n ne) in
    let below : x < n = ⊎_elim
    (λ l. l)
    (λ ge.
    let k = b i x n (slice_get-get_or classes i 0 lt) (omega (arith, ge, ne)) in
    let a = h.all k.0 n (taken_got classes i k.0 n k.1 k.2) in
    absurd (omega (arith, a)))
    (cases_lt x n) in
    subst (Counted (take i classes ++ x ∷ [])) (sym em) (counted_old (take i classes) n x h below))
    (cases_eq x n))

-- so many classes there are, once all tables were seen
pub counted_all : (classes : List ℕ) (n : ℕ) → Counted classes n → IsClassCount classes n
counted_all classes n h = record { used = h.used; all = h.all }

-- THEIR TABLES

kinds_append : (f : ℕ → ℕ) (c n : ℕ) (ts : List TableDecl) (t : TableDecl)
    → kinds_from f c n (ts ++ t ∷ []) ≡ kinds_from f c n ts ++ (if f (n + length ts) == c then (n + length ts, t.kind) ∷ [] else [])
kinds_append f c n [] t =
    let z : n ≡ n + 0 = omega arith in
    ap (λ m. one_kind m) z
  where
    one_kind : ℕ → List (ℕ × TableKind)
    one_kind m = if f m == c then (m, t.kind) ∷ [] else []
kinds_append f c n (u ∷ ts) t =
    let z : suc n + length ts ≡ n + suc (length ts) = omega arith in
    by (f n == c)
    (kinds_append f c (suc n) ts t ∙ ap (λ m. kinds_from f c (suc n) ts ++ (if f m == c then (m, t.kind) ∷ [] else [])) z)
  where
    last : List (ℕ × TableKind)
    last = if f (n + suc (length ts)) == c then (n + suc (length ts), t.kind) ∷ [] else []

    by : (b : Bool) → kinds_from f c (suc n) (ts ++ t ∷ []) ≡ kinds_from f c (suc n) ts ++ last
        → (if b then (n, u.kind) ∷ kinds_from f c (suc n) (ts ++ t ∷ []) else kinds_from f c (suc n) (ts ++ t ∷ []))
        ≡ (if b then (n, u.kind) ∷ kinds_from f c (suc n) ts else kinds_from f c (suc n) ts) ++ last
    by true rest = ap (λ l. (n, u.kind) ∷ l) rest
    by false rest = rest

-- one table more, where it is of the class
pub kinds_next : (f : ℕ → ℕ) (c i x : ℕ) (b : Bool) (ts : List TableDecl) (t : TableDecl) (kinds kinds' : List (ℕ × TableKind)) → i < length ts
    → x ≡ f i → t ≡ get_or ts i t
    → b ≡ (x == c) → kinds ≡ kinds_from f c 0 (take i ts) → kinds' ≡ kinds ++ (if b then (i, t.kind) ∷ [] else []) → kinds' ≡ kinds_from f c 0 (take (i + 1) ts)
kinds_next f c i x b ts t kinds kinds' lt ex et eb h e =
    let next : suc i ≡ i + 1 = omega arith in
    let taken : take (i + 1) ts ≡ take i ts ++ t ∷ [] = ap (λ k. take k ts) (sym next) ∙ take-suc ts i t lt ∙ ap (λ y. take i ts ++ y ∷ []) (sym et) in
    let long : i ≡ 0 + length (take i ts) = taken_long ts i lt in
    e ∙ ap (λ l. l ++ (if b then (i, t.kind) ∷ [] else [])) h
    ∙ ap (λ y. kinds_from f c 0 (take i ts) ++ (if y then (i, t.kind) ∷ [] else [])) (eb ∙ ap (λ y. y == c) ex)
    ∙ ap (λ m. kinds_from f c 0 (take i ts) ++ (if f m == c then (m, t.kind) ∷ [] else [])) long
    ∙ sym (kinds_append f c 0 (take i ts) t) ∙ ap (kinds_from f c 0) (sym taken)
  where
    taken_long : (us : List TableDecl) (k : ℕ) → k < length us → k ≡ 0 + length (take k us)
    taken_long [] k l = absurd (omega (arith, l))
    taken_long (u ∷ us) zero l = refl
    taken_long (u ∷ us) (suc k) l = let r = taken_long us k (omega (arith, l)) in omega (arith, r)

-- by classes that are the same below the number of tables
kinds_same : (f g : ℕ → ℕ) (c n : ℕ) (ts : List TableDecl) → ((m : ℕ) → n ≤ m → m < n + length ts → f m ≡ g m) → kinds_from f c n ts ≡ kinds_from g c n ts
kinds_same f g c n [] h = refl
kinds_same f g c n (t ∷ ts) h =
    ap (λ b. if b == c then (n, t.kind) ∷ kinds_from f c (suc n) ts else kinds_from f c (suc n) ts) (h n (omega arith) (omega arith))
    ∙ ap (λ l. if g n == c then (n, t.kind) ∷ l else l) (kinds_same f g c (suc n) ts (λ m le lt. h m (omega (arith, le)) (omega (arith, lt))))

-- the tables of a class are told by the list of all classes
pub class_kinds_are : (p : PlanForm) (classes : List ℕ) (c : ℕ) → AreTableClasses p classes
    → kinds_from (λ n. slice_index_or classes n 0) c 0 p.tables ≡ class_kinds p c
class_kinds_are p classes c h =
    kinds_same (λ n. slice_index_or classes n 0) (table_class p) c 0 p.tables
    (λ m le lt. get_or_from_slice_get classes m (table_class p m) 0 (h.each m (omega (arith, lt))))

-- no table stands twice
all_behind : (f : ℕ → ℕ) (c n k : ℕ) (ts : List TableDecl) → n < k → (i : ℕ) (x : ℕ × TableKind) → slice_get (kinds_from f c k ts) i ≡ Some x → n < x.0
all_behind f c n k [] lt i x g = absurd (cc g)
all_behind f c n k (t ∷ ts) lt i x g = by (f k == c) (λ j e. all_behind f c n (suc k) ts (omega (arith, lt)) j x e) i g
  where
    by : (b : Bool) → ((j : ℕ) → slice_get (kinds_from f c (suc k) ts) j ≡ Some x → n < x.0)
        → (j : ℕ) → slice_get (if b then (k, t.kind) ∷ kinds_from f c (suc k) ts else kinds_from f c (suc k) ts) j ≡ Some x → n < x.0
    by true rest zero e = subst (λ (y : ℕ × TableKind). n < y.0) (same_Some (k, t.kind) x e) lt
    by true rest (suc j) e = rest j e
    by false rest j e = rest j e

-- no table of a class stands twice
pub kinds_distinct : (f : ℕ → ℕ) (c n : ℕ) (ts : List TableDecl) → AreDistinct (kinds_from f c n ts)
kinds_distinct f c n [] = λ i j d li lj. absurd (omega (arith, lj))
kinds_distinct f c n (t ∷ ts) = by (f n == c) (kinds_distinct f c (suc n) ts)
  where
    by : (b : Bool) → AreDistinct (kinds_from f c (suc n) ts) → AreDistinct (if b then (n, t.kind) ∷ kinds_from f c (suc n) ts else kinds_from f c (suc n) ts)
    by false rest i j d li lj = rest i j d li lj
    by true rest i zero d li lj = absurd (omega (arith, li))
    by true rest zero (suc j) d li lj =
        let a = all_behind f c n (suc n) ts (omega arith) j _ (slice_get-get_or (kinds_from f c (suc n) ts) j d (omega (arith, lj))) in
        λ e. omega (arith, a, e)
    by true rest (suc i) (suc j) d li lj = rest i j d (omega (arith, li)) (omega (arith, lj))

-- THE CELLS

-- the cells of the first classes, which are empty
pub record CellsSoFar (p : PlanForm) (n : ℕ) (cells : List Holding) : Type 0 where
  pub many : length cells ≡ n
  pub kinds : (c : ℕ) (x : Holding) → slice_get cells c ≡ Some x → x.kinds ≡ class_kinds p c
  pub blank : (c : ℕ) (x : Holding) → slice_get cells c ≡ Some x → x.log ≡ []

-- before the first class there is none
pub cells_none : (p : PlanForm) (cells : List Holding) → cells ≡ [] → CellsSoFar p 0 cells
cells_none p cells e = subst (CellsSoFar p 0) (sym e) (record { many = refl; kinds = λ c x g. absurd (cc g); blank = λ c x g. absurd (cc g) })

-- one cell more
pub cells_more : (p : PlanForm) (n : ℕ) (cells cells' : List Holding) (x : Holding) → CellsSoFar p n cells → x ≡ record { kinds = class_kinds p n; log = [] }
    → cells' ≡ cells ++ x ∷ []
    → CellsSoFar p (n + 1) cells'
cells_more p n cells cells' x h ex e = subst (CellsSoFar p (n + 1)) (sym e) (record {
  many = (let l = length-append cells (x ∷ []) in let m = h.many in omega (arith, l, m));
  kinds = λ c y g. got_snoc cells x y c (λ i z. z.kinds ≡ class_kinds p i) g h.kinds (ap (λ (z : Holding). z.kinds) ex ∙ ap (class_kinds p) (sym h.many));
  blank = λ c y g. got_snoc cells x y c (λ i z. z.log ≡ []) g h.blank (ap (λ (z : Holding). z.log) ex);
})

-- cells of all classes, one after another, are the cells of the plan's classes
pub cells_are : (p : PlanForm) (classes : List ℕ) (n : ℕ) (cells : List Holding) → AreTableClasses p classes → IsClassCount classes n
    → CellsSoFar p n cells → AreClassCells p cells
cells_are p classes n cells h k s = record {
  kinds = s.kinds;
  all = λ m lt. let a = k.all m (table_class p m) (h.each m lt) in let l = s.many in omega (arith, a, l);
  used = λ c lt.
      let m = s.many in
      let u = k.used c (omega (arith, lt, m)) in
      let long = h.many in
      let w = slice_get_within classes u.0 c u.1 in
      let lu : u.0 < length p.tables = omega (arith, w, long) in
      (u.0, lu, same_Some (table_class p u.0) c (sym (h.each u.0 lu) ∙ u.1));
}

-- nothing was added to them
pub cells_blank : (p : PlanForm) (n : ℕ) (cells : List Holding) → CellsSoFar p n cells → All (λ (x : Holding). x.log ≡ []) cells
cells_blank p n cells s k d lt = s.blank k (get_or cells k d) (slice_get-get_or cells k d lt)
