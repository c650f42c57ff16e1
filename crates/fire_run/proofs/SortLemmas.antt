-- The tables of cells come to their places.
use Rattle.std.proofs.Common.{Vec, Global, ◌≡◌, ◌≢◌, ℕ, zero, suc, ◌+◌, ◌-◌, ◌<◌, ◌==◌, ⊎_elim, Some, List, [], ◌∷◌, ◌++◌, length, take, map, refl, sym, ap, ◌∙◌}
use Rattle.std.proofs.Common.{arith, subst, get_or, set, eq-eqb, ne_eqb}
use Rattle.std.specs.Prelude.{slice_get, slice_index_or, if◌then◌else◌}
use Rattle.std.proofs.lemmas.Bool.{cases_eq}
use Rattle.std.proofs.lemmas.List.{append-nil, length-map, length-set, map-append, take_all, same_from_push, length-take-le}
use Rattle.std.proofs.lemmas.Option.{get_or_from_slice_get, slice_get_within, same_Some}
use Rattle.river_base.proofs.Lists.{there_is, got_map}
use Rattle.river_base.specs.Places.{list_at}
use Rattle.kern_tables.specs.declared.kind.TableKind.{TableKind}
use Rattle.kern_tables.specs.declared.kept.Aggregate.{Aggregate}
use Rattle.river_plan.specs.declared.plan.TableDecl.{TableDecl}
use Rattle.river_plan.specs.Forms.{PlanForm}
use Rattle.class_locks.specs.declared.log.LogEntry.{LogEntry}
use Rattle.class_locks.specs.Logs.{Holding, replay}
use Rattle.fire_tasks.specs.Adds.{logs_of, table_class}
use Rattle.fire_open.specs.Homes.{AreTableClasses, AreClassCells, kinds_from, class_kinds}
use Rattle.fire_open.proofs.ClassLemmas.{kinds_next, class_kinds_are}
use Rattle.fire_open.proofs.Lists.{set_got_same, set_got_other}
use Rattle.fire_run.specs.Closed.{AreInClassLists, ArePlaced, tables_at}

-- LISTS AT CLASSES

-- the list at a class
pub at_here : (ls : List (Vec Aggregate Global)) (c : ℕ) (d : Vec Aggregate Global) → c < length ls → tables_at ls c ≡ (get_or ls c d).items
at_here [] c d lt = absurd (omega (arith, lt))
at_here (l ∷ ls) zero d lt = refl
at_here (l ∷ ls) (suc c) d lt = at_here ls c d (omega (arith, lt))

-- and what was put there
pub at_same : (ls : List (Vec Aggregate Global)) (c : ℕ) (v : Vec Aggregate Global) → c < length ls → tables_at (set ls c v) c ≡ v.items
at_same [] c v lt = absurd (omega (arith, lt))
at_same (l ∷ ls) zero v lt = refl
at_same (l ∷ ls) (suc c) v lt = at_same ls c v (omega (arith, lt))

-- the other lists stay
pub at_other : (ls : List (Vec Aggregate Global)) (c e : ℕ) (v : Vec Aggregate Global) → e ≢ c → tables_at (set ls c v) e ≡ tables_at ls e
at_other [] c e v ne = refl
at_other (l ∷ ls) zero zero v ne = absurd (ne refl)
at_other (l ∷ ls) zero (suc e) v ne = refl
at_other (l ∷ ls) (suc c) zero v ne = refl
at_other (l ∷ ls) (suc c) (suc e) v ne = at_other ls c e v (λ q. ne (ap suc q))

snoc_some : {A : Type 0} (xs : List A) (x : A) → xs ++ x ∷ [] ≡ [] → ⊥
snoc_some [] x e = cc e
snoc_some (y ∷ xs) x e = cc e

-- FROM THE LAST TABLE TO THE FIRST

-- the first n tables stand in the lists of their classes, and the others at their places
pub record Going (class : ℕ → ℕ) (logs : ℕ → List LogEntry) (n : ℕ) (decls : List TableDecl) (lists : List (Vec Aggregate Global))
    (tables : List Aggregate) : Type 0 where
  pub sorted : AreInClassLists class logs (take n decls) lists
  pub placed : ArePlaced class logs n decls tables

-- at first all tables stand in lists
pub going_first : (class : ℕ → ℕ) (logs : ℕ → List LogEntry) (n : ℕ) (decls : List TableDecl) (lists : List (Vec Aggregate Global)) (tables : List Aggregate)
    → AreInClassLists class logs decls lists → length tables ≡ length decls → n ≡ length decls → Going class logs n decls lists tables
going_first class logs n decls lists tables s l e = record {
  sorted = subst (λ ds. AreInClassLists class logs ds lists) (sym (take_all n decls (omega (arith, e)))) s;
  placed = record { many = l; each = λ m t le g. absurd (let w = slice_get_within decls m t g in omega (arith, w, le, e)) };
}

-- the next table is the last of those that are not placed
pub turn_of : (class : ℕ → ℕ) (logs : ℕ → List LogEntry) (count back k : ℕ) (decls : List TableDecl) (lists : List (Vec Aggregate Global)) (tables : List Aggregate)
    → Going class logs (count - back) decls lists tables → back < count → k ≡ count - 1 - back → Going class logs (k + 1) decls lists tables
turn_of class logs count back k decls lists tables g lt e = subst (λ n. Going class logs n decls lists tables) (omega (arith, lt, e)) g

module _ (class : ℕ → ℕ) (logs : ℕ → List LogEntry) (k : ℕ) (decls : List TableDecl) (lists : List (Vec Aggregate Global))
    (tables : List Aggregate) (lt : k < length decls) (g : Going class logs (k + 1) decls lists tables) where
  decl : (t : TableDecl) × (slice_get decls k ≡ Some t)
  decl = there_is decls k lt

  first_kinds : ℕ → List (ℕ × TableKind)
  first_kinds c = kinds_from class c 0 (take k decls)

  step : (c : ℕ) (t : TableDecl) → slice_get decls k ≡ Some t
      → kinds_from class c 0 (take (k + 1) decls) ≡ kinds_from class c 0 (take k decls) ++ (if class k == c then (k, t.kind) ∷ [] else [])
  step c t gt =
      sym (kinds_next class c k (class k) (class k == c) decls t (kinds_from class c 0 (take k decls))
      (kinds_from class c 0 (take k decls) ++ (if class k == c then (k, t.kind) ∷ [] else [])) lt refl
      (sym (get_or_from_slice_get decls k t t gt)) refl refl refl)

  -- the class of the table is there
  pub class_there : class k < length lists
  class_there = let l = length-take-le (k + 1) decls (omega (arith, lt)) in g.sorted.there k (omega (arith, l))

  last_is : (t : TableDecl) → slice_get decls k ≡ Some t
      → tables_at lists (class k) ≡ map (replay (logs (class k))) (kinds_from class (class k) 0 (take k decls)) ++ replay (logs (class k)) (k, t.kind) ∷ []
  last_is t gt =
      let r = replay (logs (class k)) in
      g.sorted.each (class k) class_there
      ∙ ap (map r) (step (class k) t gt
      ∙ ap (λ b. kinds_from class (class k) 0 (take k decls) ++ (if b then (k, t.kind) ∷ [] else [])) (eq-eqb (class k) (class k) refl))
      ∙ map-append r (kinds_from class (class k) 0 (take k decls)) ((k, t.kind) ∷ [])

  -- and has a table
  pub some_there : tables_at lists (class k) ≡ [] → ⊥
  some_there e = snoc_some _ _ (sym (last_is decl.0 decl.1) ∙ e)

  -- one table more comes to its place
  pub going_next : (lists' : List (Vec Aggregate Global)) (x : Aggregate) → length lists' ≡ length lists
      → tables_at lists (class k) ≡ tables_at lists' (class k) ++ x ∷ [] → ((c : ℕ) → c ≢ class k → tables_at lists' c ≡ tables_at lists c)
      → Going class logs k decls lists' (set tables k x)
  going_next lists' x long last others =
      let parts = same_from_push (tables_at lists' (class k)) (map (replay (logs (class k))) (kinds_from class (class k) 0 (take k decls))) x
      (replay (logs (class k)) (k, decl.0.kind)) (sym last ∙ last_is decl.0 decl.1) in
      let l0 = length-take-le k decls (omega (arith, lt)) in
      let l1 = length-take-le (k + 1) decls (omega (arith, lt)) in
      let many = g.placed.many in
      record {
        sorted = record {
          there = λ m lm. let a = g.sorted.there m (omega (arith, lm, l0, l1)) in omega (arith, a, long);
          each = λ c lc. ⊎_elim
              (λ e. subst (λ d. tables_at lists' d ≡ map (replay (logs d)) (kinds_from class d 0 (take k decls))) (sym e) parts.0)
              (λ ne.
              others c ne ∙ g.sorted.each c (omega (arith, lc, long))
              ∙ ap (map (replay (logs c))) (step c decl.0 decl.1
              ∙ ap (λ b. kinds_from class c 0 (take k decls) ++ (if b then (k, decl.0.kind) ∷ [] else [])) (ne_eqb (class k) c (λ q. ne (sym q)))
              ∙ append-nil (kinds_from class c 0 (take k decls))))
              (cases_eq c (class k));
        };
        placed = record {
          many = length-set tables k x ∙ many;
          each = λ m t le gm. ⊎_elim
              (λ e.
              let et : decl.0 ≡ t = same_Some decl.0 t (sym decl.1 ∙ ap (slice_get decls) e ∙ gm) in
              ap (slice_get (set tables k x)) (sym e) ∙ set_got_same tables k x (omega (arith, many, lt))
              ∙ ap Some (parts.1 ∙ ap (λ (y : TableDecl). replay (logs (class k)) (k, y.kind)) et ∙ ap (λ i. replay (logs (class i)) (i, t.kind)) e))
              (λ ne. set_got_other tables k m x ne ∙ g.placed.each m t (omega (arith, le, ne)) gm)
              (cases_eq k m);
        };
      }

-- at the end all are placed
pub going_end : (class : ℕ → ℕ) (logs : ℕ → List LogEntry) (n : ℕ) (decls : List TableDecl) (lists : List (Vec Aggregate Global)) (tables : List Aggregate)
    → Going class logs n decls lists tables → n ≡ 0 → ArePlaced class logs 0 decls tables
going_end class logs n decls lists tables g e = subst (λ m. ArePlaced class logs m decls tables) e g.placed

-- BY THE LIST OF ALL CLASSES

-- the lists of a plan's tables, by the list of their classes
pub sorted_by : (p : PlanForm) (classes : List ℕ) (logs : ℕ → List LogEntry) (lists : List (Vec Aggregate Global)) → AreTableClasses p classes
    → AreInClassLists (table_class p) logs p.tables lists → AreInClassLists (λ n. slice_index_or classes n 0) logs p.tables lists
sorted_by p classes logs lists h s = record {
  there = λ m lm.
      let a = s.there m lm in
      let e = get_or_from_slice_get classes m (table_class p m) 0 (h.each m lm) in
      omega (arith, a, e);
  each = λ c lc. s.each c lc ∙ ap (map (replay (logs c))) (sym (class_kinds_are p classes c h));
}

-- and the tables at their places
pub placed_by : (p : PlanForm) (classes : List ℕ) (logs : ℕ → List LogEntry) (tables : List Aggregate) → AreTableClasses p classes
    → ArePlaced (λ n. slice_index_or classes n 0) logs 0 p.tables tables → ArePlaced (table_class p) logs 0 p.tables tables
placed_by p classes logs tables h s = record {
  many = s.many;
  each = λ m t le g. s.each m t le g
      ∙ ap (λ c. Some (replay (logs c) (m, t.kind))) (get_or_from_slice_get classes m (table_class p m) 0 (h.each m (slice_get_within p.tables m t g)));
}

-- the tables of cells stand in the lists of their classes
pub cells_sorted : (p : PlanForm) (cells : List Holding) (lists : List (Vec Aggregate Global)) → AreClassCells p cells
    → map (λ (l : Vec Aggregate Global). l.items) lists ≡ map (λ (x : Holding). map (replay x.log) x.kinds) cells
    → AreInClassLists (table_class p) (logs_of cells) p.tables lists
cells_sorted p cells lists h e =
    let long : length lists ≡ length cells = sym (length-map lists (λ (l : Vec Aggregate Global). l.items)) ∙ ap length e
    ∙ length-map cells (λ (x : Holding). map (replay x.log) x.kinds) in
    record {
      there = λ m lm. let a = h.all m lm in omega (arith, a, long);
      each = λ c lc.
          let x = there_is cells c (omega (arith, lc, long)) in
          ap (λ l. list_at l c) e
          ∙ get_or_from_slice_get (map (λ (y : Holding). map (replay y.log) y.kinds) cells) c (map (replay x.0.log) x.0.kinds) []
          (got_map (λ (y : Holding). map (replay y.log) y.kinds) cells c x.0 x.1)
          ∙ ap (λ ks. map (replay x.0.log) ks) (h.kinds c x.0 x.1)
          ∙ ap (λ l. map (replay l) (class_kinds p c))
          (sym (get_or_from_slice_get (map (λ (y : Holding). y.log) cells) c x.0.log [] (got_map (λ (y : Holding). y.log) cells c x.0 x.1)));
    }
