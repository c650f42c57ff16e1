-- The rows of a firing come to the logs of the cells.
use Rattle.std.proofs.Common.{◌≡◌, ℕ, ℤ, zero, suc, ◌+◌, ◌≤◌, ◌==◌, Bool, true, false, Some, List, [], ◌∷◌, ◌++◌, length, refl, sym, ap, ◌∙◌, subst, arith, ⊎_elim, eq-eqb, None}
use Rattle.std.specs.Prelude.{All, slice_get, slice_index_or, replicate, if◌then◌else◌}
use Rattle.std.proofs.lemmas.Bool.{cases_lt}
use Rattle.std.proofs.lemmas.List.Elements.{All-append}
use Rattle.std.proofs.lemmas.Option.{slice_get_within, get_or_from_slice_get, same_Some}
use Rattle.river_base.proofs.Lists.{there_is}
use Rattle.river_base.specs.Places.{list_at}
use Rattle.river_plan.specs.declared.plan.TableDecl.{TableDecl}
use Rattle.river_plan.specs.Forms.{PlanForm}
use Rattle.river_plan.specs.Valid.{IsPlan}
use Rattle.class_locks.specs.Logs.{Holding, HasKind}
use Rattle.fire_tasks.specs.declared.task.Task.{Task}
use Rattle.fire_tasks.specs.declared.task.TablePort.{TablePort}
use Rattle.fire_tasks.specs.Adds.{AreHomes, IsEntryOf, added, logs_of, table_class}
use Rattle.fire_tasks.specs.Rows.{CanAddTo, cells_grown}
use Rattle.fire_tasks.specs.Tasks.{HasWord, IsTask}
use Rattle.fire_tasks.specs.Turns.{AreRowsFor, HasFiredAt, Owes, logged, without_rows}
use Rattle.fire_tasks.proofs.AddLemmas.{added_else, added_more, entries_logged, logged_none, logged_own}
use Rattle.fire_tasks.proofs.CellLemmas.{grown_long, grown_log}
use Rattle.fire_tasks.proofs.TaskLemmas.{with_adds, with_adds_word, tables_many}
use Rattle.fire_open.specs.Homes.{AreClassCells, kinds_from}
use Rattle.fire_run.specs.Cells.{HaveAdded}

-- WHERE THE ROWS GO

kinds_has : (f : ℕ → ℕ) (c n m : ℕ) (ts : List TableDecl) (t : TableDecl) → slice_get ts m ≡ Some t → f (n + m) ≡ c
    → (i : ℕ) × (slice_get (kinds_from f c n ts) i ≡ Some (n + m, t.kind))
kinds_has f c n m [] t g e = absurd (cc g)
kinds_has f c n zero (u ∷ ts) t g e =
    let z : n + 0 ≡ n = omega arith in
    let same : u ≡ t = same_Some u t g in
    let hit : (f n == c) ≡ true = eq-eqb (f n) c (ap f (sym z) ∙ e) in (
      0,
      ap (λ b. slice_get (if b then (n, u.kind) ∷ kinds_from f c (suc n) ts else kinds_from f c (suc n) ts) 0) hit
          ∙ ap (λ (x : TableDecl). Some (n, x.kind)) same ∙ ap (λ k. Some (k, t.kind)) (sym z),
    )
kinds_has f c n (suc m) (u ∷ ts) t g e =
    let z : suc n + m ≡ n + suc m = omega arith in
    let r = kinds_has f c (suc n) m ts t g (ap f z ∙ e) in
    by (f n == c) (r.0, r.1 ∙ ap (λ k. Some (k, t.kind)) z)
  where
    by : (b : Bool) → (i : ℕ) × (slice_get (kinds_from f c (suc n) ts) i ≡ Some (n + suc m, t.kind))
        → (i : ℕ) × (slice_get (if b then (n, u.kind) ∷ kinds_from f c (suc n) ts else kinds_from f c (suc n) ts) i ≡ Some (n + suc m, t.kind))
    by true r = (suc r.0, r.1)
    by false r = r

-- the table of this number is in the cell of its class
pub class_has : (p : PlanForm) (cells : List Holding) (n : ℕ) (t : TableDecl) → AreClassCells p cells → slice_get p.tables n ≡ Some t
    → (x : Holding) × (slice_get cells (table_class p n) ≡ Some x) × HasKind x.kinds n t.kind
class_has p cells n t h g =
    let x = there_is cells (table_class p n) (h.all n (slice_get_within p.tables n t g)) in
    let z : 0 + n ≡ n = omega arith in
    let k = kinds_has (table_class p) (table_class p n) 0 n p.tables t g (ap (table_class p) z) in
    (x.0, x.1, record { place = k.0; there = ap (λ ks. slice_get ks k.0) (h.kinds (table_class p n) x.0 x.1) ∙ k.1 ∙ ap (λ m. Some (m, t.kind)) z })

pub can_add_to : (p : PlanForm) (o : ℕ) (tables : List TablePort) (classes : List ℕ) (rows : ℕ → List (List ℤ)) (cells : List Holding)
    → AreHomes p o tables classes
    → AreRowsFor p tables rows → AreClassCells p cells → CanAddTo tables classes rows cells
can_add_to p o tables classes rows cells homes wide h = record {
  there = λ j x g. slice_get_within classes x.place (table_class p x.table) (homes.places_are j x g);
  each = λ j x g.
      let d = wide.wide j x g in
      let c = get_or_from_slice_get classes x.place (table_class p x.table) 0 (homes.places_are j x g) in
      let y = class_has p cells x.table d.0 h d.1 in
      (y.0, ap (slice_get cells) c ∙ y.1, record { kind = d.0.kind; has = y.2; wide = d.2 });
}

-- what a firing owes can be added
pub owed : (p : PlanForm) (t t1 : Task) (cells : List Holding) → IsTask p (added p (logs_of cells) t.op) t → HasFiredAt p t t1 → AreClassCells p cells
    → CanAddTo t1.tables t1.classes (list_at t1.out.adds) cells
owed p t t1 cells k f h =
    can_add_to p t.op t1.tables t1.classes (list_at t1.out.adds) cells
    (subst (λ hs. AreHomes p t.op hs t1.classes) (sym f.homes.0) (subst (λ cs. AreHomes p t.op t.tables cs) (sym f.homes.1) k.homes))
    (f.owes (added p (logs_of cells) t.op) k).rows h

-- THE TASK AFTERWARDS

-- what came to the logs
logs_now : (p : PlanForm) (o : ℕ) (tables : List TablePort) (classes : List ℕ) (rows : ℕ → List (List ℤ)) (cells0 cells : List Holding)
    → CanAddTo tables classes rows cells0
    → cells ≡ cells_grown (logged o classes tables rows) 0 cells0 → (c : ℕ) → logs_of cells c ≡ logs_of cells0 c ++ logged o classes tables rows c
logs_now p o tables classes rows cells0 cells can e c = ap (λ l. logs_of l c) e ∙ ⊎_elim
    (λ lt. let z : 0 + c ≡ c = omega arith in grown_log (logged o classes tables rows) 0 cells0 c lt
    ∙ ap (λ n. logs_of cells0 c ++ logged o classes tables rows n) z)
    (λ ge.
    let none = logged_none o classes tables rows c
    (λ j h g q. let x = can.each j h g in let w = slice_get_within cells0 (slice_index_or classes h.place 0) x.0 x.1 in omega (arith, w, q, ge)) in
    beyond (cells_grown (logged o classes tables rows) 0 cells0) c (let l = grown_long (logged o classes tables rows) 0 cells0 in omega (arith, l, ge))
    ∙ sym (ap (λ l. l ++ logged o classes tables rows c) (beyond cells0 c ge) ∙ none))
    (cases_lt c (length cells0))
  where
    beyond : (xs : List Holding) (i : ℕ) → length xs ≤ i → logs_of xs i ≡ []
    beyond [] i le = refl
    beyond (x ∷ xs) zero le = absurd (omega (arith, le))
    beyond (x ∷ xs) (suc i) le = beyond xs i (omega (arith, le))

module _ (p : PlanForm) (v : IsPlan p) (t t1 : Task) (cells0 cells : List Holding) (k : IsTask p (added p (logs_of cells0) t.op) t) (f : HasFiredAt p t t1)
    (can : CanAddTo t1.tables t1.classes (list_at t1.out.adds) cells0)
    (e : cells ≡ cells_grown (logged t.op t1.classes t1.tables (list_at t1.out.adds)) 0 cells0) where
  owes : Owes p (added p (logs_of cells0) t.op) t1
  owes = f.owes (added p (logs_of cells0) t.op) k

  homes : AreHomes p t.op t1.tables t1.classes
  homes = subst (λ hs. AreHomes p t.op hs t1.classes) (sym f.homes.0) (subst (λ cs. AreHomes p t.op t.tables cs) (sym f.homes.1) k.homes)

  logs : (c : ℕ) → logs_of cells c ≡ logs_of cells0 c ++ logged t.op t1.classes t1.tables (list_at t1.out.adds) c
  logs = logs_now p t.op t1.tables t1.classes (list_at t1.out.adds) cells0 cells can e

  -- the task keeps its facts, with the rows of this firing
  pub task_after : (adds : List (List (List ℤ))) → adds ≡ replicate (length t1.out.adds) []
      → IsTask p (added p (logs_of cells) t.op) (record t1 { out = record { outs = t1.out.outs; adds = adds } })
  unfolding owes homes logs
  task_after adds b =
      subst (λ a. IsTask p (added p (logs_of cells) t.op) (record t1 { out = record { outs = t1.out.outs; adds = a } })) (sym b)
      (with_adds p (λ j. added p (logs_of cells0) t.op j ++ list_at t1.out.adds j) (added p (logs_of cells) t.op) (without_rows t1) owes.task (λ j lt.
      let m = tables_many p v (without_rows t1) (λ i. added p (logs_of cells0) t.op i ++ list_at t1.out.adds i) owes.task in
      let h = there_is t1.tables j (omega (arith, m, lt)) in
      added_more p v t.op k.op k.op_is t1.tables t1.classes homes (logs_of cells0) (logs_of cells) (list_at t1.out.adds) logs j h.0 h.1))

  -- and it fired on that item behind all before
  pub word_after : (adds : List (List (List ℤ))) → adds ≡ replicate (length t1.out.adds) [] → t1.bad ≡ None
      → HasWord p (added p (logs_of cells) t.op) (record t1 { out = record { outs = t1.out.outs; adds = adds } }) (k.word ++ (f.did.port, f.did.item) ∷ [])
  unfolding homes logs
  word_after adds b none =
      let w = k.word ++ (f.did.port, f.did.item) ∷ [] in
      let h = f.word none (added p (logs_of cells0) t.op) k in
      subst (λ a. HasWord p (added p (logs_of cells) t.op) (record t1 { out = record { outs = t1.out.outs; adds = a } }) w) (sym b)
      (with_adds_word p (λ j. added p (logs_of cells0) t.op j ++ list_at t1.out.adds j) (added p (logs_of cells) t.op) (without_rows t1) w h (λ j lt.
      let m = tables_many p v (without_rows t1) (λ i. added p (logs_of cells0) t.op i ++ list_at t1.out.adds i) h.task in
      let x = there_is t1.tables j (omega (arith, m, lt)) in
      added_more p v t.op k.op k.op_is t1.tables t1.classes homes (logs_of cells0) (logs_of cells) (list_at t1.out.adds) logs j x.0 x.1))

  -- what came to the cells is the operator's
  pub added_after : HaveAdded p t.op cells0 cells
  unfolding owes homes logs
  added_after = record {
    more = logged t.op t1.classes t1.tables (list_at t1.out.adds);
    is = e;
    others = λ n ne j. added_else p (logs_of cells0) (logs_of cells) (logged t.op t1.classes t1.tables (list_at t1.out.adds)) t.op n logs
        (logged_own t.op t1.classes t1.tables (list_at t1.out.adds)) ne j;
    entries = λ old c. subst (All (IsEntryOf p c)) (sym (logs c))
        (All-append (IsEntryOf p c) (logs_of cells0 c) (logged t.op t1.classes t1.tables (list_at t1.out.adds) c) (old c)
        (entries_logged p v t.op k.op k.op_is t1.tables t1.classes homes (list_at t1.out.adds) c));
  }
