-- Units that are judged one after another.
use Rattle.std.proofs.Common.{◌≡◌, ℕ, suc, ◌+◌, ◌<◌, ◌≤◌, List, [], ◌∷◌, ◌++◌, length, take, drop, map, get_or, Result, Ok, Err, refl, sym, ap, ◌∙◌}
use Rattle.std.proofs.Common.{append_assoc, append-nil, add-one, nat_lt, nat_le}
use Rattle.std.proofs.lemmas.List.{map-append}
use Rattle.std.proofs.Math.Seq.{take-append_seam}
use Rattle.work_code.proofs.Texts.{joined-in_turn}
use Rattle.river_base.proofs.Lists.{map_next, map_none}
use Rattle.work_code.specs.declared.code.Stmt.{Stmt}
use Rattle.work_code.specs.declared.code.Stmts.{Stmts}
use Rattle.work_code.specs.Steps.{Steps, Done, step, statements, in_turn, both_steps}
use Rattle.kern_tables.specs.declared.kind.TableKind.{TableKind}
use Rattle.river_plan.specs.Forms.{Name}
use Rattle.saw_text.specs.Tree.{UnitForm, Program}
use Rattle.saw_model.specs.declared.fault.Fault.{Fault}
use Rattle.saw_model.specs.declared.fault.Refusal.{Refusal}
use Rattle.saw_model.specs.Elaborate.{At, Read, on_ok, demand, find, Port, is_new, is_best, keys_in, tabled, table_of, unit_judged}
use Rattle.saw_model.specs.declared.fault.Fault.TheVariants as spec
use Rattle.saw_model.specs.Judged.{on_fine, in_unit, units_judged}
use Rattle.saw_text.specs.declared.tree.Unit as written
use Rattle.saw_text.specs.Tree.{unit_form, unit_forms}
use Rattle.saw_front.specs.declared.judge.Judge.{Judge}
use Rattle.saw_front.specs.declared.refused.Refused.TheVariants.{Program as RefusedProgram}
use Rattle.saw_front.specs.declared.refused.RefusedUnit.{RefusedUnit}
use Rattle.saw_front.specs.declared.refused.RefusedUnit.TheVariants as why
use Rattle.saw_front.specs.declared.names.Known.TheVariants as known
use Rattle.saw_front.specs.Judging.{at_of, fits_of, Reads, ReadsTable, JudgesAll}
use Rattle.saw_front.specs.Planning.{IsWhyRefused}
use Rattle.saw_front.specs.Valued.{AreValuedUnits}
use Rattle.saw_front.specs.View.{scope_of}
use Rattle.saw_front.proofs.Scopes.{scope-push}
use Rattle.saw_front.proofs.SoFar.{good, joined-done, joined-assoc}

-- A TABLE

both_tests : {A B : Type 0} (r1 r2 r3 r4 : Result (Unit {0}) Fault) (k k' : A) (y : B)
    → on_ok r1 (λ u. on_ok r2 (λ v. on_ok r3 (λ w. on_ok r4 (λ x. good k)))) ≡ Ok k'
    → (on_ok r1 (λ u. on_ok r2 (λ v. on_ok r3 (λ w. on_ok r4 (λ x. good y)))) ≡ Ok y) × (k ≡ k')
both_tests (Ok a) (Ok b) (Ok c) (Ok d) k k' y h = (refl, cc)
both_tests (Ok a) (Ok b) (Ok c) (Err e) k k' y h = absurd (cc h)
both_tests (Ok a) (Ok b) (Err e) r4 k k' y h = absurd (cc h)
both_tests (Ok a) (Err e) r3 r4 k k' y h = absurd (cc h)
both_tests (Err e) r2 r3 r4 k k' y h = absurd (cc h)

one_fails : {A B : Type 0} (r1 r2 r3 r4 : Result (Unit {0}) Fault) (k : A) (y : B) (g : Fault)
    → on_ok r1 (λ u. on_ok r2 (λ v. on_ok r3 (λ w. on_ok r4 (λ x. good k)))) ≡ Err g
    → on_ok r1 (λ u. on_ok r2 (λ v. on_ok r3 (λ w. on_ok r4 (λ x. good y)))) ≡ Err g
one_fails (Ok a) (Ok b) (Ok c) (Ok d) k y g h = absurd (cc h)
one_fails (Ok a) (Ok b) (Ok c) (Err e) k y g h = ap Err (let q : e ≡ g = cc in q)
one_fails (Ok a) (Ok b) (Err e) r4 k y g h = ap Err (let q : e ≡ g = cc in q)
one_fails (Ok a) (Err e) r3 r4 k y g h = ap Err (let q : e ≡ g = cc in q)
one_fails (Err e) r2 r3 r4 k y g h = ap Err (let q : e ≡ g = cc in q)

module _ (n : Name) (k : TableKind) (s : At) where
  abbrev one : Result (Unit {0}) Fault
  one = is_new (find s.scope n)

  abbrev two : Result (Unit {0}) Fault
  two = demand (nat_lt s.tables 64) spec.Limit

  abbrev three : Result (Unit {0}) Fault
  three = demand (is_best k) spec.Limit

  abbrev four : Result (Unit {0}) Fault
  four = demand (nat_le (keys_in k) 8) spec.Limit

  -- a table that fits is known from here on
  pub table_made : (k' : TableKind) (now next : Judge) → s ≡ at_of now → fits_of s n k ≡ Ok k'
      → next.names.items.items ≡ now.names.items.items ++ (n, known.Table now.tables k') ∷ []
      → next.slots ≡ now.slots → next.size ≡ now.size → next.tables ≡ now.tables + 1 → ReadsTable (Ok tt) now next (table_of n k s)
  table_made k' now next is h names slots size tables =
      let b = both_tests one two three four k k' (tabled n k s) h in
      let scope : (n, Port s.tables k) ∷ s.scope ≡ scope_of next.names.items.items =
      (λ i. (n, Port (is i).tables (b.1 i)) ∷ (is i).scope) ∙ sym (scope-push now.names.items.items (n, known.Table now.tables k')) ∙ ap scope_of (sym names) in
      let at : record s { scope = (n, Port s.tables k) ∷ s.scope; tables = s.tables + 1 } ≡ at_of next =
      λ i. record {
        scope = scope i;
        slots = (ap (λ (a : At). a.slots) is ∙ sym slots) i;
        size = (ap (λ (a : At). a.size) is ∙ sym size) i;
        tables =
            (ap (λ (a : At). a.tables + 1) is ∙ sym tables) i;
      } in (
        b.0 ∙ ap (λ a. good (Done, a)) at,
        ap (take (length now.names.items.items)) names
            ∙ take-append_seam now.names.items.items ((n, known.Table now.tables k') ∷ []),
      )

  -- one that does not is refused
  pub table_fault : (f : Fault) → fits_of s n k ≡ Err f → table_of n k s ≡ Err f
  table_fault f h = one_fails one two three four k (tabled n k s) f h

-- a table is a unit without a statement
pub table_reads : (result : Result (Unit {0}) RefusedUnit) (out : Stmts) (now next : Judge) (r : Read) → ReadsTable result now next r
    → Reads result out out now next r
table_reads (Ok u) out now next r h = ([], sym (append-nil (statements out)), h.0, h.1)
table_reads (Err f) out now next r h = h

-- UNITS

abbrev Parts : Type 0
Parts = Result (Steps × At) Refusal

abbrev fine : Steps × At → Parts
fine q = Ok q

abbrev pub behind_parts : Steps → Parts → Parts
behind_parts a r = on_fine r (λ q. Ok (both_steps a q.0, q.1))

parts-none : (r : Parts) → r ≡ behind_parts Done r
parts-none (Ok q) = refl
parts-none (Err e) = refl

parts-both : (a b : Steps) (r : Parts) → behind_parts a (behind_parts b r) ≡ behind_parts (both_steps a b) r
parts-both a b (Ok q) = ap (λ s. fine (s, q.1)) (sym (joined-assoc a b q.0))
parts-both a b (Err e) = refl

-- what was read of the units so far, and what is to be read, is what is read of all
pub record PartsSoFar (whole : Parts) (i : ℕ) (rest : Program) (now : Judge) (out out' : Stmts) : Type 0 where
  pub added : List Stmt
  pub grew : statements out' ≡ statements out ++ added
  pub whole_is : whole ≡ behind_parts (in_turn (map step added)) (units_judged (i + 1) rest (at_of now))
  pub valued : AreValuedUnits rest

-- before the first unit
pub parts_start : (p : Program) (now : Judge) (out : Stmts) → AreValuedUnits p → PartsSoFar (units_judged 1 p (at_of now)) 0 p now out out
parts_start p now out v = record { added = []; grew = sym (append-nil (statements out)); whole_is = parts-none (units_judged 1 p (at_of now)); valued = v }

module _ (whole : Parts) (i : ℕ) (c : UnitForm) (rest : Program) (now next : Judge) (out out' out'' : Stmts)
    (f : PartsSoFar whole i (c ∷ rest) now out out') where
  abbrev after : Steps × At → Parts
  after p = on_fine (units_judged (suc (i + 1)) rest p.1) (λ q. Ok (both_steps p.0 q.0, q.1))

  -- one unit more
  pub parts_next : Reads (Ok tt) out' out'' now next (unit_judged c (at_of now)) → PartsSoFar whole (i + 1) rest next out out''
  parts_next r = record {
    added = f.added ++ r.0;
    grew = r.1 ∙ ap (λ l. l ++ r.0) f.grew ∙ append_assoc (statements out) f.added r.0;
    whole_is =
        f.whole_is
        ∙ ap (λ x. behind_parts (in_turn (map step f.added)) (in_unit (i + 1) x after)) r.2
        ∙ parts-both (in_turn (map step f.added)) (in_turn (map step r.0)) (units_judged (suc (i + 1)) rest (at_of next))
        ∙ ap (λ a. behind_parts a (units_judged (suc (i + 1)) rest (at_of next)))
        (joined-in_turn (map step f.added) (map step r.0) ∙ ap in_turn (sym (map-append step f.added r.0)))
        ∙ ap (λ k. behind_parts (in_turn (map step (f.added ++ r.0))) (units_judged k rest (at_of next))) (sym (add-one (i + 1)));
    valued = f.valued.1;
  }

  -- a unit that is refused
  pub parts_fault : (e : Fault) → Reads (Err (why.Fault e)) out' out'' now next (unit_judged c (at_of now))
      → IsWhyRefused whole (RefusedProgram (record { unit = i + 1; fault = e }))
  parts_fault e h = f.whole_is ∙ ap (λ x. behind_parts (in_turn (map step f.added)) (in_unit (i + 1) x after)) h

-- all units
pub parts_end : (whole : Parts) (i : ℕ) (now : Judge) (out out' : Stmts) → PartsSoFar whole i [] now out out' → JudgesAll (Ok tt) out out' now whole
parts_end whole i now out out' f = (f.added, f.grew, f.whole_is ∙ ap (λ a. fine (a, at_of now)) (joined-done (in_turn (map step f.added))))

-- the units from a place on
pub parts_at : (us : List written.Unit) (i : ℕ) (u : written.Unit) → i < length us → u ≡ get_or us i u
    → unit_forms (drop i us) ≡ unit_form u ∷ unit_forms (drop (i + 1) us)
parts_at us i u lt e = map_next unit_form us i u lt e

-- behind the last unit none is left
pub parts_none : (us : List written.Unit) (i : ℕ) → length us ≤ i → unit_forms (drop i us) ≡ []
parts_none us i le = map_none unit_form us i le
