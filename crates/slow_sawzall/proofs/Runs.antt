-- What statements do one after another, and what a record adds to what was emitted before.
use Rattle.std.proofs.Common.{◌≡◌, ℕ, zero, suc, ℤ, ◌+◌, ◌<◌, ◌≤◌, Bool, true, false, List, [], ◌∷◌, ◌++◌, length, take, drop, map, get_or, Option, refl, sym}
use Rattle.std.proofs.Common.{ap, ◌∙◌, subst, arith, append_assoc, append-nil, FitsSigned, w64, to_z, of_z}
use Rattle.std.proofs.lemmas.Int.{to_z-of_z}
use Rattle.std.specs.Prelude.{if◌then◌else◌}
use Rattle.river_base.proofs.Lists.{map_next, map_none, map_more}
use Rattle.work_code.specs.Value.{is_true}
use Rattle.saw_text.specs.Tree.{Expression}
use Rattle.saw_text.specs.Tree.{Statement, Declare, Assign, Emit, If, Block, End, Then, Optional, Unwritten, Written, UnitForm, TableUnit, StatementUnit, Program}
use Rattle.saw_model.specs.Meaning.{Store, eval, eval_all, Emitted, State}
use Rattle.saw_model.specs.Meaning.{emit_row, listed, exec, exec_block, exec_optional, exec_units, fresh_state, emits}
use Rattle.saw_model.proofs.Elaborated.{eval_all-append}
use Rattle.saw_text.specs.declared.tree.Expr.{Expr}
use Rattle.saw_text.specs.declared.tree.Statement as tree
use Rattle.saw_text.specs.declared.tree.Unit as unit
use Rattle.saw_text.specs.Tree.{expression as spoken, statement, in_turn, unit_form, unit_forms}
use Rattle.saw_text.specs.View.{expressions}
use Rattle.saw_front.specs.Valued.{AreValues, AllValues}
use Rattle.saw_front.proofs.JudgedUnits.{parts_at, parts_none}
use Rattle.slow_sawzall.specs.declared.run.Run.{Run}
use Rattle.slow_sawzall.specs.Sawzall.{named_values, run_state, do_part, AreRunnable, IsRunnable, IsRunnablePart, AreRunnableParts}

-- A RECORD AFTER OTHERS

-- with these rows before what was emitted
abbrev behind : List Emitted → State → State
behind es s = record { values = s.values; emitted = es ++ s.emitted }

if_behind : (b : Bool) (es : List Emitted) (x y x' y' : State) → x ≡ behind es x' → y ≡ behind es y' → (if b then x else y) ≡ behind es (if b then x' else y')
if_behind true es x y x' y' h k = h
if_behind false es x y x' y' h k = k

mutual
  exec-behind : (c : Statement) (r : List ℤ) (es : List Emitted) (s : State) → exec c r (behind es s) ≡ behind es (exec c r s)
  exec-behind (Declare n t) r es s = refl
  exec-behind (Assign n t) r es s = refl
  exec-behind (Emit t is v w) r es s =
      let e = append_assoc es s.emitted ((t, eval_all (emit_row is v w) r s.values) ∷ []) in
      λ i. record { values = s.values; emitted = e i }
  exec-behind (If t a b) r es s =
      if_behind (is_true (eval t r s.values)) es (exec_block a r (behind es s)) (exec_optional b r (behind es s)) (exec_block a r s) (exec_optional b r s)
      (exec_block-behind a r es s) (exec_optional-behind b r es s)

  exec_block-behind : (b : Block) (r : List ℤ) (es : List Emitted) (s : State) → exec_block b r (behind es s) ≡ behind es (exec_block b r s)
  exec_block-behind End r es s = refl
  exec_block-behind (Then c b) r es s = ap (exec_block b r) (exec-behind c r es s) ∙ exec_block-behind b r es (exec c r s)

  exec_optional-behind : (o : Optional) (r : List ℤ) (es : List Emitted) (s : State) → exec_optional o r (behind es s) ≡ behind es (exec_optional o r s)
  exec_optional-behind Unwritten r es s = refl
  exec_optional-behind (Written b) r es s = exec_block-behind b r es s

exec_units-behind : (p : Program) (r : List ℤ) (es : List Emitted) (s : State) → exec_units p r (behind es s) ≡ behind es (exec_units p r s)
exec_units-behind [] r es s = refl
exec_units-behind (TableUnit tb ∷ ps) r es s = exec_units-behind ps r es s
exec_units-behind (StatementUnit c ∷ ps) r es s = ap (exec_units ps r) (exec-behind c r es s) ∙ exec_units-behind ps r es (exec c r s)

-- a record whose locals are fresh adds what it emits
pub record_adds : (p : Program) (r : List ℤ) (old start now : Run) → start.locals.items ≡ [] → start.emitted.items ≡ old.emitted.items
    → run_state now ≡ exec_units p r (run_state start) → now.emitted.items ≡ old.emitted.items ++ emits p r
record_adds p r old start now none same is =
    let es = old.emitted.items in
    let a = ap named_values none in let b = same ∙ sym (append-nil es) in
    let first : run_state start ≡ behind es fresh_state = (λ i. record { values = a i; emitted = b i }) in
    ap (λ (s : State). s.emitted) (is ∙ ap (exec_units p r) first ∙ exec_units-behind p r es fresh_state)

-- UNITS

exec_units-cons : (c : UnitForm) (ps : Program) (r : List ℤ) (s : State) → exec_units (c ∷ ps) r s ≡ exec_units ps r (do_part c r s)
exec_units-cons (TableUnit tb) ps r s = refl
exec_units-cons (StatementUnit c) ps r s = refl

-- what is left of a program does from here on what all of it does from the first
pub record PartsLeft (all rest : Program) (r : List ℤ) (first now : State) : Type 0 where
  pub done : exec_units rest r now ≡ exec_units all r first
  pub runnable : AreRunnableParts rest

module _ (all : Program) (us : List unit.Unit) (i : ℕ) (u : unit.Unit) (r : List ℤ) (first now : State) (lt : i < length us) (e : u ≡ get_or us i u)
    (f : PartsLeft all (unit_forms (drop i us)) r first now) where
  abbrev here : UnitForm
  here = unit_form u

  abbrev rest : Program
  rest = unit_forms (drop (i + 1) us)

  split : PartsLeft all (here ∷ rest) r first now
  split = subst (λ (p : Program). PartsLeft all p r first now) (parts_at us i u lt e) f

  pub part_runnable : IsRunnablePart here
  part_runnable = split.runnable.0

  -- one unit more
  pub parts_next : (next : State) → next ≡ do_part here r now → PartsLeft all rest r first next
  parts_next next is = record { done = ap (exec_units rest r) is ∙ sym (exec_units-cons here rest r now) ∙ split.done; runnable = split.runnable.1 }

-- behind the last unit the record was run
pub parts_end : (all : Program) (us : List unit.Unit) (i : ℕ) (r : List ℤ) (first now : State) → length us ≤ i
    → PartsLeft all (unit_forms (drop i us)) r first now → now ≡ exec_units all r first
parts_end all us i r first now le f = ap (λ p. exec_units p r now) (sym (parts_none us i le)) ∙ f.done

-- STATEMENTS

-- what is left of a block does from here on what all of it does from the first
pub record BlockLeft (all rest : List Statement) (r : List ℤ) (first now : State) : Type 0 where
  pub done : exec_block (in_turn rest) r now ≡ exec_block (in_turn all) r first
  pub runnable : AreRunnable (in_turn rest)

module _ (all : List Statement) (ss : List tree.Statement) (i : ℕ) (s : tree.Statement) (r : List ℤ) (first now : State) (lt : i < length ss)
    (e : s ≡ get_or ss i s) (f : BlockLeft all (map statement (drop i ss)) r first now) where
  abbrev others : List Statement
  others = map statement (drop (i + 1) ss)

  cut : BlockLeft all (statement s ∷ others) r first now
  cut = subst (λ (l : List Statement). BlockLeft all l r first now) (map_next statement ss i s lt e) f

  pub statement_runnable : IsRunnable (statement s)
  statement_runnable = cut.runnable.0

  -- one statement more
  pub block_next : (next : State) → next ≡ exec (statement s) r now → BlockLeft all others r first next
  block_next next is = record { done = ap (exec_block (in_turn others) r) is ∙ cut.done; runnable = cut.runnable.1 }

-- behind the last statement the block was run
pub block_end : (all : List Statement) (ss : List tree.Statement) (i : ℕ) (r : List ℤ) (first now : State) → length ss ≤ i
    → BlockLeft all (map statement (drop i ss)) r first now → now ≡ exec_block (in_turn all) r first
block_end all ss i r first now le f = ap (λ l. exec_block (in_turn l) r now) (sym (map_none statement ss i le)) ∙ f.done

-- VALUES OF EXPRESSIONS

-- where all are values, each is
pub values_at : (es : List Expr) (i : ℕ) (e : Expr) → i < length es → e ≡ get_or es i e → AllValues (expressions es) → AreValues (spoken e)
values_at [] i e lt is h = absurd (omega (arith, lt))
values_at (x ∷ xs) zero e lt is h = subst (λ (y : Expr). AreValues (spoken y)) (sym is) h.0
values_at (x ∷ xs) (suc i) e lt is h = values_at xs i e (omega (arith, lt)) is h.1

-- a value that is pushed
pub pushed_value : (a b : List ℤ) (z y : ℤ) → FitsSigned w64 z → b ≡ a ++ to_z w64 (of_z w64 z) ∷ [] → z ≡ y → b ≡ a ++ y ∷ []
pushed_value a b z y f h e = h ∙ ap (λ x. a ++ x ∷ []) (to_z-of_z w64 z f ∙ e)

-- one value more
pub values_next : (es : List Expr) (i : ℕ) (e : Expr) (r : List ℤ) (env : Store) (old now next : List ℤ) → i < length es → e ≡ get_or es i e
    → next ≡ now ++ eval (spoken e) r env ∷ [] → now ≡ old ++ eval_all (expressions (take i es)) r env
    → next ≡ old ++ eval_all (expressions (take (i + 1) es)) r env
values_next es i e r env old now next lt is n h =
    n ∙ ap (λ l. l ++ eval (spoken e) r env ∷ []) h
    ∙ append_assoc old (eval_all (expressions (take i es)) r env) (eval (spoken e) r env ∷ [])
    ∙ ap (λ l. old ++ l) (sym (ap (λ l. eval_all l r env) (map_more spoken es i e lt is) ∙ eval_all-append 0 r (expressions (take i es)) (spoken e ∷ []) env))

-- the values of an emit, part by part
pub emit_values : (is : List Expression) (v : Expression) (w : Option Expression) (r : List ℤ) (env : Store) (a b c : List ℤ) → a ≡ eval_all is r env
    → b ≡ a ++ eval v r env ∷ [] → c ≡ b ++ eval_all (listed w) r env → c ≡ eval_all (emit_row is v w) r env
emit_values is v w r env a b c ea eb ec =
    ec ∙ ap (λ l. l ++ eval_all (listed w) r env) (eb ∙ ap (λ l. l ++ eval v r env ∷ []) ea)
    ∙ append_assoc (eval_all is r env) (eval v r env ∷ []) (eval_all (listed w) r env)
    ∙ sym (eval_all-append 0 r is (v ∷ listed w) env)

-- a list of expressions has as many values
pub evals_many : (ts : List Expression) (r : List ℤ) (env : Store) → length (eval_all ts r env) ≡ length ts
evals_many [] r env = refl
evals_many (t ∷ ts) r env = let e = evals_many ts r env in omega (arith, e)

-- the row of an emit is as long as it has parts
pub row_few : (is : List Expression) (v : Expression) (w : Option Expression) (r : List ℤ) (env : Store) (xs : List ℤ) → xs ≡ eval_all (emit_row is v w) r env
    → length (emit_row is v w) ≤ 16 → length xs ≤ 16
row_few is v w r env xs e le = let m = evals_many (emit_row is v w) r env in let l = ap length e in omega (arith, m, l, le)
