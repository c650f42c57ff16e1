-- The plan of a program that a text stands for can be written as River text: the grammar lets `if` nest at most 16 deep, no `if` of
-- the plan nests deeper than it does in the program, and no window is there.
use Rattle.std.proofs.Common.{◌≡◌, ℕ, suc, ◌≤◌, List, [], ◌∷◌, ◌++◌, Option, Some, None, Result, Ok, Err, inl, inr, refl, sym, subst, arith}
use Rattle.std.specs.Prelude.{max, codes, map, nat_eq, nat_lt, nat_le, length}
use Rattle.std.specs.List.{AllByRecursion}
use Rattle.std.specs.Str.{bytes_eq}
use Rattle.text_tokens.specs.Cut.{units_of as cut_units}
use Rattle.work_code.specs.Steps.{Steps, Done, both_steps, one_step}
use Rattle.work_code.specs.Steps as steps
use Rattle.work_code.specs.Term.{Term}
use Rattle.text_tokens.specs.Tok.{Tok, toks}
use Rattle.saw_text.specs.Tree.{Expression}
use Rattle.kern_tables.specs.declared.kind.TableKind.{TableKind}
use Rattle.river_plan.specs.declared.plan.TableDecl.{TableDecl}
use Rattle.river_plan.specs.Forms.{Name}
use Rattle.river_print.specs.Printable.{IsPrintable}
use Rattle.river_print.specs.Writable.{Every, depths}
use Rattle.river_print.proofs.Spoken.{IsSpoken, spoken-printable}
use Rattle.saw_text.specs.Tree.{Statement, Declare, Assign, Emit, If, Block, End, Then, Optional, Unwritten, Written, UnitForm, TableUnit, StatementUnit, Program}
use Rattle.saw_model.specs.Meaning.{tables_in, table_kind}
use Rattle.saw_model.specs.declared.fault.Fault.{Fault}
use Rattle.saw_model.specs.declared.fault.Fault.TheVariants.{Limit, Shape}
use Rattle.saw_model.specs.declared.fault.Refusal.{Refusal}
use Rattle.saw_model.specs.Elaborate.{At, on_ok, demand, counted, is_new, has_slot, first_term, declared, slot_of}
use Rattle.saw_model.specs.Elaborate.{table_port, indexes_of, term_of, weight_of, keys_in, emitted, is_best, tabled, table_of, find, step_of, steps_of, steps_optional}
use Rattle.saw_model.specs.Elaborate.{unit_judged as read_part, nothing_read}
use Rattle.saw_model.specs.Judged.{on_fine, in_unit, units_judged}
use Rattle.saw_model.specs.Plan.{tally_op, plan_of}
use Rattle.saw_model.proofs.Elaborated.{fine, ok_parts, ok_is}
use Rattle.saw_text.specs.Tree.{in_turn, or_unwritten, UnitForm}
use Rattle.text_blocks.specs.Statements.{IsRest}
use Rattle.text_blocks.specs.Parts.{Round}
use Rattle.text_blocks.proofs.Every.{chosen, IfThere, every-rest}
use Rattle.saw_text.specs.Blocks.{NamedAfter, PlainAfter, style, holes}
use Rattle.saw_text.specs.Expressions.{IsExpression}
use Rattle.saw_text.specs.Words.{is_user}
use Rattle.saw_text.specs.Grammar.{TypedAfter, UnitNamed, IsUnit, AreUnits}
use Rattle.saw_front.specs.Laws.{Has, PlansArePrintable}
use Rattle.saw_front.specs.Meaning.{program_in}
use Rattle.saw_front.proofs.Fronts.{means_what_it_has}

-- how deep `if` nests
abbrev mutual
  nest : Statement → ℕ
  nest (Declare n t) = 0
  nest (Assign n t) = 0
  nest (Emit t is v w) = 0
  nest (If t a b) = suc (max (nests a) (nests_optional b))

  nests : Block → ℕ
  nests End = 0
  nests (Then c b) = max (nest c) (nests b)

  nests_optional : Optional → ℕ
  nests_optional Unwritten = 0
  nests_optional (Written b) = nests b

-- THE GRAMMAR

abbrev IsNested : ℕ → Statement → Type 0
IsNested k s = nest s ≤ k

abbrev AreNested : ℕ → Block → Type 0
AreNested k b = nests b ≤ k

named-nests : (k : ℕ) (w : List ℕ) (n : ℕ) (s : Statement) (ts : List Tok) → NamedAfter w n s ts → IsNested k s
named-nests k w n s ts (inl f) = subst (IsNested k) (sym f.formed.formed.is) (omega arith)
named-nests k w n s ts (inr f) = subst (IsNested k) (sym f.is) (omega arith)

plain-nests : (k n : ℕ) (w : List ℕ) (s : Statement) (ts : List Tok) → PlainAfter n w s ts → IsNested k s
plain-nests k n w s ts h =
    chosen (IsNested k s) _ _ (bytes_eq w (codes "emit")) s ts h (λ e f. subst (IsNested k) (sym f.is) (omega arith)) (λ h.
    chosen (IsNested k s) _ _ (is_user w) s ts h (λ e f. named-nests k w n s ts f) (λ h. absurd h))

branch-nests : (k n : ℕ) (c : Expression) (ts : List Tok) (a : Block) (o : Option Block) → Round IsExpression n c ts → AreNested k a
    → IfThere (AreNested k) o
    → IsNested (suc k) (If c a (or_unwritten o))
branch-nests k n c ts a None h x y = omega (arith, x)
branch-nests k n c ts a (Some b) h x y = omega (arith, x, y)

block-nests : (k : ℕ) (ss : List Statement) → AllByRecursion (IsNested k) ss → AreNested k (in_turn ss)
block-nests k [] h = omega arith
block-nests k (s ∷ ss) h = let a = h.0 in let b = block-nests k ss h.1 in omega (arith, a, b)

rest-nests : (k n : ℕ) (w : List ℕ) (s : Statement) (ts : List Tok) → IsRest style holes k n w s ts → IsNested k s
rest-nests = every-rest style holes IsNested AreNested branch-nests (λ k n w h ts b f q. absurd f) plain-nests block-nests

-- a unit's statement nests at most 16 deep
abbrev IsNestedPart : UnitForm → Type 0
IsNestedPart (TableUnit tb) = Unit {0}
IsNestedPart (StatementUnit c) = nest c ≤ 16

abbrev AreNestedParts : Program → Type 0
AreNestedParts [] = Unit {0}
AreNestedParts (c ∷ ps) = IsNestedPart c × AreNestedParts ps

typed-nests : (name : List ℕ) (n : ℕ) (w : List ℕ) (u : UnitForm) (ts : List Tok) → TypedAfter name n w u ts → IsNestedPart u
typed-nests name n w u ts h =
    chosen (IsNestedPart u) _ _ (bytes_eq w (codes "table")) u ts h
    (λ e f. subst (λ (x : UnitForm). IsNestedPart x) (sym f.is) tt) (λ h.
    chosen (IsNestedPart u) _ _ (bytes_eq w (codes "int")) u ts h
    (λ e f. subst (λ (x : UnitForm). IsNestedPart x) (sym f.is) (subst (IsNested 16) (sym f.formed.is) (omega arith))) (λ h. absurd h))

unit_named-nests : (w : List ℕ) (n : ℕ) (u : UnitForm) (ts : List Tok) → UnitNamed w n u ts → IsNestedPart u
unit_named-nests w n u ts (inl f) = typed-nests w n f.formed.word u f.formed.back f.formed.formed
unit_named-nests w n u ts (inr f) = subst (λ (x : UnitForm). IsNestedPart x) (sym f.is) (subst (IsNested 16) (sym f.formed.is) (omega arith))

unit-nests : (u : UnitForm) (ts : List Tok) → IsUnit u ts → IsNestedPart u
unit-nests u ts h =
    chosen (IsNestedPart u) _ _ (is_user h.word) u h.back h.formed
    (λ e f. unit_named-nests h.word 128 u h.back f)
    (λ f.
    subst IsNestedPart (sym f.is) (rest-nests 16 128 h.word f.value h.back f.formed))

units-nest : (us : List UnitForm) (units : List (List Tok)) → AreUnits us units → AreNestedParts us
units-nest [] units h = tt
units-nest (u ∷ us) [] h = absurd h
units-nest (u ∷ us) (t ∷ ts) h = (unit-nests u t h.0, units-nest us ts h.1)

-- THE BODY OF THE PLAN

joined-depths : (a b : Steps) → depths (both_steps a b) ≡ max (depths a) (depths b)
joined-depths Done b = omega arith
joined-depths (steps.Then c a) b = let e = joined-depths a b in omega (arith, e)

joined-below : (k : ℕ) (a b : Steps) → depths a ≤ k → depths b ≤ k → depths (both_steps a b) ≤ k
joined-below k a b h g = let e = joined-depths a b in omega (arith, e)

by-steps : (k : ℕ) (x y : Steps × At) → fine x ≡ fine y → depths x.0 ≤ k → depths y.0 ≤ k
by-steps k x y h le = subst (λ (r : Steps × At). depths r.0 ≤ k) (ok_is x y h) le

emit-below : (s : At) (t : ℕ × TableKind) (n : ℕ) (us : List Term) (v : Expression) (w : Option Expression) (y : Steps × At) → emitted s t n us v w ≡ fine y
    → depths y.0 ≤ 0
emit-below s t n us v w y h =
    let end = λ (u : Term) (ws : List Term). fine (one_step (steps.Push t.0 (us ++ u ∷ ws)), s) in
    let f2 = λ (u : Term). on_ok (weight_of t.1 w s.scope) (end u) in
    let a = ok_parts (demand (nat_eq n (keys_in t.1)) Shape) (λ x. on_ok (term_of s.scope v) f2) y h in
    let b = ok_parts (term_of s.scope v) f2 y a.2 in
    let c = ok_parts (weight_of t.1 w s.scope) (end b.0) y b.2 in
    by-steps 0 (one_step (steps.Push t.0 (us ++ b.0 ∷ c.0)), s) y c.2 (omega arith)

mutual
  step-below : (c : Statement) (s : At) (y : Steps × At) → step_of c s ≡ fine y → depths y.0 ≤ nest c
  step-below (Declare n t) s0 y h =
      let f3 = λ (s : At). on_ok (first_term t s.scope) (λ v. fine (declared n s v)) in
      let f2 = λ (s : At). on_ok (has_slot s) (λ w. f3 s) in
      let p = ok_parts (counted s0) (λ s. on_ok (is_new (find s.scope n)) (λ u. f2 s)) y h in
      let q = ok_parts (is_new (find p.0.scope n)) (λ u. f2 p.0) y p.2 in
      let r = ok_parts (has_slot p.0) (λ w. f3 p.0) y q.2 in
      let v = ok_parts (first_term t p.0.scope) (λ v. fine (declared n p.0 v)) y r.2 in
      by-steps 0 (declared n p.0 v.0) y v.2 (omega arith)
  step-below (Assign n t) s0 y h =
      let f2 = λ (s : At) (i : ℕ). on_ok (term_of s.scope t) (λ v. fine (one_step (steps.Set i v), s)) in
      let p = ok_parts (counted s0) (λ s. on_ok (slot_of (find s.scope n)) (f2 s)) y h in
      let q = ok_parts (slot_of (find p.0.scope n)) (f2 p.0) y p.2 in
      let v = ok_parts (term_of p.0.scope t) (λ v. fine (one_step (steps.Set q.0 v), p.0)) y q.2 in
      by-steps 0 (one_step (steps.Set q.0 v.0), p.0) y v.2 (omega arith)
  step-below (Emit t is v w) s0 y h =
      let f3 = λ (s : At) (p : ℕ × TableKind) (us : List Term). emitted s p (length is) us v w in
      let f2 = λ (s : At) (p : ℕ × TableKind). on_ok (indexes_of s.scope 0 is) (f3 s p) in
      let a = ok_parts (counted s0) (λ s. on_ok (table_port (find s.scope t)) (f2 s)) y h in
      let b = ok_parts (table_port (find a.0.scope t)) (f2 a.0) y a.2 in
      let c = ok_parts (indexes_of a.0.scope 0 is) (f3 a.0 b.0) y b.2 in
      emit-below a.0 b.0 (length is) c.0 v w y c.2
  step-below (If t a b) s0 y h =
      let end = λ (s : At) (c : Term) (p q : Steps × At). fine (one_step (steps.If c p.0 q.0), record q.1 { scope = s.scope }) in
      let f3 = λ (s : At) (c : Term) (p : Steps × At). on_ok (steps_optional b (record s { slots = p.1.slots; size = p.1.size })) (end s c p) in
      let f2 = λ (s : At) (c : Term). on_ok (steps_of a s) (f3 s c) in
      let w = ok_parts (counted s0) (λ s. on_ok (term_of s.scope t) (f2 s)) y h in
      let c = ok_parts (term_of w.0.scope t) (f2 w.0) y w.2 in
      let p = ok_parts (steps_of a w.0) (f3 w.0 c.0) y c.2 in
      let q = ok_parts (steps_optional b (record w.0 { slots = p.0.1.slots; size = p.0.1.size })) (end w.0 c.0 p.0) y p.2 in
      let i = steps-below a w.0 p.0 p.1 in
      let j = optional-below b (record w.0 { slots = p.0.1.slots; size = p.0.1.size }) q.0 q.1 in
      by-steps (suc (max (nests a) (nests_optional b))) (one_step (steps.If c.0 p.0.0 q.0.0), record q.0.1 { scope = w.0.scope }) y q.2 (omega (arith, i, j))

  steps-below : (b : Block) (s : At) (y : Steps × At) → steps_of b s ≡ fine y → depths y.0 ≤ nests b
  steps-below End s y h = by-steps 0 (Done, s) y h (omega arith)
  steps-below (Then c b) s y h =
      let p = ok_parts (step_of c s) (λ p. on_ok (steps_of b p.1) (λ q. fine (both_steps p.0 q.0, q.1))) y h in
      let q = ok_parts (steps_of b p.0.1) (λ q. fine (both_steps p.0.0 q.0, q.1)) y p.2 in
      let i = step-below c s p.0 p.1 in
      let j = steps-below b p.0.1 q.0 q.1 in
      by-steps (max (nest c) (nests b)) (both_steps p.0.0 q.0.0, q.0.1) y q.2
      (joined-below (max (nest c) (nests b)) p.0.0 q.0.0 (omega (arith, i)) (omega (arith, j)))

  optional-below : (o : Optional) (s : At) (y : Steps × At) → steps_optional o s ≡ fine y → depths y.0 ≤ nests_optional o
  optional-below Unwritten s y h = by-steps 0 (Done, s) y h (omega arith)
  optional-below (Written b) s y h = steps-below b s y h

table-below : (n : Name) (k : TableKind) (s : At) (y : Steps × At) → table_of n k s ≡ fine y → depths y.0 ≤ 0
table-below n k s y h =
    let f4 = on_ok (demand (nat_le (keys_in k) 8) Limit) (λ x. fine (tabled n k s)) in
    let f3 = on_ok (demand (is_best k) Limit) (λ w. f4) in
    let f2 = on_ok (demand (nat_lt s.tables 64) Limit) (λ v. f3) in
    let a = ok_parts (is_new (find s.scope n)) (λ u. f2) y h in
    let b = ok_parts (demand (nat_lt s.tables 64) Limit) (λ v. f3) y a.2 in
    let c = ok_parts (demand (is_best k) Limit) (λ w. f4) y b.2 in
    let d = ok_parts (demand (nat_le (keys_in k) 8) Limit) (λ x. fine (tabled n k s)) y c.2 in
    by-steps 0 (tabled n k s) y d.2 (omega arith)

part-below : (c : UnitForm) (s : At) (y : Steps × At) → IsNestedPart c → read_part c s ≡ fine y → depths y.0 ≤ 16
part-below (TableUnit tb) s y low h = let e = table-below tb.name (table_kind tb) s y h in omega (arith, e)
part-below (StatementUnit c) s y low h = let e = step-below c s y h in omega (arith, e, low)

abbrev took : {A : Type 0} → A → Result A Refusal
took x = Ok x

took-is : {A : Type 0} (x y : A) → took x ≡ took y → x ≡ y
took-is x y h = cc

unit-parts : {A B : Type 0} (k : ℕ) (r : Result A Fault) (f : A → Result B Refusal) (y : B) → in_unit k r f ≡ took y → (x : A) × (r ≡ fine x) × (f x ≡ took y)
unit-parts k (Ok x) f y h = (x, refl, h)
unit-parts k (Err e) f y h = absurd (cc h)

fine-parts : {A B : Type 0} (r : Result A Refusal) (f : A → Result B Refusal) (y : B) → on_fine r f ≡ took y → (x : A) × (r ≡ took x) × (f x ≡ took y)
fine-parts (Ok x) f y h = (x, refl, h)
fine-parts (Err e) f y h = absurd (cc h)

parts-below : (k : ℕ) (p : Program) (s : At) (y : Steps × At) → AreNestedParts p → units_judged k p s ≡ took y → depths y.0 ≤ 16
parts-below k [] s y low h = subst (λ (r : Steps × At). depths r.0 ≤ 16) (took-is (Done, s) y h) (omega arith)
parts-below k (c ∷ ps) s y low h =
    let more = λ (p : Steps × At). on_fine (units_judged (suc k) ps p.1) (λ q. took (both_steps p.0 q.0, q.1)) in
    let a = unit-parts k (read_part c s) more y h in
    let b = fine-parts (units_judged (suc k) ps a.0.1) (λ q. took (both_steps a.0.0 q.0, q.1)) y a.2 in
    subst (λ (r : Steps × At). depths r.0 ≤ 16) (took-is (both_steps a.0.0 b.0.0, b.0.1) y b.2)
    (joined-below 16 a.0.0 b.0.0 (part-below c s a.0 low.0 a.1) (parts-below (suc k) ps a.0.1 b.0 low.1 b.1))

-- THE PLAN

tallies-spoken : (ts : List TableDecl) → Every IsSpoken (map tally_op ts)
tallies-spoken [] = tt
tallies-spoken (t ∷ ts) = ((tt, tt), tallies-spoken ts)

plan-printable : (p : Program) (read : Steps × At) → depths read.0 ≤ 16 → IsPrintable (plan_of p read)
plan-printable p read low = spoken-printable (plan_of p read) ((low, tt), tallies-spoken (tables_in p))

-- the law: the plan of a text's program is within the bounds of River text
pub plans_are_printable : PlansArePrintable
plans_are_printable text a e =
    let h : Has text (Ok a) = (means_what_it_has text (Ok a)).0 e in
    plan-printable (program_in a) a.read
    (parts-below 1 (program_in a) nothing_read a.read (units-nest a.units (cut_units (toks h.0.marks)) h.0.formed) h.1)
