-- The grammar lets `if` and `for` nest at most 16 deep, and no `if` of a plan nests deeper than they do in its program.
use Rattle.std.proofs.Common.{◌≡◌, ℕ, suc, ◌≤◌, ◌+◌, ◌-◌, Bool, true, false, List, [], ◌∷◌, Option, Some, None, Ok, Err, sym, subst, arith}
use Rattle.std.specs.Prelude.{max, codes, if◌then◌else◌, nat_eq, ◌&&◌}
use Rattle.std.specs.List.{AllByRecursion}
use Rattle.std.specs.Str.{bytes_eq}
use Rattle.work_code.specs.Steps.{Steps, Done, both_steps, one_step}
use Rattle.work_code.specs.Steps as steps
use Rattle.work_code.specs.Term.{Term}
use Rattle.text_tokens.specs.Tok.{Tok}
use Rattle.kern_rows.specs.Forms.{FilterForm, RunForm}
use Rattle.river_plan.specs.Forms.{Name}
use Rattle.streamit_text.specs.Tree.{Statement, Declare, Assign, Push, Discard, If, For, Block, End, Then, Optional, Unwritten, Written, in_turn, or_unwritten}
use Rattle.streamit_text.specs.Tree.{Expression}
use Rattle.streamit_model.specs.Meaning.{pops, numbers_from, peek_of}
use Rattle.streamit_model.specs.Elaborate.{At, Read, on_ok, counted, is_new, has_slot, first_term, declared, slot_of, term_of, constant}
use Rattle.streamit_model.specs.Elaborate.{bound_of, after_arms, unrolled, step_of, steps_of, find, Turn, optional_of}
use Rattle.streamit_model.specs.declared.fault.Fault.TheVariants.{BranchRates}
use Rattle.streamit_text.specs.Program.{WorkTree, FilterTree}
use Rattle.streamit_model.specs.ElaborateFilter.{elaborated, slots_for, widened_first}
use Rattle.streamit_model.proofs.FilterMet.{WorkRead, PreworkRead, elaborated_parts}
use Rattle.streamit_model.proofs.Elaborated.{fine, ok_parts, ok_is}
use Rattle.streamit_text.specs.Blocks.{IsPlain, Head, IsHead, looped, style, holes}
use Rattle.streamit_text.specs.Expressions.{IsExpression, expr_at}
use Rattle.streamit_text.specs.Grammar.{IsBlock}
use Rattle.streamit_text.specs.Leaves.{IsLeaf, leaf_at}
use Rattle.streamit_text.specs.Words.{is_own}
use Rattle.text_blocks.specs.Parts.{Round}
use Rattle.river_print.specs.Writable.{depths}
use Rattle.text_blocks.proofs.Every.{chosen, IfThere, every-block}

-- how deep `if` and `for` nest
abbrev mutual
  pub nest : Statement → ℕ
  nest (Declare n t) = 0
  nest (Assign n t) = 0
  nest (Push t) = 0
  nest Discard = 0
  nest (If t a b) = suc (max (nests a) (nests_optional b))
  nest (For n low upto high b) = suc (nests b)

  -- how deep a block nests
  pub nests : Block → ℕ
  nests End = 0
  nests (Then c b) = max (nest c) (nests b)

  pub nests_optional : Optional → ℕ
  nests_optional Unwritten = 0
  nests_optional (Written b) = nests b

-- THE GRAMMAR

abbrev IsNested : ℕ → Statement → Type 0
IsNested k s = nest s ≤ k

abbrev AreNested : ℕ → Block → Type 0
AreNested k b = nests b ≤ k

-- the expressions of a program
abbrev F : ℕ → Expression → List Tok → Type 0
F = IsExpression IsLeaf

plain-nests : (k n : ℕ) (w : List ℕ) (s : Statement) (ts : List Tok) → IsPlain F n w s ts → IsNested k s
plain-nests k n w s ts h =
    chosen (IsNested k s) _ _ (bytes_eq w (codes "int")) s ts h (λ e f. subst (IsNested k) (sym f.is) (omega arith)) (λ h.
    chosen (IsNested k s) _ _ (bytes_eq w (codes "push")) s ts h (λ e f. subst (IsNested k) (sym f.is) (omega arith)) (λ h.
    chosen (IsNested k s) _ _ (bytes_eq w (codes "pop")) s ts h (λ e f. subst (IsNested k) (sym f.is) (omega arith)) (λ h.
    chosen (IsNested k s) _ _ (is_own w) s ts h (λ e f. subst (IsNested k) (sym f.is) (omega arith)) (λ h. absurd h))))

branch-nests : (k n : ℕ) (c : Expression) (ts : List Tok) (a : Block) (o : Option Block) → Round F n c ts → AreNested k a → IfThere (AreNested k) o
    → IsNested (suc k) (If c a (or_unwritten o))
branch-nests k n c ts a None h x y = omega (arith, x)
branch-nests k n c ts a (Some b) h x y = omega (arith, x, y)

loop-nests : (k n : ℕ) (w : List ℕ) (h : Head) (ts : List Tok) (b : Block) → Round (IsHead F) n h ts → AreNested k b → IsNested (suc k) (looped h b)
loop-nests k n w h ts b f x = omega (arith, x)

block-nests : (k : ℕ) (ss : List Statement) → AllByRecursion (IsNested k) ss → AreNested k (in_turn ss)
block-nests k [] h = omega arith
block-nests k (s ∷ ss) h = let a = h.0 in let b = block-nests k ss h.1 in omega (arith, a, b)

-- a block that the grammar has nests at most 16 deep
pub block-nested : (n : ℕ) (b : Block) (ts : List Tok) → IsBlock n b ts → nests b ≤ 16
block-nested n b ts h =
    every-block (style (expr_at leaf_at)) (holes F) IsNested AreNested branch-nests loop-nests plain-nests block-nests 16 n b ts h

-- THE STATEMENTS OF A PLAN

joined-depths : (a b : Steps) → depths (both_steps a b) ≡ max (depths a) (depths b)
joined-depths Done b = omega arith
joined-depths (steps.Then c a) b = let e = joined-depths a b in omega (arith, e)

joined-below : (k : ℕ) (a b : Steps) → depths a ≤ k → depths b ≤ k → depths (both_steps a b) ≤ k
joined-below k a b h g = let e = joined-depths a b in omega (arith, e)

-- what a block becomes nests at most so deep
abbrev Below : ℕ → (At → Read) → Type 0
Below k f = (s : At) (y : Steps × At) → f s ≡ Ok y → depths y.0 ≤ k

by-steps : (k : ℕ) (x y : Steps × At) → fine x ≡ fine y → depths x.0 ≤ k → depths y.0 ≤ k
by-steps k x y h le = subst (λ (r : Steps × At). depths r.0 ≤ k) (ok_is x y h) le

unrolled-below : (k : ℕ) (block : At → Read) → Below k block → (n : Name) (vs : List ℕ) → Below k (unrolled block n vs)
unrolled-below k block below n [] s y h = by-steps k (Done, s) y h (omega arith)
unrolled-below k block below n (v ∷ vs) s y h =
    let more = λ (a : Steps × At). on_ok (unrolled block n vs (record a.1 { scope = s.scope })) (λ b. fine (both_steps a.0 b.0, b.1)) in
    let p = ok_parts (counted s) (λ t. on_ok (block (record t { scope = (n, Turn v) ∷ s.scope })) more) y h in
    let q = ok_parts (block (record p.0 { scope = (n, Turn v) ∷ s.scope })) more y p.2 in
    let r = ok_parts (unrolled block n vs (record q.0.1 { scope = s.scope })) (λ b. fine (both_steps q.0.0 b.0, b.1)) y q.2 in
    by-steps k (both_steps q.0.0 r.0.0, r.0.1) y r.2
    (joined-below k q.0.0 r.0.0 (below (record p.0 { scope = (n, Turn v) ∷ s.scope }) q.0 q.1)
    (unrolled-below k block below n vs (record q.0.1 { scope = s.scope }) r.0 r.1))

arms-below : (k : ℕ) (s : At) (c : Term) (a b y : Steps × At) → after_arms s c a b ≡ Ok y → depths a.0 ≤ k → depths b.0 ≤ k → depths y.0 ≤ suc k
arms-below k s c a b y h ha hb = by (nat_eq a.1.popped b.1.popped && nat_eq a.1.pushed b.1.pushed) h
  where
    by : (t : Bool) → (if t then Ok (one_step (steps.If c a.0 b.0), record b.1 { scope = s.scope }) else Err BranchRates) ≡ fine y → depths y.0 ≤ suc k
    by true e = by-steps (suc k) (one_step (steps.If c a.0 b.0), record b.1 { scope = s.scope }) y e (omega (arith, ha, hb))
    by false e = absurd (cc e)

more-below : (j k : ℕ) (f : At → Read) → Below j f → j ≤ k → Below k f
more-below j k f below le s y h = let e = below s y h in omega (arith, e, le)

mutual
  step-below : (e : ℕ) (c : Statement) → Below (nest c) (step_of e c)
  step-below e (Declare n t) s0 y h =
      let f3 = λ (s : At). on_ok (first_term e t s) (λ v. fine (declared n t s v)) in
      let f2 = λ (s : At). on_ok (has_slot s) (λ w. f3 s) in
      let p = ok_parts (counted s0) (λ s. on_ok (is_new (find s.scope n)) (λ u. f2 s)) y h in
      let q = ok_parts (is_new (find p.0.scope n)) (λ u. f2 p.0) y p.2 in
      let r = ok_parts (has_slot p.0) (λ w. f3 p.0) y q.2 in
      let v = ok_parts (first_term e t p.0) (λ v. fine (declared n t p.0 v)) y r.2 in
      by-steps 0 (declared n t p.0 v.0) y v.2 (omega arith)
  step-below e (Assign n t) s0 y h =
      let f2 = λ (s : At) (i : ℕ). on_ok (term_of e s.scope t s.popped) (λ v. fine (one_step (steps.Set i v), record s { popped = s.popped + pops t })) in
      let p = ok_parts (counted s0) (λ s. on_ok (slot_of (find s.scope n)) (f2 s)) y h in
      let q = ok_parts (slot_of (find p.0.scope n)) (f2 p.0) y p.2 in
      let v = ok_parts (term_of e p.0.scope t p.0.popped) (λ v. fine (one_step (steps.Set q.0 v), record p.0 { popped = p.0.popped + pops t })) y q.2 in
      by-steps 0 (one_step (steps.Set q.0 v.0), record p.0 { popped = p.0.popped + pops t }) y v.2 (omega arith)
  step-below e (Push t) s0 y h =
      let f1 = λ (s : At) (v : Term). fine (one_step (steps.Push 0 (v ∷ [])), record s { popped = s.popped + pops t; pushed = s.pushed + 1 }) in
      let p = ok_parts (counted s0) (λ s. on_ok (term_of e s.scope t s.popped) (f1 s)) y h in
      let v = ok_parts (term_of e p.0.scope t p.0.popped) (f1 p.0) y p.2 in
      by-steps 0 (one_step (steps.Push 0 (v.0 ∷ [])), record p.0 { popped = p.0.popped + pops t; pushed = p.0.pushed + 1 }) y v.2 (omega arith)
  step-below e Discard s y h = by-steps 0 (Done, record s { popped = s.popped + 1 }) y h (omega arith)
  step-below e (If t a b) s0 y h =
      let second = λ (s : At) (p : Steps × At). optional_of e b (record s { popped = s.popped + pops t; slots = p.1.slots; size = p.1.size }) in
      let f3 = λ (s : At) (c : Term) (p : Steps × At). on_ok (second s p) (after_arms s c p) in
      let f2 = λ (s : At) (c : Term). on_ok (steps_of e a (record s { popped = s.popped + pops t })) (f3 s c) in
      let w = ok_parts (counted s0) (λ s. on_ok (term_of e s.scope t s.popped) (f2 s)) y h in
      let c = ok_parts (term_of e w.0.scope t w.0.popped) (f2 w.0) y w.2 in
      let p = ok_parts (steps_of e a (record w.0 { popped = w.0.popped + pops t })) (f3 w.0 c.0) y c.2 in
      let q = ok_parts (second w.0 p.0) (after_arms w.0 c.0 p.0) y p.2 in
      let i = steps-below e a (record w.0 { popped = w.0.popped + pops t }) p.0 p.1 in
      let j = optional-below e b (record w.0 { popped = w.0.popped + pops t; slots = p.0.1.slots; size = p.0.1.size }) q.0 q.1 in
      arms-below (max (nests a) (nests_optional b)) w.0 c.0 p.0 q.0 y q.2 (omega (arith, i)) (omega (arith, j))
  step-below e (For n low upto high b) s y h =
      let turns = λ (l g : ℕ). numbers_from l (g + (if upto then 1 else 0) - l) in
      let f5 = λ (l g : ℕ). unrolled (steps_of e b) n (turns l g) s in
      let f3 = λ (l : ℕ). on_ok (constant s.scope high) (λ z. on_ok (bound_of z) (f5 l)) in
      let f1 = on_ok (constant s.scope low) (λ x. on_ok (bound_of x) f3) in
      let u = ok_parts (is_new (find s.scope n)) (λ v. f1) y h in
      let x = ok_parts (constant s.scope low) (λ x. on_ok (bound_of x) f3) y u.2 in
      let l = ok_parts (bound_of x.0) f3 y x.2 in
      let z = ok_parts (constant s.scope high) (λ z. on_ok (bound_of z) (f5 l.0)) y l.2 in
      let g = ok_parts (bound_of z.0) (f5 l.0) y z.2 in
      let r = unrolled-below (nests b) (steps_of e b) (steps-below e b) n (turns l.0 g.0) s y g.2 in
      omega (arith, r)

  steps-below : (e : ℕ) (b : Block) → Below (nests b) (steps_of e b)
  steps-below e End s y h = by-steps 0 (Done, s) y h (omega arith)
  steps-below e (Then c b) s y h =
      let p = ok_parts (step_of e c s) (λ p. on_ok (steps_of e b p.1) (λ q. fine (both_steps p.0 q.0, q.1))) y h in
      let q = ok_parts (steps_of e b p.0.1) (λ q. fine (both_steps p.0.0 q.0, q.1)) y p.2 in
      let i = step-below e c s p.0 p.1 in
      let j = steps-below e b p.0.1 q.0 q.1 in
      by-steps (max (nest c) (nests b)) (both_steps p.0.0 q.0.0, q.0.1) y q.2
      (joined-below (max (nest c) (nests b)) p.0.0 q.0.0 (omega (arith, i)) (omega (arith, j)))

  optional-below : (e : ℕ) (b : Optional) → Below (nests_optional b) (optional_of e b)
  optional-below e Unwritten s y h = by-steps 0 (Done, s) y h (omega arith)
  optional-below e (Written b) s y h = steps-below e b s y h

-- how deep a first run nests, and `prework`
abbrev pub depths-first : Option RunForm → ℕ
depths-first None = 0
depths-first (Some r) = depths r.body.steps

-- how deep `prework` nests, where there is one
abbrev pub nests-first : Option WorkTree → ℕ
nests-first None = 0
nests-first (Some w) = nests w.block

-- the runs of a filter nest no deeper than its `prework` and its `work`
work-below : (least : ℕ) (w : WorkTree) (s : At) (r : RunForm) → WorkRead least w s r → depths r.body.steps ≤ nests w.block
work-below least w s r e = subst (λ (r : RunForm). depths r.body.steps ≤ nests w.block) e.is (steps-below (peek_of w) w.block s e.read e.steps_are)

first-below : (o : Option WorkTree) (s : At) (p : Option RunForm) (n : ℕ) → PreworkRead o s p → depths-first (widened_first n p) ≤ nests-first o
first-below None s None n h = omega arith
first-below None s (Some r) n h = absurd h
first-below (Some w) s None n h = absurd h
first-below (Some w) s (Some r) n h = work-below 0 w s r h

-- the runs of an elaborated filter nest no deeper than its `prework` and its `work`
pub filter-below : (t : FilterTree) (f : FilterForm) → elaborated t ≡ Ok f
    → (depths-first f.first ≤ nests-first t.prework) × (depths f.body.steps ≤ nests t.work.block)
filter-below t f h =
    let e = elaborated_parts t f h in
    subst (λ (g : FilterForm). (depths-first g.first ≤ nests-first t.prework) × (depths g.body.steps ≤ nests t.work.block)) e.is
    (first-below t.prework e.fields e.prework (slots_for e.prework e.work.body.slots) e.prework_is, work-below 1 t.work e.fields e.work e.work_is)
