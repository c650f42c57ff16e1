-- What is read is well formed, and within its limits.
use Rattle.std.proofs.Common.{◌≡◌, ℕ, zero, suc, ℤ, pos, ◌+◌, ◌<◌, ◌≤◌, true, List, [], ◌∷◌, ◌++◌, length, map, Option, Some, None, Ok, refl, sym, ap}
use Rattle.std.proofs.Common.{◌∙◌, subst, arith, nat_lt, nat_le, length-append, append_assoc}
use Rattle.std.specs.Prelude.{◌&&◌, max, slice_get}
use Rattle.std.specs.List.{list_all}
use Rattle.std.proofs.lemmas.Bool.{and_parts, and_from, lt-ltb, le-leb, eq-eqb, ltb-true, leb-true, eqb-true}
use Rattle.std.proofs.lemmas.List.Folds.{list_all-append}
use Rattle.std.proofs.lemmas.Option.{same_Some}
use Rattle.river_base.proofs.Lists.{got_mid}
use Rattle.work_code.specs.Term.{Term}
use Rattle.work_code.specs.Term as term
use Rattle.work_code.specs.Steps.{Step, Steps, Done, both_steps, one_step}
use Rattle.work_code.specs.Steps as steps
use Rattle.kern_tables.specs.declared.kind.TableKind.{TableKind}
use Rattle.kern_tables.specs.declared.kind.TableKind.TheVariants.{Sum, Collection, Maximum}
use Rattle.kern_tables.specs.Tables.{table_width}
use Rattle.river_kernels.specs.Formed.{is_sound, is_term, is_step, is_steps, counts, has_port}
use Rattle.river_kernels.specs.Limits.{size}
use Rattle.river_plan.specs.Forms.{Name}
use Rattle.river_plan.specs.declared.plan.TableDecl.{TableDecl}
use Rattle.saw_text.specs.Tree.{Expression}
use Rattle.saw_text.specs.Tree as tree
use Rattle.saw_text.specs.Tree.{Statement, Declare, Assign, Emit, If, Block, End, Then, Optional, Unwritten, Written, UnitForm, TableUnit, StatementUnit, Program}
use Rattle.saw_model.specs.Meaning.{tables_in, listed, emit_row, reach, table_kind, table_decl}
use Rattle.saw_model.specs.Meaning.{reach_all, reach_statement, reach_block, reach_optional, reach_parts}
use Rattle.saw_model.specs.Shallow.{IsLow, AreLow, IsShallow, AreShallow, AreShallowOptional, AreShallowUnits}
use Rattle.saw_model.specs.declared.fault.Fault.TheVariants.{Limit}
use Rattle.saw_model.specs.Elaborate.{on_ok, KnownName, Var, Port, Scope, find, named, term_of, At, first_term, indexes_of, keys_in, weight_of}
use Rattle.saw_model.specs.Elaborate.{step_of, steps_of, steps_optional, unit_judged}
use Rattle.saw_model.proofs.Elaborated.{fine, ok_is, ok_parts, if_ok, if_both, IsSound, ArePorts, more_slots, sound_port, one_more}
use Rattle.saw_model.proofs.Statements.{second_at, declared_parts, assigned_parts, sent_parts, forked_parts, followed_parts, grows, grows_all, grows_optional}
use Rattle.saw_model.proofs.Parts.{parts_read, tabled_parts, split_parts, parts_slots, ports_new}

-- EXPRESSIONS

-- an expression that is read reads at most 16 fields
term_reach : (sc : Scope) (t : Expression) (u : Term) → term_of sc t ≡ Ok u → reach t ≤ 16
term_reach sc (tree.Number v) u h = omega arith
term_reach sc (tree.Name n) u h = omega arith
term_reach sc (tree.Input p) u h = let e = leb-true p 15 (if_both (nat_le p 15) (Ok (term.Input p)) u Limit h).0 in omega (arith, e)
term_reach sc (tree.Neg t) u h = let p = ok_parts (term_of sc t) (λ a. Ok (term.Neg a)) u h in term_reach sc t p.0 p.1
term_reach sc (tree.Not t) u h = let p = ok_parts (term_of sc t) (λ a. Ok (term.Not a)) u h in term_reach sc t p.0 p.1
term_reach sc (tree.Bin o l r) u h =
    let p = ok_parts (term_of sc l) (λ a. on_ok (term_of sc r) (λ b. Ok (term.Bin o a b))) u h in
    let q = ok_parts (term_of sc r) (λ b. Ok (term.Bin o p.0 b)) u p.2 in
    let a = term_reach sc l p.0 p.1 in
    let b = term_reach sc r q.0 q.1 in
    omega (arith, a, b)

first_reach : (t : Option Expression) (sc : Scope) (u : Term) → first_term t sc ≡ Ok u → reach_all (listed t) ≤ 16
first_reach None sc u h = omega arith
first_reach (Some t) sc u h = let a = term_reach sc t u h in omega (arith, a)

indexes_reach : (sc : Scope) (n : ℕ) (ts : List Expression) (us : List Term) → indexes_of sc n ts ≡ Ok us → reach_all ts ≤ 16
indexes_reach sc n [] us h = omega arith
indexes_reach sc n (t ∷ ts) us h =
    let c = if_ok (nat_lt n 8) (on_ok (term_of sc t) (λ u. on_ok (indexes_of sc (n + 1) ts) (λ us. Ok (u ∷ us)))) us Limit h in
    let p = ok_parts (term_of sc t) (λ u. on_ok (indexes_of sc (n + 1) ts) (λ us. Ok (u ∷ us))) us c in
    let q = ok_parts (indexes_of sc (n + 1) ts) (λ us. Ok (p.0 ∷ us)) us p.2 in
    let a = term_reach sc t p.0 p.1 in
    let b = indexes_reach sc (n + 1) ts q.0 q.1 in
    omega (arith, a, b)

weight_reach : (k : TableKind) (t : Option Expression) (sc : Scope) (us : List Term) → weight_of k t sc ≡ Ok us → reach_all (listed t) ≤ 16
weight_reach (Sum keys) None sc us h = omega arith
weight_reach (Sum keys) (Some t) sc us h = absurd (cc h)
weight_reach (Collection keys) None sc us h = omega arith
weight_reach (Collection keys) (Some t) sc us h = absurd (cc h)
weight_reach (Maximum best keys) None sc us h = omega arith
weight_reach (Maximum best keys) (Some t) sc us h =
    let p = ok_parts (term_of sc t) (λ u. Ok (u ∷ [])) us h in let a = term_reach sc t p.0 p.1 in omega (arith, a)

all_reach : (xs ys : List Expression) → reach_all xs ≤ 16 → reach_all ys ≤ 16 → reach_all (xs ++ ys) ≤ 16
all_reach [] ys h k = k
all_reach (x ∷ xs) ys h k = let a = all_reach xs ys (omega (arith, h)) k in omega (arith, a, h)

mutual
  step_reach : (c : Statement) (s : At) (y : Steps × At) → step_of c s ≡ fine y → reach_statement c ≤ 16
  step_reach (Declare n t) s y h = let d = declared_parts n t s y h in first_reach t s.scope d.value d.value_is
  step_reach (Assign n t) s y h = let d = assigned_parts n t s y h in term_reach s.scope t d.value d.value_is
  step_reach (Emit t is v w) s y h =
      let d = sent_parts t is v w s y h in
      let a = term_reach s.scope v d.value d.value_is in
      let b = weight_reach d.port.1 w s.scope d.weights d.weights_is in
      all_reach is (v ∷ listed w) (indexes_reach s.scope 0 is d.indexes d.indexes_is) (omega (arith, a, b))
  step_reach (If t a b) s y h =
      let d = forked_parts t a b s y h in
      let x = term_reach s.scope t d.cond d.cond_is in
      let f = steps_reach a (one_more s) d.first d.first_is in
      let g = optional_reach b (second_at s d.first) d.second d.second_is in
      omega (arith, x, f, g)

  steps_reach : (b : Block) (s : At) (y : Steps × At) → steps_of b s ≡ fine y → reach_block b ≤ 16
  steps_reach End s y h = omega arith
  steps_reach (Then c b) s y h =
      let d = followed_parts c b s y h in
      let f = step_reach c s d.first d.first_is in
      let g = steps_reach b d.first.1 d.others d.others_is in
      omega (arith, f, g)

  optional_reach : (o : Optional) (s : At) (y : Steps × At) → steps_optional o s ≡ fine y → reach_optional o ≤ 16
  optional_reach Unwritten s y h = omega arith
  optional_reach (Written b) s y h = steps_reach b s y h

-- an accepted program reads at most 16 fields
pub parts_reach : (p : Program) (s : At) (y : Steps × At) → parts_read p s ≡ fine y → reach_parts p ≤ 16
parts_reach [] s y h = omega arith
parts_reach (TableUnit tb ∷ ps) s y h = let d = split_parts (TableUnit tb) ps s y h in parts_reach ps d.first.1 d.others d.others_is
parts_reach (StatementUnit c ∷ ps) s y h =
    let d = split_parts (StatementUnit c) ps s y h in
    let f = step_reach c s d.first d.first_is in
    let g = parts_reach ps d.first.1 d.others d.others_is in
    omega (arith, f, g)

-- HOW MANY STATEMENTS AND SLOTS

size_joined : (a b : Steps) → size (both_steps a b) ≡ size a + size b
size_joined Done b = omega arith
size_joined (steps.Then c a) b = let e = size_joined a b in omega (arith, e)

pub record Counts (s : At) (y : Steps × At) : Type 0 where
  pub size : size y.0 + s.size ≡ y.1.size
  pub small : s.size ≤ 16384 → y.1.size ≤ 16384
  pub few : s.slots ≤ 256 → y.1.slots ≤ 256

counts_both : (s : At) (a b : Steps × At) → Counts s a → Counts a.1 b → Counts s (both_steps a.0 b.0, b.1)
counts_both s a b f g =
    let z = size_joined a.0 b.0 in let x = f.size in let y = g.size in
    record { size = omega (arith, z, x, y); small = λ h. g.small (f.small h); few = λ h. g.few (f.few h) }

mutual
  step_counts : (c : Statement) (s : At) (y : Steps × At) → step_of c s ≡ fine y → Counts s y
  step_counts (Declare n t) s y h =
      let d = declared_parts n t s y h in let r = ltb-true s.size 16384 d.room in let f = ltb-true s.slots 256 d.few in
      subst (Counts s) d.is (record { size = omega arith; small = λ h. omega (arith, r); few = λ h. omega (arith, f) })
  step_counts (Assign n t) s y h =
      let d = assigned_parts n t s y h in let r = ltb-true s.size 16384 d.room in
      subst (Counts s) d.is (record { size = omega arith; small = λ h. omega (arith, r); few = λ h. h })
  step_counts (Emit t is v w) s y h =
      let d = sent_parts t is v w s y h in let r = ltb-true s.size 16384 d.room in
      subst (Counts s) d.made (record { size = omega arith; small = λ h. omega (arith, r); few = λ h. h })
  step_counts (If t a b) s y h =
      let d = forked_parts t a b s y h in let r = ltb-true s.size 16384 d.room in
      let f = steps_count a (one_more s) d.first d.first_is in
      let g = optional_counts b (second_at s d.first) d.second d.second_is in
      let x = f.size in let z = g.size in
      subst (Counts s) d.is (record { size = omega (arith, x, z); small = λ h. g.small (f.small (omega (arith, r))); few = λ h. g.few (f.few h) })

  steps_count : (b : Block) (s : At) (y : Steps × At) → steps_of b s ≡ fine y → Counts s y
  steps_count End s y h = subst (Counts s) (ok_is (Done, s) y h) (record { size = omega arith; small = λ h. h; few = λ h. h })
  steps_count (Then c b) s y h =
      let d = followed_parts c b s y h in
      subst (Counts s) d.is (counts_both s d.first d.others (step_counts c s d.first d.first_is) (steps_count b d.first.1 d.others d.others_is))

  optional_counts : (o : Optional) (s : At) (y : Steps × At) → steps_optional o s ≡ fine y → Counts s y
  optional_counts Unwritten s y h = subst (Counts s) (ok_is (Done, s) y h) (record { size = omega arith; small = λ h. h; few = λ h. h })
  optional_counts (Written b) s y h = steps_count b s y h

part_counts : (c : UnitForm) (s : At) (y : Steps × At) → unit_judged c s ≡ fine y → Counts s y
part_counts (TableUnit tb) s y h = let d =
    tabled_parts tb.name (table_kind tb) s y h in subst (Counts s) d.is (record { size = omega arith; small = λ h. h; few = λ h. h })
part_counts (StatementUnit c) s y h = step_counts c s y h

-- and has at most 16,384 statements
pub parts_count : (p : Program) (s : At) (y : Steps × At) → parts_read p s ≡ fine y → Counts s y
parts_count [] s y h = subst (Counts s) (ok_is (Done, s) y h) (record { size = omega arith; small = λ h. h; few = λ h. h })
parts_count (c ∷ ps) s y h =
    let d = split_parts c ps s y h in
    subst (Counts s) d.is (counts_both s d.first d.others (part_counts c s d.first d.first_is) (parts_count ps d.first.1 d.others d.others_is))

-- THE BODY

-- the widths of the tables
abbrev pub widths_of : List TableDecl → List ℤ
widths_of ts = map (λ t. pos (table_width t.kind)) ts

width_got : (ts : List TableDecl) (p : ℕ) (t : TableDecl) → slice_get ts p ≡ Some t → slice_get (widths_of ts) p ≡ Some (pos (table_width t.kind))
width_got [] p t h = absurd (cc h)
width_got (u ∷ us) zero t h = ap (λ (x : TableDecl). Some (pos (table_width x.kind))) (same_Some u t h)
width_got (u ∷ us) (suc p) t h = width_got us p t h

-- as many terms as indexes
pub indexes_many : (sc : Scope) (n : ℕ) (ts : List Expression) (us : List Term) → indexes_of sc n ts ≡ Ok us → length us ≡ length ts
indexes_many sc n [] us h = ap length (sym (ok_is [] us h))
indexes_many sc n (t ∷ ts) us h =
    let c = if_ok (nat_lt n 8) (on_ok (term_of sc t) (λ u. on_ok (indexes_of sc (n + 1) ts) (λ us. Ok (u ∷ us)))) us Limit h in
    let p = ok_parts (term_of sc t) (λ u. on_ok (indexes_of sc (n + 1) ts) (λ us. Ok (u ∷ us))) us c in
    let q = ok_parts (indexes_of sc (n + 1) ts) (λ us. Ok (p.0 ∷ us)) us p.2 in
    ap length (sym (ok_is (p.0 ∷ q.0) us q.2)) ∙ ap suc (indexes_many sc (n + 1) ts q.0 q.1)

-- keys, a value and a weight, if there is one, are as many as the table is wide
pub weight_many : (k : TableKind) (t : Option Expression) (sc : Scope) (us : List Term) → weight_of k t sc ≡ Ok us → keys_in k + suc (length us) ≡ table_width k
weight_many (Sum keys) None sc us h = let e = ap length (ok_is [] us h) in omega (arith, e)
weight_many (Sum keys) (Some t) sc us h = absurd (cc h)
weight_many (Collection keys) None sc us h = let e = ap length (ok_is [] us h) in omega (arith, e)
weight_many (Collection keys) (Some t) sc us h = absurd (cc h)
weight_many (Maximum best keys) None sc us h = absurd (cc h)
weight_many (Maximum best keys) (Some t) sc us h =
    let p = ok_parts (term_of sc t) (λ u. Ok (u ∷ [])) us h in
    let e = ap length (ok_is (p.0 ∷ []) us p.2) in omega (arith, e)

module _ (w m : ℕ) (ts : List TableDecl) where
  -- so many inputs and slots are enough, and it is no deeper than what was written
  abbrev Fits : ℕ → Term → Type 0
  Fits d u = (is_sound w m u ≡ true) × (term.depth_of u ≤ d)

  abbrev AreBelow : Scope → Type 0
  AreBelow sc = (n : Name) (i : ℕ) → find sc n ≡ Some (Var i) → i < m

  named_fits : (o : Option KnownName) (u : Term) → ((i : ℕ) → o ≡ Some (Var i) → i < m) → named o ≡ Ok u → Fits 1 u
  named_fits None u h c = absurd (cc c)
  named_fits (Some (Var i)) u h c = subst (Fits 1) (ok_is (term.Slot i) u c) (lt-ltb i m (h i refl), omega arith)
  named_fits (Some (Port p k)) u h c = absurd (cc c)

  term_fits : (sc : Scope) (t : Expression) (u : Term) → reach t ≤ w → AreBelow sc → term_of sc t ≡ Ok u → Fits (tree.depth_of t) u
  term_fits sc (tree.Number v) u le b c = subst (Fits 1) (ok_is (term.Const (pos v)) u c) (refl, omega arith)
  term_fits sc (tree.Name n) u le b c = named_fits (find sc n) u (b n) c
  term_fits sc (tree.Input p) u le b c =
      subst (Fits 1) (ok_is (term.Input p) u (if_ok (nat_le p 15) (Ok (term.Input p)) u Limit c)) (lt-ltb p w (omega (arith, le)), omega arith)
  term_fits sc (tree.Neg t) u le b c =
      let q = ok_parts (term_of sc t) (λ a. Ok (term.Neg a)) u c in
      let i = term_fits sc t q.0 le b q.1 in
      let d = i.1 in
      subst (Fits (suc (tree.depth_of t))) (ok_is (term.Neg q.0) u q.2) (i.0, omega (arith, d))
  term_fits sc (tree.Not t) u le b c =
      let q = ok_parts (term_of sc t) (λ a. Ok (term.Not a)) u c in
      let i = term_fits sc t q.0 le b q.1 in
      let d = i.1 in
      subst (Fits (suc (tree.depth_of t))) (ok_is (term.Not q.0) u q.2) (i.0, omega (arith, d))
  term_fits sc (tree.Bin o l r) u le b c =
      let q = ok_parts (term_of sc l) (λ a. on_ok (term_of sc r) (λ b. Ok (term.Bin o a b))) u c in
      let v = ok_parts (term_of sc r) (λ b. Ok (term.Bin o q.0 b)) u q.2 in
      let i = term_fits sc l q.0 (omega (arith, le)) b q.1 in
      let j = term_fits sc r v.0 (omega (arith, le)) b v.1 in
      let d = i.1 in let g = j.1 in
      subst (Fits (suc (max (tree.depth_of l) (tree.depth_of r)))) (ok_is (term.Bin o q.0 v.0) u v.2)
      (and_from (is_sound w m q.0) (is_sound w m v.0) i.0 j.0, omega (arith, d, g))

  is_one : (d : ℕ) (u : Term) → d ≤ 64 → Fits d u → is_term w m u ≡ true
  is_one d u low f = let e = f.1 in and_from (is_sound w m u) (nat_le (term.depth_of u) 64) f.0 (le-leb (term.depth_of u) 64 (omega (arith, e, low)))

  one_fits : (sc : Scope) (t : Expression) (u : Term) → IsLow t → reach t ≤ w → AreBelow sc → term_of sc t ≡ Ok u → is_term w m u ≡ true
  one_fits sc t u low le b h = is_one (tree.depth_of t) u low (term_fits sc t u le b h)

  first_fits : (sc : Scope) (t : Option Expression) (u : Term) → AreLow (listed t) → reach_all (listed t) ≤ w → AreBelow sc → first_term t sc ≡ Ok u
      → is_term w m u ≡ true
  first_fits sc None u low le b h = is_one 1 u (omega arith) (subst (Fits 1) (ok_is (term.Const (pos 0)) u h) (refl, omega arith))
  first_fits sc (Some t) u low le b h = one_fits sc t u low.0 (omega (arith, le)) b h

  indexes_fit : (sc : Scope) (n : ℕ) (is : List Expression) (us : List Term) → AreLow is → reach_all is ≤ w → AreBelow sc → indexes_of sc n is ≡ Ok us
      → list_all (is_term w m) us ≡ true
  indexes_fit sc n [] us low le b h = ap (list_all (is_term w m)) (sym (ok_is [] us h))
  indexes_fit sc n (t ∷ is) us low le b h =
      let c = if_ok (nat_lt n 8) (on_ok (term_of sc t) (λ u. on_ok (indexes_of sc (n + 1) is) (λ us. Ok (u ∷ us)))) us Limit h in
      let p = ok_parts (term_of sc t) (λ u. on_ok (indexes_of sc (n + 1) is) (λ us. Ok (u ∷ us))) us c in
      let q = ok_parts (indexes_of sc (n + 1) is) (λ us. Ok (p.0 ∷ us)) us p.2 in
      ap (list_all (is_term w m)) (sym (ok_is (p.0 ∷ q.0) us q.2))
      ∙ and_from (is_term w m p.0) (list_all (is_term w m) q.0) (one_fits sc t p.0 low.0 (omega (arith, le)) b p.1)
      (indexes_fit sc (n + 1) is q.0 low.1 (omega (arith, le)) b q.1)

  weight_fits : (k : TableKind) (t : Option Expression) (sc : Scope) (us : List Term) → AreLow (listed t) → reach_all (listed t) ≤ w → AreBelow sc
      → weight_of k t sc ≡ Ok us → list_all (is_term w m) us ≡ true
  weight_fits (Sum keys) None sc us low le b h = ap (list_all (is_term w m)) (sym (ok_is [] us h))
  weight_fits (Sum keys) (Some t) sc us low le b h = absurd (cc h)
  weight_fits (Collection keys) None sc us low le b h = ap (list_all (is_term w m)) (sym (ok_is [] us h))
  weight_fits (Collection keys) (Some t) sc us low le b h = absurd (cc h)
  weight_fits (Maximum best keys) None sc us low le b h = absurd (cc h)
  weight_fits (Maximum best keys) (Some t) sc us low le b h =
      let p = ok_parts (term_of sc t) (λ u. Ok (u ∷ [])) us h in
      ap (list_all (is_term w m)) (sym (ok_is (p.0 ∷ []) us p.2)) ∙ and_from (is_term w m p.0) true (one_fits sc t p.0 low.0 (omega (arith, le)) b p.1) refl

  below_of : (s : At) → IsSound s.scope s.slots → s.slots ≤ m → AreBelow s.scope
  below_of s ok le n i f = let b = ok.below n i f in omega (arith, b, le)

  abbrev outs : List ℤ
  outs = widths_of ts

  steps_joined : (a b : Steps) → is_steps w m outs a ≡ true → is_steps w m outs b ≡ true → is_steps w m outs (both_steps a b) ≡ true
  steps_joined Done b h g = g
  steps_joined (steps.Then c a) b h g =
      let q = and_parts (is_step w m outs c) (is_steps w m outs a) h in
      and_from (is_step w m outs c) (is_steps w m outs (both_steps a b)) q.0 (steps_joined a b q.1 g)

  one_formed : (c : Step) → is_step w m outs c ≡ true → is_steps w m outs (one_step c) ≡ true
  one_formed c h = and_from (is_step w m outs c) true h refl

  abbrev Formed : Steps × At → Type 0
  Formed y = is_steps w m outs y.0 ≡ true

  set_formed : (i : ℕ) (u : Term) → i < m → is_term w m u ≡ true → is_steps w m outs (one_step (steps.Set i u)) ≡ true
  set_formed i u lt h = one_formed (steps.Set i u) (and_from (nat_lt i m) (is_term w m u) (lt-ltb i m lt) h)

  reach_parts_of : (is : List Expression) (v : Expression) (t : Option Expression) → reach_all (emit_row is v t) ≤ w
      → (reach_all is ≤ w) × (reach v ≤ w) × (reach_all (listed t) ≤ w)
  reach_parts_of [] v t h = (omega arith, omega (arith, h), omega (arith, h))
  reach_parts_of (i ∷ is) v t h = let r = reach_parts_of is v t (omega (arith, h)) in let a = r.0 in (omega (arith, h, a), r.1, r.2)

  mutual
    step_formed : (c : Statement) (s : At) (y : Steps × At) → IsShallow c → reach_statement c ≤ w → step_of c s ≡ fine y → IsSound s.scope s.slots
        → ArePorts ts s.scope → y.1.slots ≤ m → Formed y
    step_formed (Declare n t) s y low le h ok ports sl =
        let d = declared_parts n t s y h in
        let room : s.slots + 1 ≤ m = subst (λ (q : Steps × At). q.1.slots ≤ m) (sym d.is) sl in
        subst Formed d.is (set_formed s.slots d.value (omega (arith, room))
        (first_fits s.scope t d.value low le (below_of s ok (omega (arith, room))) d.value_is))
    step_formed (Assign n t) s y low le h ok ports sl =
        let d = assigned_parts n t s y h in
        let room : s.slots ≤ m = subst (λ (q : Steps × At). q.1.slots ≤ m) (sym d.is) sl in
        let b = below_of s ok room in
        subst Formed d.is (set_formed d.slot d.value (b n d.slot d.slot_there) (one_fits s.scope t d.value low le b d.value_is))
    step_formed (Emit t is v wt) s y low le h ok ports sl =
        let d = sent_parts t is v wt s y h in
        let room : s.slots ≤ m = subst (λ (q : Steps × At). q.1.slots ≤ m) (sym d.made) sl in
        let b = below_of s ok room in
        let r = reach_parts_of is v wt le in
        let all = d.indexes ++ d.value ∷ d.weights in
        let there = width_got ts d.port.0 (record { name = t; kind = d.port.1 }) (ports.port t d.port.0 d.port.1 d.port_there) in
        let many : length all ≡ table_width d.port.1 =
        (let a = length-append d.indexes (d.value ∷ d.weights) in let c = indexes_many s.scope 0 is d.indexes d.indexes_is in
        let e = eqb-true (length is) (keys_in d.port.1) d.shape in let f =
        weight_many d.port.1 wt s.scope d.weights d.weights_is in omega (arith, a, c, e, f)) in
        let port : has_port outs d.port.0 (length all) ≡ true = ap (λ o. counts o (length all)) there ∙ eq-eqb (table_width d.port.1) (length all) (sym many) in
        let terms : list_all (is_term w m) all ≡ true =
        list_all-append (is_term w m) d.indexes (d.value ∷ d.weights)
        ∙ and_from (list_all (is_term w m) d.indexes) (list_all (is_term w m) (d.value ∷ d.weights))
        (indexes_fit s.scope 0 is d.indexes low.0 r.0 b d.indexes_is)
        (and_from (is_term w m d.value) (list_all (is_term w m) d.weights) (one_fits s.scope v d.value low.1 r.1 b d.value_is)
        (weight_fits d.port.1 wt s.scope d.weights low.2 r.2 b d.weights_is)) in
        subst Formed d.made (one_formed (steps.Push d.port.0 all) (and_from (has_port outs d.port.0 (length all)) (list_all (is_term w m) all) port terms))
    step_formed (If t a b) s y low le h ok ports sl =
        let d = forked_parts t a b s y h in
        let g = grows_all a (one_more s) d.first d.first_is in
        let e = grows_optional b (second_at s d.first) d.second d.second_is in
        let last : d.second.1.slots ≤ m = subst (λ (q : Steps × At). q.1.slots ≤ m) (sym d.is) sl in
        let l1 : d.first.1.slots ≤ m = (let x = e.slots in omega (arith, x, last)) in
        let gs = g.slots in
        let cond = one_fits s.scope t d.cond low.0 (omega (arith, le)) (below_of s ok (omega (arith, gs, l1))) d.cond_is in
        let x = steps_formed a (one_more s) d.first low.1 (omega (arith, le)) d.first_is ok ports l1 in
        let z = optional_formed b (second_at s d.first) d.second low.2 (omega (arith, le)) d.second_is
        (more_slots s.scope s.slots d.first.1.slots gs ok) ports last in
        subst Formed d.is (one_formed (steps.If d.cond d.first.0 d.second.0)
        (and_from (is_term w m d.cond) (is_steps w m outs d.first.0 && is_steps w m outs d.second.0) cond
        (and_from (is_steps w m outs d.first.0) (is_steps w m outs d.second.0) x z)))

    steps_formed : (b : Block) (s : At) (y : Steps × At) → AreShallow b → reach_block b ≤ w → steps_of b s ≡ fine y → IsSound s.scope s.slots
        → ArePorts ts s.scope → y.1.slots ≤ m → Formed y
    steps_formed End s y low le h ok ports sl = subst Formed (ok_is (Done, s) y h) refl
    steps_formed (Then c b) s y low le h ok ports sl =
        let d = followed_parts c b s y h in
        let g = grows c s d.first d.first_is in
        let e = grows_all b d.first.1 d.others d.others_is in
        let last : d.others.1.slots ≤ m = subst (λ (q : Steps × At). q.1.slots ≤ m) (sym d.is) sl in
        let es = e.slots in
        let x = step_formed c s d.first low.0 (omega (arith, le)) d.first_is ok ports (omega (arith, es, last)) in
        let z = steps_formed b d.first.1 d.others low.1 (omega (arith, le)) d.others_is (g.sound ok) (g.ports ts ports) last in
        subst Formed d.is (steps_joined d.first.0 d.others.0 x z)

    optional_formed : (o : Optional) (s : At) (y : Steps × At) → AreShallowOptional o → reach_optional o ≤ w → steps_optional o s ≡ fine y
        → IsSound s.scope s.slots → ArePorts ts s.scope → y.1.slots ≤ m → Formed y
    optional_formed Unwritten s y low le h ok ports sl = subst Formed (ok_is (Done, s) y h) refl
    optional_formed (Written b) s y low le h ok ports sl = steps_formed b s y low le h ok ports sl

  -- its body is right in itself
  pub parts_formed : (p : Program) (s : At) (y : Steps × At) (done : List TableDecl) → AreShallowUnits p → reach_parts p ≤ w → parts_read p s ≡ fine y
      → IsSound s.scope s.slots → ArePorts ts s.scope → y.1.slots ≤ m
      → ts ≡ done ++ tables_in p → s.tables ≡ length done → Formed y
  parts_formed [] s y done low le h ok ports sl t e = subst Formed (ok_is (Done, s) y h) refl
  parts_formed (TableUnit tb ∷ ps) s y done low le h ok ports sl t e =
      let d = split_parts (TableUnit tb) ps s y h in
      let here = tabled_parts tb.name (table_kind tb) s d.first d.first_is in
      let decl : TableDecl = table_decl tb in
      let got : slice_get ts s.tables ≡ Some decl = ap (slice_get ts) e ∙ ap (λ l. slice_get l (length done)) t ∙ got_mid done decl (tables_in ps) in
      let ok2 : IsSound d.first.1.scope d.first.1.slots =
      subst (λ (q : Steps × At). IsSound q.1.scope q.1.slots) here.is (sound_port tb.name s.tables (table_kind tb) s.scope s.slots ok) in
      let ports2 : ArePorts ts d.first.1.scope =
      subst (λ (q : Steps × At). ArePorts ts q.1.scope) here.is (ports_new ts tb.name s.tables (table_kind tb) s.scope got ports) in
      let e2 : d.first.1.tables ≡ length (done ++ decl ∷ []) = ap (λ (q : Steps × At). q.1.tables) (sym here.is)
      ∙ (let l = length-append done (decl ∷ []) in omega (arith, l, e)) in
      let t2 : ts ≡ (done ++ decl ∷ []) ++ tables_in ps = t ∙ sym (append_assoc done (decl ∷ []) (tables_in ps)) in
      let last : d.others.1.slots ≤ m = subst (λ (q : Steps × At). q.1.slots ≤ m) (sym d.is) sl in
      let x : Formed d.first = subst Formed here.is refl in
      let z = parts_formed ps d.first.1 d.others (done ++ decl ∷ []) low.1 le d.others_is ok2 ports2 last t2 e2 in
      subst Formed d.is (steps_joined d.first.0 d.others.0 x z)
  parts_formed (StatementUnit c ∷ ps) s y done low le h ok ports sl t e =
      let d = split_parts (StatementUnit c) ps s y h in
      let g = grows c s d.first d.first_is in
      let more = parts_slots ps d.first.1 d.others d.others_is in
      let last : d.others.1.slots ≤ m = subst (λ (q : Steps × At). q.1.slots ≤ m) (sym d.is) sl in
      let x = step_formed c s d.first low.0 (omega (arith, le)) d.first_is ok ports (omega (arith, more, last)) in
      let z = parts_formed ps d.first.1 d.others done low.1 (omega (arith, le)) d.others_is (g.sound ok) (g.ports ts ports) last t (g.tables ∙ e) in
      subst Formed d.is (steps_joined d.first.0 d.others.0 x z)
