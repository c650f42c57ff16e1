-- A program is judged place by place: what is known is what the text before says.
use Rattle.std.proofs.Common.{◌≡◌, ℕ, ◌+◌, inl, inr, Bool, true, false, List, [], ◌∷◌, ◌++◌, length, Option, Some, None, refl, sym, ap, ◌∙◌, subst}
use Rattle.std.proofs.Common.{arith, ⊎_elim, append_assoc, append-nil}
use Rattle.std.specs.Prelude.{Result, Ok, Err, if◌then◌else◌, nat_lt, nat_le, nat_eq}
use Rattle.std.proofs.lemmas.Bool.{and_parts, and_cases, ltb-true, ltb-false, leb-true, leb-false, eqb-true, eqb-false}
use Rattle.std.proofs.lemmas.Option.{same_Some, none-some}
use Rattle.river_base.proofs.PlaceLemmas.{if_true, if_false}
use Rattle.river_base.specs.Name.{name_eq}
use Rattle.kern_tables.specs.declared.kind.TableKind.{TableKind}
use Rattle.kern_tables.specs.declared.kind.TableKind.TheVariants.{Sum, Collection, Maximum}
use Rattle.river_plan.specs.Forms.{Name}
use Rattle.river_plan.proofs.NameLemmas.{cases_name}
use Rattle.work_code.specs.Steps.{Steps, both_steps, one_step}
use Rattle.work_code.specs.Steps as steps
use Rattle.work_code.specs.Term.{Term}
use Rattle.work_code.specs.Term as term
use Rattle.saw_text.specs.Tree.{Expression}
use Rattle.saw_text.specs.Tree as tree
use Rattle.saw_text.specs.Tree.{Statement, Declare, Assign, Emit, If, Block, End, Then, Optional, Unwritten, Written, UnitForm, TableUnit, StatementUnit}
use Rattle.saw_model.specs.Meaning.{table_kind}
use Rattle.saw_model.specs.declared.fault.Fault.{Fault}
use Rattle.saw_model.specs.declared.fault.Fault.TheVariants.{UnknownName, NameTwice, Shape, Limit}
use Rattle.saw_model.specs.Elaborate.{on_ok, KnownName as Entry, Var, Port, Scope, find, named, term_of, At}
use Rattle.saw_model.specs.Elaborate.{counted, has_slot, is_new}
use Rattle.saw_model.specs.Elaborate.{slot_of, table_port, first_term, indexes_of, keys_in, weight_of, declared, emitted, step_of}
use Rattle.saw_model.specs.Elaborate.{steps_of, steps_optional, is_best, tabled}
use Rattle.saw_model.specs.Elaborate.{unit_judged}
use Rattle.saw_model.specs.Faults.{IsTwice, IsMaximum, IsNoBest}
use Rattle.saw_model.specs.Places.{Spot, Begins, Enters, Leaves, Names, Reads, Declares, Local, Sets, Emits, Index, Indexed, Weighted}
use Rattle.saw_model.specs.Places.{Unweighted, Tables}
use Rattle.saw_model.specs.Places.{term_spots, value_spots, index_spots, weight_spots, statement_spots, block_spots, optional_spots, unit_spots, What, ALocal, ATable}
use Rattle.saw_model.specs.Places.{known_from_here, stays, IsKnownAs}
use Rattle.saw_model.specs.Places.{is_statement, is_local, is_table, how_many}
use Rattle.saw_model.proofs.Spots.{many_append, steady_stays, known_parts, known_first, known_second, known_behind, quiet_alone, IsPlain, IsAlong}
use Rattle.saw_model.proofs.Spots.{plain_one, along_names}
use Rattle.saw_model.proofs.Spots.{along_reads, along_declares, along_sets, along_emits, along_index, along_indexed, along_weighted, along_unweighted}
use Rattle.saw_model.proofs.Spots.{IsBody, plain_none}
use Rattle.saw_model.proofs.Spots.{plain_body, block_whole, block_body, optional_body}
use Rattle.saw_model.proofs.Verdicts.{IsFine, fine_by, first_unknown, first_twice, first_shape, first_limit, HasFirst, Verdict, then_read, then_is}
use Rattle.saw_model.proofs.Verdicts.{next, by_test}

-- WHAT IS KNOWN

abbrev what_of : Entry → What
what_of (Var i) = ALocal
what_of (Port p k) = ATable k

-- the names in the scope are those that the text before says, with what they are
pub record IsScope (b : List Spot) (sc : Scope) : Type 0 where
  found : (n : Name) (e : Entry) → find sc n ≡ Some e → IsKnownAs b n (what_of e)
  known : (n : Name) (w : What) → IsKnownAs b n w → (e : Entry) × (find sc n ≡ Some e) × (what_of e ≡ w)

-- and so many locals, statements and tables
pub record IsAt (b : List Spot) (s : At) : Type 0 where
  scope : IsScope b s.scope
  slots : s.slots ≡ how_many is_local b
  size : s.size ≡ how_many is_statement b
  tables : s.tables ≡ how_many is_table b

no_local : (k : TableKind) → ATable k ≡ ALocal → ⊥
no_local k h = cc h

no_table : (k : TableKind) → ALocal ≡ ATable k → ⊥
no_table k h = cc h

same_kind : (k j : TableKind) → ATable k ≡ ATable j → k ≡ j
same_kind k j h = cc h

-- a scope that stays
scope_kept : (b ms : List Spot) (sc : Scope) → ((k : ℕ) → stays k ms ≡ true) → ((n : Name) (w : What) → IsKnownAs ms n w → ⊥) → IsScope b sc
    → IsScope (b ++ ms) sc
scope_kept b ms sc s none a = record {
  found = λ n e h. known_first b ms n (what_of e) s (a.found n e h);
  known = λ n w d. ⊎_elim (λ x. a.known n w x) (λ x. absurd (none n w x)) (known_parts b ms n w s d);
}

given_is : (a c : Name × What) → Some a ≡ Some c → (a.0 ≡ c.0) × (a.1 ≡ c.1)
given_is a c h = let e : a ≡ c = cc h in (ap (λ x. x.0) e, ap (λ x. x.1) e)

-- a name that was not known
scope_named : (b : List Spot) (m : Spot) (sc : Scope) (n : Name) (e : Entry) → known_from_here m ≡ Some (n, what_of e)
    → ((k : ℕ) → stays k (m ∷ []) ≡ true)
    → find sc n ≡ None
    → IsScope b sc
    → IsScope (b ++ m ∷ []) ((n, e) ∷ sc)
scope_named b m sc n e g s new a = record {
  found = λ x y h. ⊎_elim
      (λ c.
      let d = same_Some e y (sym (if_true (name_eq n x) (Some e) (find sc x) c.1) ∙ h) in
      known_second b (m ∷ []) x (what_of y) (inl (g ∙ ap (λ z. Some (z, what_of e)) c.0 ∙ ap (λ z. Some (x, what_of z)) d, refl)))
      (λ c. known_first b (m ∷ []) x (what_of y) s (a.found x y (sym (if_false (name_eq n x) (Some e) (find sc x) c.1) ∙ h)))
      (cases_name n x);
  known = λ x w d. ⊎_elim
      (λ k.
      let r = a.known x w k in ⊎_elim
      (λ c. absurd (none-some r.0 (sym new ∙ ap (find sc) c.0 ∙ r.1)))
      (λ c. (r.0, if_false (name_eq n x) (Some e) (find sc x) c.1 ∙ r.1, r.2))
      (cases_name n x))
      (λ k. ⊎_elim
      (λ h.
      let i = given_is (n, what_of e) (x, w) (sym g ∙ h.0) in ⊎_elim
      (λ c. (e, if_true (name_eq n x) (Some e) (find sc x) c.1, i.1))
      (λ c. absurd (c.0 i.0))
      (cases_name n x))
      (λ h. absurd h)
      k)
      (known_parts b (m ∷ []) x w s d);
}

-- behind a plain text all is as before
plain_at : (b ms : List Spot) (s : At) → IsPlain ms → IsAt b s → IsAt (b ++ ms) s
plain_at b ms s p a = record {
  scope = scope_kept b ms s.scope (steady_stays ms p.steady) (λ n w d. quiet_alone ms p.quiet n w d) a.scope;
  slots = let e = many_append is_local b ms in let x = p.locals in let y = a.slots in omega (arith, e, x, y);
  size = let e = many_append is_statement b ms in let x = p.statements in let y = a.size in omega (arith, e, x, y);
  tables = let e = many_append is_table b ms in let x = p.tables in let y = a.tables in omega (arith, e, x, y);
}

along_at : (b : List Spot) (m : Spot) (s : At) → IsAlong m → IsAt b s → IsAt (b ++ m ∷ []) s
along_at b m s g a = plain_at b (m ∷ []) s (plain_one m g) a

none_at : (b : List Spot) (s : At) → IsAt b s → IsAt (b ++ []) s
none_at b s a = subst (λ x. IsAt x s) (sym (append-nil b)) a

-- one statement more
begun_at : (b : List Spot) (s : At) → IsAt b s → IsAt (b ++ Begins ∷ []) (record s { size = s.size + 1 })
begun_at b s a = record {
  scope = scope_kept b (Begins ∷ []) s.scope (λ k. refl) (λ n w d. known_behind Begins [] n w refl d) a.scope;
  slots = let e = many_append is_local b (Begins ∷ []) in let y = a.slots in omega (arith, e, y);
  size = let e = many_append is_statement b (Begins ∷ []) in let y = a.size in omega (arith, e, y);
  tables = let e = many_append is_table b (Begins ∷ []) in let y = a.tables in omega (arith, e, y);
}

entered_at : (b : List Spot) (s : At) → IsAt b s → IsAt (b ++ Enters ∷ []) s
entered_at b s a = record {
  scope = scope_kept b (Enters ∷ []) s.scope (λ k. refl) (λ n w d. known_behind Enters [] n w refl d) a.scope;
  slots = let e = many_append is_local b (Enters ∷ []) in let y = a.slots in omega (arith, e, y);
  size = let e = many_append is_statement b (Enters ∷ []) in let y = a.size in omega (arith, e, y);
  tables = let e = many_append is_table b (Enters ∷ []) in let y = a.tables in omega (arith, e, y);
}

-- a block that was left: the names from before, and the numbers from its end
left_at : (b ms : List Spot) (s q r : At) → IsBody ms → IsScope b s.scope → IsAt ((b ++ Enters ∷ []) ++ ms) q → r.scope ≡ s.scope → r.slots ≡ q.slots
    → r.size ≡ q.size
    → r.tables ≡ q.tables
    → IsAt (((b ++ Enters ∷ []) ++ ms) ++ Leaves ∷ []) r
left_at b ms s q r body a z e1 e2 e3 e4 =
    let inner = (b ++ Enters ∷ []) ++ ms in
    let whole = Enters ∷ (ms ++ Leaves ∷ []) in
    let same : inner ++ Leaves ∷ [] ≡ b ++ whole = append_assoc (b ++ Enters ∷ []) ms (Leaves ∷ []) ∙ append_assoc b (Enters ∷ []) (ms ++ Leaves ∷ []) in
    let block = block_whole ms [] body (plain_body [] plain_none) in
    let none = λ (n : Name) (w : What) (d : IsKnownAs whole n w).
    known_behind Leaves [] n w refl (body.shut (Leaves ∷ []) n w refl (known_behind Enters (ms ++ Leaves ∷ []) n w refl d)) in
    record {
      scope = subst (λ x. IsScope x r.scope) (sym same) (subst (IsScope (b ++ whole)) (sym e1)
          (scope_kept b whole s.scope (steady_stays whole block.steady) none a));
      slots = let e = many_append is_local inner (Leaves ∷ []) in let y = z.slots in omega (arith, e, y, e2);
      size = let e = many_append is_statement inner (Leaves ∷ []) in let y = z.size in omega (arith, e, y, e3);
      tables = let e = many_append is_table inner (Leaves ∷ []) in let y = z.tables in omega (arith, e, y, e4);
    }

local_at : (b : List Spot) (n : Name) (s : At) → find s.scope n ≡ None → IsAt b s
    → IsAt (b ++ Local n ∷ []) (record s { scope = (n, Var s.slots) ∷ s.scope; slots = s.slots + 1 })
local_at b n s new a = record {
  scope = scope_named b (Local n) s.scope n (Var s.slots) refl (λ k. refl) new a.scope;
  slots = let e = many_append is_local b (Local n ∷ []) in let y = a.slots in omega (arith, e, y);
  size = let e = many_append is_statement b (Local n ∷ []) in let y = a.size in omega (arith, e, y);
  tables = let e = many_append is_table b (Local n ∷ []) in let y = a.tables in omega (arith, e, y);
}

table_at : (b : List Spot) (n : Name) (k : TableKind) (s : At) → find s.scope n ≡ None → IsAt b s
    → IsAt (b ++ Tables n k ∷ []) (record s { scope = (n, Port s.tables k) ∷ s.scope; tables = s.tables + 1 })
table_at b n k s new a = record {
  scope = scope_named b (Tables n k) s.scope n (Port s.tables k) refl (λ j. refl) new a.scope;
  slots = let e = many_append is_local b (Tables n k ∷ []) in let y = a.slots in omega (arith, e, y);
  size = let e = many_append is_statement b (Tables n k ∷ []) in let y = a.size in omega (arith, e, y);
  tables = let e = many_append is_table b (Tables n k ∷ []) in let y = a.tables in omega (arith, e, y);
}

-- no name of this spelling is known
unknown : (b : List Spot) (n : Name) (w : What) (s : At) → IsAt b s → find s.scope n ≡ None → IsKnownAs b n w → ⊥
unknown b n w s a e d = let r = a.scope.known n w d in none-some r.0 (sym e ∙ r.1)

-- a table is no local
not_local : (b : List Spot) (n : Name) (p : ℕ) (k : TableKind) (s : At) → IsAt b s → find s.scope n ≡ Some (Port p k) → IsKnownAs b n ALocal → ⊥
not_local b n p k s a e d =
    let r = a.scope.known n ALocal d in
    let i = same_Some r.0 (Port p k) (sym r.1 ∙ e) in
    no_local k (ap what_of (sym i) ∙ r.2)

-- a table has one kind
the_kind : (b : List Spot) (n : Name) (p : ℕ) (k j : TableKind) (s : At) → IsAt b s → find s.scope n ≡ Some (Port p k) → IsKnownAs b n (ATable j) → k ≡ j
the_kind b n p k j s a e d =
    let r = a.scope.known n (ATable j) d in
    let i = same_Some r.0 (Port p k) (sym r.1 ∙ e) in
    same_kind k j (ap what_of (sym i) ∙ r.2)

-- a local is no table
not_table : (b : List Spot) (n : Name) (i : ℕ) (j : TableKind) (s : At) → IsAt b s → find s.scope n ≡ Some (Var i) → IsKnownAs b n (ATable j) → ⊥
not_table b n i j s a e d =
    let r = a.scope.known n (ATable j) d in
    let h = same_Some r.0 (Var i) (sym r.1 ∙ e) in
    no_table j (ap what_of (sym h) ∙ r.2)

-- TESTS

on_test : {A B : Type 0} (Q : List Spot → B → Type 0) (b ms : List Spot) (t : Bool) (x : A) (f : Fault) (g : A → Result B Fault)
    → (t ≡ true → Verdict Q b ms (g x))
    → (t ≡ false → HasFirst b ms f)
    → Verdict Q b ms (on_ok (if t then Ok x else Err f) g)
on_test Q b ms true x f g y n = y refl
on_test Q b ms false x f g y n = n refl

on_new : {B : Type 0} (Q : List Spot → B → Type 0) (b ms : List Spot) (o : Option Entry) (g : Unit {0} → Result B Fault)
    → (o ≡ None → Verdict Q b ms (g tt))
    → ((e : Entry) → o ≡ Some e → HasFirst b ms NameTwice)
    → Verdict Q b ms (on_ok (is_new o) g)
on_new Q b ms None g y n = y refl
on_new Q b ms (Some e) g y n = n e refl

on_slot : {B : Type 0} (Q : List Spot → B → Type 0) (b ms : List Spot) (o : Option Entry) (g : ℕ → Result B Fault)
    → ((i : ℕ) → o ≡ Some (Var i) → Verdict Q b ms (g i))
    → (o ≡ None → HasFirst b ms UnknownName)
    → ((p : ℕ) (k : TableKind) → o ≡ Some (Port p k) → HasFirst b ms UnknownName)
    → Verdict Q b ms (on_ok (slot_of o) g)
on_slot Q b ms None g y n t = n refl
on_slot Q b ms (Some (Var i)) g y n t = y i refl
on_slot Q b ms (Some (Port p k)) g y n t = t p k refl

on_port : {B : Type 0} (Q : List Spot → B → Type 0) (b ms : List Spot) (o : Option Entry) (g : ℕ × TableKind → Result B Fault)
    → ((p : ℕ) (k : TableKind) → o ≡ Some (Port p k) → Verdict Q b ms (g (p, k)))
    → (o ≡ None → HasFirst b ms UnknownName)
    → ((i : ℕ) → o ≡ Some (Var i) → HasFirst b ms UnknownName)
    → Verdict Q b ms (on_ok (table_port o) g)
on_port Q b ms None g y n t = n refl
on_port Q b ms (Some (Var i)) g y n t = t i refl
on_port Q b ms (Some (Port p k)) g y n t = y p k refl

-- EXPRESSIONS

module _ (s : At) where
  -- all is as before
  abbrev Same : {A : Type 0} → List Spot → A → Type 0
  Same x u = IsAt x s

  name_read : (b : List Spot) (n : Name) → IsAt b s → (o : Option Entry) → find s.scope n ≡ o → Verdict (λ x u. IsAt x s) b (Names n ∷ []) (named o)
  name_read b n a None e = inl (first_unknown b (Names n) (λ d. unknown b n ALocal s a e d))
  name_read b n a (Some (Var i)) e = (
    (fine_by b (Names n) (λ h. h (a.scope.found n (Var i) e)) (λ h. h) (λ h. h) (λ h. h), tt),
    along_at b (Names n) s (along_names n) a,
  )
  name_read b n a (Some (Port p k)) e = inl (first_unknown b (Names n) (λ d. not_local b n p k s a e d))

  term_read : (b : List Spot) (t : Expression) → IsAt b s → Verdict (λ x u. IsAt x s) b (term_spots t) (term_of s.scope t)
  term_read b (tree.Number v) a = (tt, none_at b s a)
  term_read b (tree.Name n) a = name_read b n a (find s.scope n) refl
  term_read b (tree.Input p) a = by_test (λ x u. IsAt x s) b (Reads p ∷ []) (nat_le p 15) (Ok (term.Input p)) (Err Limit)
      (λ t. (
        (fine_by b (Reads p) (λ h. h) (λ h. h) (λ h. h) (λ h. let le = leb-true p 15 t in omega (arith, h, le)), tt),
        along_at b (Reads p) s (along_reads p) a,
      ))
      (λ f. inl (first_limit b (Reads p) (λ h. h) (λ h. h) (λ h. h) (leb-false p 15 f)))
  term_read b (tree.Neg t) a =
      then_is (λ x u. IsAt x s) (λ x u. IsAt x s) b (term_spots t) (term_of s.scope t) term.Neg (term_read b t a) (λ u q. q)
  term_read b (tree.Not t) a =
      then_is (λ x u. IsAt x s) (λ x u. IsAt x s) b (term_spots t) (term_of s.scope t) term.Not (term_read b t a) (λ u q. q)
  term_read b (tree.Bin o l r) a =
      then_read (λ x u. IsAt x s) (λ x u. IsAt x s) b (term_spots l) (term_spots r) (term_of s.scope l) (λ y. on_ok (term_of s.scope r)
      (λ z. Ok (term.Bin o y z)))
      (term_read b l a)
      (λ y q. then_is (λ x u. IsAt x s) (λ x u. IsAt x s) (b ++ term_spots l) (term_spots r) (term_of s.scope r) (term.Bin o y)
      (term_read (b ++ term_spots l) r q) (λ u k. k))

  value_read : (b : List Spot) (t : Option Expression) → IsAt b s → Verdict (λ x u. IsAt x s) b (value_spots t) (first_term t s.scope)
  value_read b None a = (tt, none_at b s a)
  value_read b (Some t) a = term_read b t a

  indexes_read : (b : List Spot) (n : ℕ) (ts : List Expression) → IsAt b s → Verdict (λ x u. IsAt x s) b (index_spots n ts) (indexes_of s.scope n ts)
  indexes_read b n [] a = (tt, none_at b s a)
  indexes_read b n (t ∷ ts) a =
      let rest = term_spots t ++ index_spots (n + 1) ts in
      let b1 = b ++ Index (n + 1) ∷ [] in
      by_test (λ x u. IsAt x s) b (Index (n + 1) ∷ rest) (nat_lt n 8) (on_ok (term_of s.scope t) (λ u. on_ok (indexes_of s.scope (n + 1) ts)
      (λ us. Ok (u ∷ us)))) (Err Limit)
      (λ y. next (λ x u. IsAt x s) b (Index (n + 1)) rest (on_ok (term_of s.scope t) (λ u. on_ok (indexes_of s.scope (n + 1) ts) (λ us. Ok (u ∷ us))))
      (fine_by b (Index (n + 1)) (λ h. h) (λ h. h) (λ h. h) (λ h. let lt = ltb-true n 8 y in omega (arith, h, lt)))
      (then_read (λ x u. IsAt x s) (λ x u. IsAt x s) b1 (term_spots t) (index_spots (n + 1) ts) (term_of s.scope t)
      (λ u. on_ok (indexes_of s.scope (n + 1) ts) (λ us. Ok (u ∷ us)))
      (term_read b1 t (along_at b (Index (n + 1)) s (along_index (n + 1)) a))
      (λ u q. then_is (λ x v. IsAt x s) (λ x v. IsAt x s) (b1 ++ term_spots t) (index_spots (n + 1) ts) (indexes_of s.scope (n + 1) ts) (λ us. u ∷ us)
      (indexes_read (b1 ++ term_spots t) (n + 1) ts q) (λ us k. k))))
      (λ f. inl (first_limit b (Index (n + 1)) (λ h. h) (λ h. h) (λ h. h) (let ge = ltb-false n 8 f in omega (arith, ge))))

  -- a weight that is there
  weighed : (b : List Spot) (n : Name) (t : Expression) → IsAt b s → IsFine b (Weighted n)
      → Verdict (λ x u. IsAt x s) b (Weighted n ∷ term_spots t) (on_ok (term_of s.scope t) (λ u. Ok (u ∷ [])))
  weighed b n t a f =
      next (λ x u. IsAt x s) b (Weighted n) (term_spots t) (on_ok (term_of s.scope t) (λ u. Ok (u ∷ []))) f
      (then_is (λ x u. IsAt x s) (λ x u. IsAt x s) (b ++ Weighted n ∷ []) (term_spots t) (term_of s.scope t) (λ u. u ∷ [])
      (term_read (b ++ Weighted n ∷ []) t (along_at b (Weighted n) s (along_weighted n) a)) (λ u q. q))

  -- none
  unweighed : (b : List Spot) (n : Name) → IsAt b s → IsFine b (Unweighted n) → Verdict {A = List Term} (λ x u. IsAt x s) b (Unweighted n ∷ []) (Ok [])
  unweighed b n a f = ((f, tt), along_at b (Unweighted n) s (along_unweighted n) a)

  weight_read : (b : List Spot) (n : Name) (p : ℕ) (k : TableKind) (w : Option Expression) → IsAt b s → find s.scope n ≡ Some (Port p k)
      → Verdict (λ x u. IsAt x s) b (weight_spots n w) (weight_of k w s.scope)
  weight_read b n p (Maximum best keys) None a e =
      inl (first_shape b (Unweighted n) (λ h. h) (λ h. h) (Maximum best keys, a.scope.found n (Port p (Maximum best keys)) e, tt))
  weight_read b n p (Maximum best keys) (Some t) a e =
      weighed b n t a
      (fine_by b (Weighted n) (λ h. h) (λ h. h) (λ h. h.2 (subst IsMaximum (the_kind b n p (Maximum best keys) h.0 s a e h.1) tt)) (λ h. h))
  weight_read b n p (Sum keys) None a e =
      unweighed b n a (fine_by b (Unweighted n) (λ h. h) (λ h. h) (λ h. subst IsMaximum (sym (the_kind b n p (Sum keys) h.0 s a e h.1)) h.2) (λ h. h))
  weight_read b n p (Sum keys) (Some t) a e =
      inl (first_shape b (Weighted n) (λ h. h) (λ h. h) (Sum keys, a.scope.found n (Port p (Sum keys)) e, λ h. h))
  weight_read b n p (Collection keys) None a e =
      unweighed b n a (fine_by b (Unweighted n) (λ h. h) (λ h. h) (λ h. subst IsMaximum (sym (the_kind b n p (Collection keys) h.0 s a e h.1)) h.2) (λ h. h))
  weight_read b n p (Collection keys) (Some t) a e =
      inl (first_shape b (Weighted n) (λ h. h) (λ h. h) (Collection keys, a.scope.found n (Port p (Collection keys)) e, λ h. h))

-- STATEMENTS

-- what stands behind the last spot
abbrev pub AtEnd : List Spot → Steps × At → Type 0
AtEnd x r = IsAt x r.1

-- a statement begins
begins : (b ms : List Spot) (s : At) (g : At → Result (Steps × At) Fault) → IsAt b s
    → (IsAt (b ++ Begins ∷ []) (record s { size = s.size + 1 }) → Verdict AtEnd (b ++ Begins ∷ []) ms (g (record s { size = s.size + 1 })))
    → Verdict AtEnd b (Begins ∷ ms) (on_ok (counted s) g)
begins b ms s g a more = on_test AtEnd b (Begins ∷ ms) (nat_lt s.size 16384) (record s { size = s.size + 1 }) Limit g
    (λ t. next AtEnd b Begins ms (g (record s { size = s.size + 1 }))
    (fine_by b Begins (λ h. h) (λ h. h) (λ h. h) (λ h. let lt = ltb-true s.size 16384 t in let e = a.size in omega (arith, h, lt, e)))
    (more (begun_at b s a)))
    (λ f. inl (first_limit b Begins (λ h. h) (λ h. h) (λ h. h) (let ge = ltb-false s.size 16384 f in let e = a.size in omega (arith, ge, e))))

declare_read : (n : Name) (t : Option Expression) (b : List Spot) (s : At) → IsAt b s
    → Verdict AtEnd b (statement_spots (Declare n t)) (step_of (Declare n t) s)
declare_read n t b s0 a0 =
    let ms = value_spots t ++ Local n ∷ [] in
    let s = record s0 { size = s0.size + 1 } in
    let b1 = b ++ Begins ∷ [] in
    let b2 = b1 ++ Declares n ∷ [] in
    let value : Term → Result (Steps × At) Fault = λ v. Ok (declared n s v) in
    begins b (Declares n ∷ ms) s0 (λ s. on_ok (is_new (find s.scope n)) (λ u. on_ok (has_slot s) (λ w. on_ok (first_term t s.scope)
    (λ v. Ok (declared n s v))))) a0
    (λ a. on_new AtEnd b1 (Declares n ∷ ms) (find s.scope n) (λ u. on_ok (has_slot s) (λ w. on_ok (first_term t s.scope) value))
    (λ none. on_test AtEnd b1 (Declares n ∷ ms) (nat_lt s.slots 256) tt Limit (λ w. on_ok (first_term t s.scope) value)
    (λ y. next AtEnd b1 (Declares n) ms (on_ok (first_term t s.scope) value)
    (fine_by b1 (Declares n) (λ h. h) (λ h. unknown b1 n h.0 s a none h.1) (λ h. h)
    (λ h. let lt = ltb-true s.slots 256 y in let e = a.slots in omega (arith, h, lt, e)))
    (then_read (λ x u. IsAt x s) AtEnd b2 (value_spots t) (Local n ∷ []) (first_term t s.scope) value
    (value_read s b2 t (along_at b1 (Declares n) s (along_declares n) a))
    (λ v q. (
      (fine_by (b2 ++ value_spots t) (Local n) (λ h. h) (λ h. h) (λ h. h) (λ h. h), tt),
      local_at (b2 ++ value_spots t) n s none q,
    ))))
    (λ f. inl (first_limit b1 (Declares n) (λ h. h) (λ h. unknown b1 n h.0 s a none h.1) (λ h. h)
    (let ge = ltb-false s.slots 256 f in let e = a.slots in omega (arith, ge, e)))))
    (λ e i. inl (first_twice b1 (Declares n) (λ h. h) (what_of e, a.scope.found n e i))))

assign_read : (n : Name) (t : Expression) (b : List Spot) (s : At) → IsAt b s → Verdict AtEnd b (statement_spots (Assign n t)) (step_of (Assign n t) s)
assign_read n t b s0 a0 =
    let s = record s0 { size = s0.size + 1 } in
    let b1 = b ++ Begins ∷ [] in
    let b2 = b1 ++ Sets n ∷ [] in
    begins b (Sets n ∷ term_spots t) s0 (λ s. on_ok (slot_of (find s.scope n)) (λ i. on_ok (term_of s.scope t) (λ v. Ok (one_step (steps.Set i v), s)))) a0
    (λ a. on_slot AtEnd b1 (Sets n ∷ term_spots t) (find s.scope n) (λ i. on_ok (term_of s.scope t) (λ v. Ok (one_step (steps.Set i v), s)))
    (λ i e. next AtEnd b1 (Sets n) (term_spots t) (on_ok (term_of s.scope t) (λ v. Ok (one_step (steps.Set i v), s)))
    (fine_by b1 (Sets n) (λ h. h (a.scope.found n (Var i) e)) (λ h. h) (λ h. h) (λ h. h))
    (then_is (λ x u. IsAt x s) AtEnd b2 (term_spots t) (term_of s.scope t) (λ v. (one_step (steps.Set i v), s))
    (term_read s b2 t (along_at b1 (Sets n) s (along_sets n) a)) (λ v q. q)))
    (λ e. inl (first_unknown b1 (Sets n) (λ d. unknown b1 n ALocal s a e d)))
    (λ p k e. inl (first_unknown b1 (Sets n) (λ d. not_local b1 n p k s a e d))))

-- the values of an emit
emitted_read : (n : Name) (p : ℕ) (k : TableKind) (i : ℕ) (us : List Term) (v : Expression) (w : Option Expression) (b : List Spot) (s : At) → IsAt b s
    → find s.scope n ≡ Some (Port p k)
    → Verdict AtEnd b (Indexed n i ∷ (term_spots v ++ weight_spots n w)) (emitted s (p, k) i us v w)
emitted_read n p k i us v w b s a e =
    let ms = term_spots v ++ weight_spots n w in
    let b1 = b ++ Indexed n i ∷ [] in
    let last : Term → List Term → Steps × At = λ u ws. (one_step (steps.Push p (us ++ u ∷ ws)), s) in
    on_test AtEnd b (Indexed n i ∷ ms) (nat_eq i (keys_in k)) tt Shape (λ x. on_ok (term_of s.scope v) (λ u. on_ok (weight_of k w s.scope)
    (λ ws. Ok (last u ws))))
    (λ y. next AtEnd b (Indexed n i) ms (on_ok (term_of s.scope v) (λ u. on_ok (weight_of k w s.scope) (λ ws. Ok (last u ws))))
    (fine_by b (Indexed n i) (λ h. h) (λ h. h) (λ h. h.2 (eqb-true i (keys_in k) y ∙ ap keys_in (the_kind b n p k h.0 s a e h.1))) (λ h. h))
    (then_read (λ x u. IsAt x s) AtEnd b1 (term_spots v) (weight_spots n w) (term_of s.scope v) (λ u. on_ok (weight_of k w s.scope) (λ ws. Ok (last u ws)))
    (term_read s b1 v (along_at b (Indexed n i) s (along_indexed n i) a))
    (λ u q. then_is (λ x z. IsAt x s) AtEnd (b1 ++ term_spots v) (weight_spots n w) (weight_of k w s.scope) (last u)
    (weight_read s (b1 ++ term_spots v) n p k w q e) (λ ws z. z))))
    (λ f. inl (first_shape b (Indexed n i) (λ h. h) (λ h. h) (k, a.scope.found n (Port p k) e, eqb-false i (keys_in k) f)))

emit_read : (n : Name) (is : List Expression) (v : Expression) (w : Option Expression) (b : List Spot) (s : At) → IsAt b s
    → Verdict AtEnd b (statement_spots (Emit n is v w)) (step_of (Emit n is v w) s)
emit_read n is v w b s0 a0 =
    let s = record s0 { size = s0.size + 1 } in
    let b1 = b ++ Begins ∷ [] in
    let b2 = b1 ++ Emits n ∷ [] in
    let last = Indexed n (length is) ∷ (term_spots v ++ weight_spots n w) in
    let ms = index_spots 0 is ++ last in
    begins b (Emits n ∷ ms) s0 (λ s. on_ok (table_port (find s.scope n)) (λ p. on_ok (indexes_of s.scope 0 is) (λ us. emitted s p (length is) us v w))) a0
    (λ a. on_port AtEnd b1 (Emits n ∷ ms) (find s.scope n) (λ p. on_ok (indexes_of s.scope 0 is) (λ us. emitted s p (length is) us v w))
    (λ p k e. next AtEnd b1 (Emits n) ms (on_ok (indexes_of s.scope 0 is) (λ us. emitted s (p, k) (length is) us v w))
    (fine_by b1 (Emits n) (λ h. h k (a.scope.found n (Port p k) e)) (λ h. h) (λ h. h) (λ h. h))
    (then_read (λ x u. IsAt x s) AtEnd b2 (index_spots 0 is) last (indexes_of s.scope 0 is) (λ us. emitted s (p, k) (length is) us v w)
    (indexes_read s b2 0 is (along_at b1 (Emits n) s (along_emits n) a))
    (λ us q. emitted_read n p k (length is) us v w (b2 ++ index_spots 0 is) s q e)))
    (λ e. inl (first_unknown b1 (Emits n) (λ k d. unknown b1 n (ATable k) s a e d)))
    (λ i e. inl (first_unknown b1 (Emits n) (λ k d. not_table b1 n i k s a e d))))

quiet_fine : (b : List Spot) → IsFine b Enters × IsFine b Leaves
quiet_fine b = (fine_by b Enters (λ h. h) (λ h. h) (λ h. h) (λ h. h), fine_by b Leaves (λ h. h) (λ h. h) (λ h. h) (λ h. h))

mutual
  pub statement_read : (c : Statement) (b : List Spot) (s : At) → IsAt b s → Verdict AtEnd b (statement_spots c) (step_of c s)
  statement_read (Declare n t) b s a = declare_read n t b s a
  statement_read (Assign n t) b s a = assign_read n t b s a
  statement_read (Emit n is v w) b s a = emit_read n is v w b s a
  statement_read (If t x y) b s0 a0 =
      let s = record s0 { size = s0.size + 1 } in
      let b1 = b ++ Begins ∷ [] in
      let b2 = b1 ++ term_spots t in
      let b3 = b2 ++ Enters ∷ [] in
      let b4 = (b3 ++ block_spots x) ++ Leaves ∷ [] in
      let b5 = b4 ++ Enters ∷ [] in
      let second = Enters ∷ (optional_spots y ++ Leaves ∷ []) in
      let first = Enters ∷ (block_spots x ++ Leaves ∷ second) in
      let done : Term → Steps × At → Steps × At → Steps × At = λ c p q. (one_step (steps.If c p.0 q.0), record q.1 { scope = s.scope }) in
      let two : Term → Steps × At → Result (Steps × At) Fault = λ c p. on_ok (steps_optional y (record s { slots = p.1.slots; size = p.1.size }))
      (λ q. Ok (done c p q)) in
      let one : Term → Result (Steps × At) Fault = λ c. on_ok (steps_of x s) (λ p. two c p) in
      begins b (term_spots t ++ first) s0
      (λ s. on_ok (term_of s.scope t) (λ c. on_ok (steps_of x s) (λ p. on_ok (steps_optional y (record s { slots = p.1.slots; size = p.1.size }))
      (λ q. Ok (one_step (steps.If c p.0 q.0), record q.1 { scope = s.scope })))))
      a0
      (λ a. then_read (λ z u. IsAt z s) AtEnd b1 (term_spots t) first (term_of s.scope t) one (term_read s b1 t a)
      (λ c h. next AtEnd b2 Enters (block_spots x ++ Leaves ∷ second) (one c) (quiet_fine b2).0
      (then_read AtEnd AtEnd b3 (block_spots x) (Leaves ∷ second) (steps_of x s) (two c) (block_read x b3 s (entered_at b2 s h))
      (λ p i.
      let s1 = record s { slots = p.1.slots; size = p.1.size } in
      let none = (block_body x).tables in
      let m1 = many_append is_table b2 (Enters ∷ []) in
      let m2 = many_append is_table b3 (block_spots x) in
      let t0 = h.tables in
      let t1 = i.tables in
      let j : IsAt b4 s1 = left_at b2 (block_spots x) s p.1 s1 (block_body x) h.scope i refl refl refl (omega (arith, none, m1, m2, t0, t1)) in
      next AtEnd (b3 ++ block_spots x) Leaves second (two c p) (quiet_fine (b3 ++ block_spots x)).1
      (next AtEnd b4 Enters (optional_spots y ++ Leaves ∷ []) (two c p) (quiet_fine b4).0
      (then_read AtEnd AtEnd b5 (optional_spots y) (Leaves ∷ []) (steps_optional y s1) (λ q. Ok (done c p q)) (optional_read y b5 s1 (entered_at b4 s1 j))
      (λ q k. (
        ((quiet_fine (b5 ++ optional_spots y)).1, tt),
        left_at b4 (optional_spots y) s1 q.1 (record q.1 { scope = s.scope }) (optional_body y) j.scope k refl refl refl refl,
      ))))))))

  pub block_read : (c : Block) (b : List Spot) (s : At) → IsAt b s → Verdict AtEnd b (block_spots c) (steps_of c s)
  block_read End b s a = (tt, none_at b s a)
  block_read (Then c d) b s a =
      then_read AtEnd AtEnd b (statement_spots c) (block_spots d) (step_of c s) (λ p. on_ok (steps_of d p.1) (λ q. Ok (both_steps p.0 q.0, q.1)))
      (statement_read c b s a)
      (λ p h. then_is AtEnd AtEnd (b ++ statement_spots c) (block_spots d) (steps_of d p.1) (λ q. (both_steps p.0 q.0, q.1))
      (block_read d (b ++ statement_spots c) p.1 h) (λ q k. k))

  optional_read : (o : Optional) (b : List Spot) (s : At) → IsAt b s → Verdict AtEnd b (optional_spots o) (steps_optional o s)
  optional_read Unwritten b s a = (tt, none_at b s a)
  optional_read (Written c) b s a = block_read c b s a

-- UNITS

best_fine : (k : TableKind) → is_best k ≡ true → IsNoBest k → ⊥
best_fine (Sum keys) t h = h
best_fine (Collection keys) t h = h
best_fine (Maximum best keys) t h =
    let a = and_parts (nat_le 1 best) (nat_le best 1000000) t in
    let ge = leb-true 1 best a.0 in
    let le = leb-true best 1000000 a.1 in
    ⊎_elim (λ z. omega (arith, z, ge)) (λ lt. omega (arith, lt, le)) h

no_best : (k : TableKind) → is_best k ≡ false → IsNoBest k
no_best (Sum keys) f = absurd (cc f)
no_best (Collection keys) f = absurd (cc f)
no_best (Maximum best keys) f = ⊎_elim
    (λ e. inl (let lt = leb-false 1 best e in omega (arith, lt)))
    (λ e. inr (leb-false best 1000000 e))
    (and_cases (nat_le 1 best) (nat_le best 1000000) f)

-- a unit is read spot by spot
pub part_read : (c : UnitForm) (b : List Spot) (s : At) → IsAt b s → Verdict AtEnd b (unit_spots c) (unit_judged c s)
part_read (StatementUnit c) b s a = statement_read c b s a
part_read (TableUnit tb) b s a =
    let n = tb.name in
    let k = table_kind tb in
    let m = Tables n k in
    let keys : Unit {0} → Result (Steps × At) Fault = λ x. Ok (tabled n k s) in
    on_new AtEnd b (m ∷ []) (find s.scope n)
    (λ u. on_ok (if nat_lt s.tables 64 then Ok tt else Err Limit) (λ v. on_ok (if is_best k then Ok tt else Err Limit)
    (λ w. on_ok (if nat_le (keys_in k) 8 then Ok tt else Err Limit) keys)))
    (λ none.
    let new = λ (h : IsTwice b m). unknown b n h.0 s a none h.1 in
    on_test AtEnd b (m ∷ []) (nat_lt s.tables 64) tt Limit (λ v. on_ok (if is_best k then Ok tt else Err Limit)
    (λ w. on_ok (if nat_le (keys_in k) 8 then Ok tt else Err Limit) keys))
    (λ y1. on_test AtEnd b (m ∷ []) (is_best k) tt Limit (λ w. on_ok (if nat_le (keys_in k) 8 then Ok tt else Err Limit) keys)
    (λ y2. on_test AtEnd b (m ∷ []) (nat_le (keys_in k) 8) tt Limit keys
    (λ y3. (
      (
        fine_by b m (λ h. h) new (λ h. h)
            (λ h. ⊎_elim
            (λ gt. let lt = ltb-true s.tables 64 y1 in let e = a.tables in omega (arith, gt, lt, e))
            (λ r. ⊎_elim (λ z. best_fine k y2 z) (λ gt. let le = leb-true (keys_in k) 8 y3 in omega (arith, gt, le)) r) h),
        tt,
      ),
      table_at b n k s none a,
    ))
    (λ f. inl (first_limit b m (λ h. h) new (λ h. h) (inr (inr (leb-false (keys_in k) 8 f))))))
    (λ f. inl (first_limit b m (λ h. h) new (λ h. h) (inr (inl (no_best k f))))))
    (λ f. inl (first_limit b m (λ h. h) new (λ h. h) (inl (let ge = ltb-false s.tables 64 f in let e = a.tables in omega (arith, ge, e))))))
    (λ e i. inl (first_twice b m (λ h. h) (what_of e, a.scope.found n e i)))

-- before all units nothing is known
pub nothing_at : IsAt [] (record { scope = []; slots = 0; size = 0; tables = 0 })
nothing_at = record {
  scope = record { found = λ n e h. absurd (none-some e h); known = λ n w d. absurd d };
  slots = refl;
  size = refl;
  tables = refl;
}
