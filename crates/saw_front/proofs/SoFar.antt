-- Statements that were read so far, and those that are read after them.
use Rattle.std.proofs.Common.{◌≡◌, ℕ, ◌+◌, List, [], ◌∷◌, ◌++◌, length, take, map, Option, None, Result, Ok, Err, refl, sym, ap}
use Rattle.std.proofs.Common.{◌∙◌, subst, append_assoc, append-nil}
use Rattle.std.proofs.lemmas.List.{map-append}
use Rattle.work_code.proofs.Texts.{joined-in_turn}
use Rattle.river_base.proofs.Lists.{prefix_trans, kept_by}
use Rattle.work_code.specs.declared.code.Stmt.{Stmt}
use Rattle.work_code.specs.declared.code.Stmts.{Stmts}
use Rattle.work_code.specs.Steps.{Steps, Done, step, statements, in_turn, both_steps, one_step}
use Rattle.work_code.specs.Steps as steps
use Rattle.work_code.specs.Term.{Term}
use Rattle.saw_text.specs.Tree.{Expression}
use Rattle.saw_text.specs.Tree as source
use Rattle.saw_model.specs.declared.fault.Fault.{Fault}
use Rattle.saw_model.specs.Elaborate.{At, Read, on_ok, step_of, steps_of, steps_optional, counted, term_of}
use Rattle.saw_model.proofs.Statements.{grows_all}
use Rattle.saw_front.specs.declared.judge.Judge.{Judge}
use Rattle.saw_front.specs.declared.refused.RefusedUnit.{RefusedUnit}
use Rattle.saw_front.specs.declared.refused.RefusedUnit.TheVariants as why
use Rattle.saw_front.specs.Judging.{at_of, KeepsNames, Reads, ReadsArm}
use Rattle.saw_front.specs.Valued.{AreValued}
use Rattle.saw_front.specs.View.{IsWhyUnit}

-- an answer without a fault
abbrev pub good : {A : Type 0} → A → Result A Fault
good x = Ok x

-- behind these statements
abbrev pub behind : Steps → Read → Read
behind a r = on_ok r (λ q. Ok (both_steps a q.0, q.1))

-- steps behind steps behind steps
pub joined-assoc : (a b c : Steps) → both_steps (both_steps a b) c ≡ both_steps a (both_steps b c)
joined-assoc Done b c = refl
joined-assoc (steps.Then s a) b c = ap (steps.Then s) (joined-assoc a b c)

-- no steps behind
pub joined-done : (a : Steps) → both_steps a Done ≡ a
joined-done Done = refl
joined-done (steps.Then s a) = ap (steps.Then s) (joined-done a)

-- behind two lists
pub behind_both : (a b : Steps) (r : Read) → behind a (behind b r) ≡ behind (both_steps a b) r
behind_both a b (Ok q) = ap (λ s. Ok (s, q.1)) (sym (joined-assoc a b q.0))
behind_both a b (Err f) = refl

-- behind nothing
pub behind_none : (r : Read) → behind Done r ≡ r
behind_none (Ok q) = refl
behind_none (Err f) = refl

-- where nothing is left
pub behind_done : (a : Steps) (s : At) → behind a (Ok (Done, s)) ≡ Ok (a, s)
behind_done a s = ap (λ t. Ok (t, s)) (joined-done a)

-- a fault of one reading is one of another
pub why_more : {A B : Type 0} (e : RefusedUnit) (r : Result A Fault) (r' : Result B Fault) → ((f : Fault) → r ≡ Err f → r' ≡ Err f) → IsWhyUnit e r
    → IsWhyUnit e r'
why_more (why.Fault f) r r' h e = h f e
why_more why.NoMemory r r' h e = tt

-- A BLOCK

-- what was read of these statements, and what is to be read, is what is read of all
pub record BlockSoFar (all rest : List source.Statement) (first now : Judge) (out out' : Stmts) : Type 0 where
  pub added : List Stmt
  pub grew : statements out' ≡ statements out ++ added
  pub all_is : steps_of (source.in_turn all) (at_of first) ≡ behind (in_turn (map step added)) (steps_of (source.in_turn rest) (at_of now))
  pub keeps : KeepsNames first now
  pub valued : AreValued (source.in_turn rest)

steps_ok : (c : source.Statement) (rest : source.Block) (s : At) (a : Steps) (s' : At) → step_of c s ≡ Ok (a, s')
    → steps_of (source.Then c rest) s ≡ behind a (steps_of rest s')
steps_ok c rest s a s' h = ap (λ r. on_ok r (λ p. on_ok (steps_of rest p.1) (λ q. good (both_steps p.0 q.0, q.1)))) h

steps_err : (c : source.Statement) (rest : source.Block) (s : At) (g : Fault) → step_of c s ≡ Err g → steps_of (source.Then c rest) s ≡ Err g
steps_err c rest s g h = ap (λ r. on_ok r (λ p. on_ok (steps_of rest p.1) (λ q. good (both_steps p.0 q.0, q.1)))) h

-- before the first statement
pub block_start : (all : List source.Statement) (first : Judge) (out : Stmts) → AreValued (source.in_turn all) → BlockSoFar all all first first out out
block_start all first out v = record {
  added = [];
  grew = sym (append-nil (statements out));
  all_is = sym (behind_none (steps_of (source.in_turn all) (at_of first)));
  keeps = kept_by first.names.items.items first.names.items.items refl;
  valued = v;
}

-- one statement more
pub block_next : (all : List source.Statement) (c : source.Statement) (rest : List source.Statement) (first now next : Judge) (out out' out'' : Stmts)
    → BlockSoFar all (c ∷ rest) first now out out' → Reads (Ok tt) out' out'' now next (step_of c (at_of now)) → BlockSoFar all rest first next out out''
block_next all c rest first now next out out' out'' f r = record {
  added = f.added ++ r.0;
  grew = r.1 ∙ ap (λ l. l ++ r.0) f.grew ∙ append_assoc (statements out) f.added r.0;
  all_is =
      f.all_is
      ∙ ap (behind (in_turn (map step f.added))) (steps_ok c (source.in_turn rest) (at_of now) (in_turn (map step r.0)) (at_of next) r.2)
      ∙ behind_both (in_turn (map step f.added)) (in_turn (map step r.0)) (steps_of (source.in_turn rest) (at_of next))
      ∙ ap (λ a. behind a (steps_of (source.in_turn rest) (at_of next)))
      (joined-in_turn (map step f.added) (map step r.0) ∙ ap in_turn (sym (map-append step f.added r.0)));
  keeps = prefix_trans first.names.items.items now.names.items.items next.names.items.items f.keeps r.3;
  valued = f.valued.1;
}

-- a statement that is refused
pub block_err : (all : List source.Statement) (c : source.Statement) (rest : List source.Statement) (first now next x y : Judge) (out out' out'' o n : Stmts)
    (result : Result (Unit {0}) RefusedUnit) (e : RefusedUnit)
    → result ≡ Err e → BlockSoFar all (c ∷ rest) first now out out' → Reads (Err e) out' out'' now next (step_of c (at_of now))
    → Reads result o n x y (steps_of (source.in_turn all) (at_of first))
block_err all c rest first now next x y out out' out'' o n result e is s r =
    subst (λ t. Reads t o n x y (steps_of (source.in_turn all) (at_of first))) (sym is)
    (why_more e (step_of c (at_of now)) (steps_of (source.in_turn all) (at_of first))
    (λ g h. s.all_is ∙ ap (behind (in_turn (map step s.added))) (steps_err c (source.in_turn rest) (at_of now) g h)) r)

-- all statements
pub block_end : (all : List source.Statement) (first now : Judge) (out out' : Stmts) → BlockSoFar all [] first now out out'
    → Reads (Ok tt) out out' first now (steps_of (source.in_turn all) (at_of first))
block_end all first now out out' f = (f.added, f.grew, f.all_is ∙ behind_done (in_turn (map step f.added)) (at_of now), f.keeps)

-- AN IF

module _ (t : Expression) (a : source.Block) (b : source.Optional) (s s1 m1 la : At) (cond : Term) (f : Steps) (hc : counted s ≡ Ok s1)
    (ht : term_of s1.scope t ≡ Ok cond) (ha : steps_of a s1 ≡ Ok (f, la)) (em1 : m1 ≡ record la { scope = s1.scope }) where
  abbrev last : Steps × At → Read
  last q = Ok (one_step (steps.If cond f q.0), record q.1 { scope = s1.scope })

  -- where the second arm is read
  second : m1 ≡ record s1 { slots = la.slots; size = la.size }
  second =
      let tables : la.tables ≡ s1.tables = (grows_all a s1 (f, la) ha).tables in
      em1 ∙ ap (λ (n : ℕ). record { scope = s1.scope; slots = la.slots; size = la.size; tables = n }) tables

  -- an `if` whose first arm was read
  if_on : step_of (source.If t a b) s ≡ on_ok (steps_optional b m1) last
  if_on =
      let f3 : Term → Steps × At → Steps × At → Read = λ c p q. Ok (one_step (steps.If c p.0 q.0), record q.1 { scope = s1.scope }) in
      let f2 : Term → Steps × At → Read = λ c p. on_ok (steps_optional b (record s1 { slots = p.1.slots; size = p.1.size })) (f3 c p) in
      let f1 : Term → Read = λ c. on_ok (steps_of a s1) (f2 c) in
      ap (λ r. on_ok r (λ s. on_ok (term_of s.scope t)
      (λ c. on_ok (steps_of a s)
      (λ p. on_ok (steps_optional b (record s { slots = p.1.slots; size = p.1.size }))
      (λ q. good (one_step (steps.If c p.0 q.0), record q.1 { scope = s.scope })))))) hc
      ∙ ap (λ r. on_ok r f1) ht
      ∙ ap (λ r. on_ok r (f2 cond)) ha
      ∙ ap (λ (m : At). on_ok (steps_optional b m) last) (sym second)

  -- an `if` whose arms were read one after the other
  pub if_read : (m2 lb : At) (g : Steps) → steps_optional b m1 ≡ Ok (g, lb) → m2 ≡ record lb { scope = m1.scope }
      → step_of (source.If t a b) s ≡ Ok (one_step (steps.If cond f g), m2)
  if_read m2 lb g hb em2 =
      if_on ∙ ap (λ r. on_ok r last) hb
      ∙ ap (λ l. good (one_step (steps.If cond f g), record lb { scope = l })) (sym (ap (λ (m : At). m.scope) em1))
      ∙ ap (λ m. good (one_step (steps.If cond f g), m)) (sym em2)

  -- an `if` whose second arm is refused
  pub if_fault : (k : RefusedUnit) → IsWhyUnit k (steps_optional b m1) → IsWhyUnit k (step_of (source.If t a b) s)
  if_fault k h = why_more k (steps_optional b m1) (step_of (source.If t a b) s) (λ g e. if_on ∙ ap (λ r. on_ok r last) e) h

-- AN ARM

-- what was known before an arm is known behind it
pub arm_names : {A : Type 0} (before during behind_it : List A) → take (length before) during ≡ before → behind_it ≡ take (length before) during
    → behind_it ≡ before
arm_names before during behind_it k e = e ∙ k

-- where nothing is written behind `else`
pub arm_none : (o : Option source.Block) (body : Stmts) (j : Judge) → o ≡ None → statements body ≡ []
    → ReadsArm (Ok body) j j (steps_optional (source.or_unwritten o) (at_of j))
arm_none o body j e n =
    (at_of j, ap (λ p. steps_optional (source.or_unwritten p) (at_of j)) e ∙ ap (λ l. good (in_turn (map step l), at_of j)) (sym n), refl, refl)

-- an answer that is a fault
pub reads_err : (result : Result (Unit {0}) RefusedUnit) (e : RefusedUnit) (o n : Stmts) (x y : Judge) (r : Read) → result ≡ Err e → IsWhyUnit e r
    → Reads result o n x y r
reads_err result e o n x y r is t = subst (λ q. Reads q o n x y r) (sym is) t
