-- Statements that were read so far, and those that are read after them.
use Rattle.std.proofs.Common.{◌≡◌, ℕ, zero, suc, ◌+◌, ◌-◌, ◌<◌, ◌≤◌, List, [], ◌∷◌, ◌++◌, length, take, map, Bool, Result, Ok, Err, refl, sym, ap}
use Rattle.std.proofs.Common.{◌∙◌, subst, arith, append_assoc, append-nil}
use Rattle.work_code.specs.declared.code.Stmt.{Stmt}
use Rattle.work_code.specs.declared.code.Stmts.{Stmts}
use Rattle.work_code.specs.Steps.{Steps, Done, step, statements, in_turn, both_steps, one_step}
use Rattle.work_code.specs.Steps as steps
use Rattle.streamit_text.specs.Tree as source
use Rattle.river_plan.specs.Forms.{Name}
use Rattle.streamit_model.specs.Meaning.{numbers_from, pops}
use Rattle.streamit_model.specs.Elaborate.{At, Read, on_ok, step_of, steps_of, unrolled, counted, is_new, find, constant, bound_of, term_of}
use Rattle.streamit_model.specs.declared.fault.Fault.{Fault}
use Rattle.streamit_model.specs.declared.fault.Fault.TheVariants.{BranchRates}
use Rattle.streamit_model.specs.Elaborate.{after_arms, optional_of}
use Rattle.streamit_text.specs.Tree.{Expression}
use Rattle.work_code.specs.Term.{Term}
use Rattle.std.specs.Prelude.{if◌then◌else◌, nat_eq}
use Rattle.streamit_unroll.specs.declared.unroll.Unroller.{Unroller}
use Rattle.streamit_unroll.specs.declared.names.Known.{Known}
use Rattle.streamit_unroll.specs.declared.names.Known.TheVariants as known
use Rattle.streamit_unroll.specs.Lean.{discards}
use Rattle.streamit_unroll.specs.View.{scope_of, IsWhyUnit}
use Rattle.streamit_unroll.proofs.Scopes.{scope-push}
use Rattle.streamit_unroll.specs.Unrolling.{at_of, KeepsNames, AreWritten, Reads, turn_of, turns_of, ReadsTurn}
use Rattle.streamit_unroll.specs.declared.refused.RefusedUnit.{RefusedUnit}
use Rattle.streamit_unroll.specs.declared.refused.RefusedUnit.TheVariants as refused
use Rattle.streamit_model.specs.Elaborate as spec
use Rattle.std.proofs.lemmas.List.{map-append, take_all}
use Rattle.std.proofs.lemmas.Bool.{and_from, eq-eqb}
use Rattle.std.proofs.Math.Seq.{take-append_seam}
use Rattle.work_code.proofs.Texts.{joined-in_turn}
use Rattle.streamit_model.proofs.Numbers.{numbers_more}
use Rattle.river_base.proofs.Lists.{prefix_trans}

-- a result without a fault
abbrev pub good : {A : Type 0} → A → Result A Fault
good x = Ok x

-- behind these statements
abbrev pub behind : Steps → Read → Read
behind a r = on_ok r (λ q. Ok (both_steps a q.0, q.1))

-- behind nothing
pub behind_none : (r : Read) → behind Done r ≡ r
behind_none (Ok q) = refl
behind_none (Err f) = refl

joined-assoc : (a b c : Steps) → both_steps (both_steps a b) c ≡ both_steps a (both_steps b c)
joined-assoc Done b c = refl
joined-assoc (steps.Then s a) b c = ap (steps.Then s) (joined-assoc a b c)

joined-done : (a : Steps) → both_steps a Done ≡ a
joined-done Done = refl
joined-done (steps.Then s a) = ap (steps.Then s) (joined-done a)

-- behind two lists
pub behind_both : (a b : Steps) (r : Read) → behind a (behind b r) ≡ behind (both_steps a b) r
behind_both a b (Ok q) = ap (λ s. Ok (s, q.1)) (sym (joined-assoc a b q.0))
behind_both a b (Err f) = refl

-- where nothing is left
pub behind_done : (a : Steps) (s : At) → behind a (Ok (Done, s)) ≡ Ok (a, s)
behind_done a s = ap (λ t. Ok (t, s)) (joined-done a)

-- A BLOCK

-- what was read of these statements, and what is to be read, is what is read of all
pub record BlockSoFar (e : ℕ) (all rest : List source.Statement) (first now : Unroller) (out out' : Stmts) : Type 0 where
  pub added : List Stmt
  pub grew : statements out' ≡ statements out ++ added
  pub all_is : steps_of e (source.in_turn all) (at_of first) ≡ behind (in_turn (map step added)) (steps_of e (source.in_turn rest) (at_of now))
  pub keeps : KeepsNames first now
  pub written : AreWritten (source.in_turn rest)

-- TURNS

-- some turns of a loop were read, and what they give stands before what the others will
pub record TurnsSoFar (e : ℕ) (b : source.Block) (n : Name) (low v end : ℕ) (first now : Unroller) (out out' : Stmts) : Type 0 where
  pub added : List Stmt
  pub grew : statements out' ≡ statements out ++ added
  pub all_is : unrolled (steps_of e b) n (numbers_from low (end - low)) (at_of first) ≡ behind (in_turn (map step added))
      (unrolled (steps_of e b) n (numbers_from v (end - v)) (at_of now))
  pub names : now.names.items.items ≡ first.names.items.items

-- a fault of one reading is one of another
pub tells_more : {A B : Type 0} (f : RefusedUnit) (r : Result A Fault) (r' : Result B Fault) → ((g : Fault) → r ≡ Err g → r' ≡ Err g) → IsWhyUnit f r → IsWhyUnit f r'
tells_more (refused.Fault f) r r' h e = h f e
tells_more refused.NoMemory r r' h e = tt

-- the statements of two lists
steps_append : (e : ℕ) (cs rest : List source.Statement) (s : At)
    → steps_of e (source.in_turn (cs ++ rest)) s
    ≡ on_ok (steps_of e (source.in_turn cs) s) (λ p. behind p.0 (steps_of e (source.in_turn rest) p.1))
steps_append e [] rest s = sym (behind_none (steps_of e (source.in_turn rest) s))
steps_append e (c ∷ cs) rest s = by (λ t. steps_append e cs rest t) (step_of e c s)
  where
    onward : Steps × At → Read
    onward p = behind p.0 (steps_of e (source.in_turn rest) p.1)

    push : (a : Steps) (r : Read) → behind a (on_ok r onward) ≡ on_ok (behind a r) onward
    push a (Err f) = refl
    push a (Ok q) = behind_both a q.0 (steps_of e (source.in_turn rest) q.1)

    by : ((t : At) → steps_of e (source.in_turn (cs ++ rest)) t ≡ on_ok (steps_of e (source.in_turn cs) t) onward) → (r : Read)
        → on_ok r (λ p. behind p.0 (steps_of e (source.in_turn (cs ++ rest)) p.1))
        ≡ on_ok (on_ok r (λ p. behind p.0 (steps_of e (source.in_turn cs) p.1))) onward
    by rests (Err f) = refl
    by rests (Ok p) = ap (behind p.0) (rests p.1) ∙ push p.0 (steps_of e (source.in_turn cs) p.1)

-- one statement alone
pub one_read : (e : ℕ) (c : source.Statement) (s : At) → steps_of e (source.in_turn (c ∷ [])) s ≡ step_of e c s
one_read e c s = by (step_of e c s)
  where
    by : (r : Read) → on_ok r (λ p. on_ok (steps_of e source.End p.1) (λ q. Ok (both_steps p.0 q.0, q.1))) ≡ r
    by (Err f) = refl
    by (Ok p) = behind_done p.0 p.1

-- so many `pop();`
pub pops_read : (e n : ℕ) (s : At) → steps_of e (source.in_turn (discards n)) s ≡ Ok (Done, record s { popped = s.popped + n })
pops_read e zero s = let same : s.popped ≡ s.popped + 0 = omega arith in ap (λ k. good (Done, record s { popped = k })) same
pops_read e (suc n) s =
    let same : s.popped + 1 + n ≡ s.popped + suc n = omega arith in
    ap (behind Done) (pops_read e n (record s { popped = s.popped + 1 })) ∙ ap (λ k. good (Done, record s { popped = k })) same

-- the numbers of both lists are values
pub written_both : (cs rest : List source.Statement) → AreWritten (source.in_turn (cs ++ rest))
    → AreWritten (source.in_turn cs) × AreWritten (source.in_turn rest)
written_both [] rest w = (tt, w)
written_both (c ∷ cs) rest w = let h = written_both cs rest w.1 in ((w.0, h.0), h.1)

-- nothing was read
pub block_start : (e : ℕ) (all : List source.Statement) (first : Unroller) (out : Stmts) → AreWritten (source.in_turn all)
    → BlockSoFar e all all first first out out
block_start e all first out w =
    record {
      added = [];
      grew = sym (append-nil (statements out));
      all_is = sym (behind_none (steps_of e (source.in_turn all) (at_of first)));
      keeps = take_all (length first.names.items.items) first.names.items.items (omega arith);
      written = w;
    }

-- some statements more
pub block_more : (e : ℕ) (all cs rest : List source.Statement) (first now next : Unroller) (out out' out'' : Stmts)
    → BlockSoFar e all (cs ++ rest) first now out out' → Reads (Ok tt) out' out'' now next (steps_of e (source.in_turn cs) (at_of now))
    → BlockSoFar e all rest first next out out''
block_more e all cs rest first now next out out' out'' f r = record {
  added = f.added ++ r.0;
  grew = r.1 ∙ ap (λ l. l ++ r.0) f.grew ∙ append_assoc (statements out) f.added r.0;
  all_is =
      f.all_is
      ∙ ap (behind (in_turn (map step f.added)))
      (steps_append e cs rest (at_of now) ∙ ap (λ x. on_ok x (λ p. behind p.0 (steps_of e (source.in_turn rest) p.1))) r.2)
      ∙ behind_both (in_turn (map step f.added)) (in_turn (map step r.0)) (steps_of e (source.in_turn rest) (at_of next))
      ∙ ap (λ a. behind a (steps_of e (source.in_turn rest) (at_of next)))
      (joined-in_turn (map step f.added) (map step r.0) ∙ ap in_turn (sym (map-append step f.added r.0)));
  keeps = prefix_trans first.names.items.items now.names.items.items next.names.items.items f.keeps r.3;
  written = (written_both cs rest f.written).1;
}

-- some statements are refused
pub block_fault : (e : ℕ) (all cs rest : List source.Statement) (first now x y : Unroller) (out out' o n : Stmts) (result : Result (Unit {0}) RefusedUnit)
    (f : RefusedUnit)
    → result ≡ Err f → BlockSoFar e all (cs ++ rest) first now out out' → IsWhyUnit f (steps_of e (source.in_turn cs) (at_of now))
    → Reads result o n x y (steps_of e (source.in_turn all) (at_of first))
block_fault e all cs rest first now x y out out' o n result f is s r =
    subst (λ t. Reads t o n x y (steps_of e (source.in_turn all) (at_of first))) (sym is)
    (tells_more f (steps_of e (source.in_turn cs) (at_of now)) (steps_of e (source.in_turn all) (at_of first))
    (λ g h. s.all_is
    ∙ ap (behind (in_turn (map step s.added)))
    (steps_append e cs rest (at_of now) ∙ ap (λ x. on_ok x (λ p. behind p.0 (steps_of e (source.in_turn rest) p.1))) h)) r)

-- all statements
pub block_end : (e : ℕ) (all : List source.Statement) (first now : Unroller) (out out' : Stmts) → BlockSoFar e all [] first now out out'
    → Reads (Ok tt) out out' first now (steps_of e (source.in_turn all) (at_of first))
block_end e all first now out out' f = (f.added, f.grew, f.all_is ∙ behind_done (in_turn (map step f.added)) (at_of now), f.keeps)

-- TURNS

-- two steps behind an answer, in either grouping
pub on_ok-assoc : {A B C : Type 0} (r : Result A Fault) (f : A → Result B Fault) (g : B → Result C Fault) → on_ok (on_ok r f) g ≡ on_ok r (λ x. on_ok (f x) g)
on_ok-assoc (Ok x) f g = refl
on_ok-assoc (Err e) f g = refl

unrolled-turn : (block : At → Read) (n : Name) (v : ℕ) (vs : List ℕ) (s : At)
    → unrolled block n (v ∷ vs) s ≡ on_ok (turn_of block n v s) (λ p. behind p.0 (unrolled block n vs p.1))
unrolled-turn block n v vs s =
    let g = λ (p : Steps × At). behind p.0 (unrolled block n vs p.1) in
    let k = λ (a : Steps × At). good (a.0, record a.1 { scope = s.scope }) in
    let f = λ (t : At). on_ok (block (record t { scope = (n, spec.Turn v) ∷ s.scope })) k in
    ap (on_ok (counted s)) (λ i t. sym (on_ok-assoc (block (record t { scope = (n, spec.Turn v) ∷ s.scope })) k g) i)
    ∙ sym (on_ok-assoc (counted s) f g)

turns_ok : (block : At → Read) (n : Name) (v : ℕ) (vs : List ℕ) (s : At) (a : Steps) (s' : At) → turn_of block n v s ≡ Ok (a, s')
    → unrolled block n (v ∷ vs) s ≡ behind a (unrolled block n vs s')
turns_ok block n v vs s a s' h = unrolled-turn block n v vs s ∙ ap (λ r. on_ok r (λ p. behind p.0 (unrolled block n vs p.1))) h

turns_err : (block : At → Read) (n : Name) (v : ℕ) (vs : List ℕ) (s : At) (g : Fault) → turn_of block n v s ≡ Err g → unrolled block n (v ∷ vs) s ≡ Err g
turns_err block n v vs s g h = unrolled-turn block n v vs s ∙ ap (λ r. on_ok r (λ p. behind p.0 (unrolled block n vs p.1))) h

-- before the first turn
pub turns_start : (e : ℕ) (b : source.Block) (n : Name) (low end : ℕ) (first : Unroller) (out : Stmts) → TurnsSoFar e b n low low end first first out out
turns_start e b n low end first out =
    record {
      added = [];
      grew = sym (append-nil (statements out));
      all_is =
          sym (behind_none (unrolled (steps_of e b) n (numbers_from low (end - low)) (at_of first)));
      names = refl;
    }

-- one turn more
pub turns_next : (e : ℕ) (b : source.Block) (n : Name) (low v end : ℕ) (first now next : Unroller) (out out' out'' : Stmts) → v < end
    → TurnsSoFar e b n low v end first now out out' → ReadsTurn (Ok tt) out' out'' now next (turn_of (steps_of e b) n v (at_of now))
    → TurnsSoFar e b n low (v + 1) end first next out out''
turns_next e b n low v end first now next out out' out'' lt f r = record {
  added = f.added ++ r.0;
  grew = r.1 ∙ ap (λ l. l ++ r.0) f.grew ∙ append_assoc (statements out) f.added r.0;
  all_is =
      let rest = unrolled (steps_of e b) n (numbers_from (v + 1) (end - (v + 1))) (at_of next) in
      f.all_is
      ∙ ap (λ vs. behind (in_turn (map step f.added)) (unrolled (steps_of e b) n vs (at_of now))) (numbers_more v end lt)
      ∙ ap (behind (in_turn (map step f.added))) (turns_ok (steps_of e b) n v (numbers_from (v + 1) (end - (v + 1))) (at_of now)
      (in_turn (map step r.0)) (at_of next) r.2)
      ∙ behind_both (in_turn (map step f.added)) (in_turn (map step r.0)) rest
      ∙ ap (λ a. behind a rest) (joined-in_turn (map step f.added) (map step r.0) ∙ ap in_turn (sym (map-append step f.added r.0)));
  names = r.3 ∙ f.names;
}

-- a turn that is refused
pub turns_fault : (e : ℕ) (b : source.Block) (n : Name) (low v end : ℕ) (first now next x y : Unroller) (out out' out'' o k : Stmts) (whole : Read)
    (result : Result (Unit {0}) RefusedUnit) (f : RefusedUnit)
    → result ≡ Err f → v < end → whole ≡ unrolled (steps_of e b) n (numbers_from low (end - low)) (at_of first) → TurnsSoFar e b n low v end first now out out'
    → ReadsTurn (Err f) out' out'' now next (turn_of (steps_of e b) n v (at_of now)) → Reads result o k x y whole
turns_fault e b n low v end first now next x y out out' out'' o k whole result f is lt w s r =
    subst (λ t. Reads t o k x y whole) (sym is)
    (tells_more f (turn_of (steps_of e b) n v (at_of now)) whole
    (λ g h. w ∙ s.all_is ∙ ap (λ vs. behind (in_turn (map step s.added)) (unrolled (steps_of e b) n vs (at_of now))) (numbers_more v end lt)
    ∙ ap (behind (in_turn (map step s.added))) (turns_err (steps_of e b) n v (numbers_from (v + 1) (end - (v + 1))) (at_of now) g h))
    r)

-- all turns
pub turns_end : (e : ℕ) (b : source.Block) (n : Name) (low v end : ℕ) (first now : Unroller) (out out' : Stmts) (whole : Read) → end ≤ v
    → whole ≡ unrolled (steps_of e b) n (numbers_from low (end - low)) (at_of first) → TurnsSoFar e b n low v end first now out out'
    → Reads (Ok tt) out out' first now whole
turns_end e b n low v end first now out out' whole le w f = (
  f.added,
  f.grew,
  w ∙ f.all_is ∙ ap (λ k. behind (in_turn (map step f.added)) (unrolled (steps_of e b) n (numbers_from v k) (at_of now)))
      (let z : end - v ≡ 0 = omega (arith, le) in z) ∙ behind_done (in_turn (map step f.added)) (at_of now),
  ap (take (length first.names.items.items)) f.names ∙ take_all (length first.names.items.items) first.names.items.items (omega arith),
)

-- a loop goes through its turns
for_is : (e : ℕ) (n : Name) (lo hi : Expression) (upto : Bool) (b : source.Block) (s : At)
    → step_of e (source.For n lo upto hi b) s ≡ on_ok (turns_of s.scope n lo upto hi) (λ p. unrolled (steps_of e b) n (numbers_from p.0 (p.1 - p.0)) s)
for_is e n lo hi upto b s =
    let k = if upto then 1 else 0 in
    let turns = λ (p : ℕ × ℕ). unrolled (steps_of e b) n (numbers_from p.0 (p.1 - p.0)) s in
    let f4 = λ (l m : ℕ). turns (l, m + k) in
    let f3 = λ (l : ℕ). on_ok (constant s.scope hi) (λ y. on_ok (bound_of y) (f4 l)) in
    let g3 = λ (l : ℕ). on_ok (on_ok (constant s.scope hi) bound_of) (λ m. Ok (l, m + k)) in
    let high = λ (l : ℕ). sym (on_ok-assoc (constant s.scope hi) bound_of (f4 l))
    ∙ sym (on_ok-assoc (on_ok (constant s.scope hi) bound_of) (λ m. Ok (l, m + k)) turns) in
    let low = sym (on_ok-assoc (constant s.scope lo) bound_of f3) ∙ ap (on_ok (on_ok (constant s.scope lo) bound_of)) (λ i l. high l i)
    ∙ sym (on_ok-assoc (on_ok (constant s.scope lo) bound_of) g3 turns) in
    ap (on_ok (is_new (find s.scope n))) (λ i u. low i)
    ∙ sym (on_ok-assoc (is_new (find s.scope n)) (λ u. on_ok (on_ok (constant s.scope lo) bound_of) g3) turns)

-- a loop whose turns are these
pub for_turns : (e : ℕ) (n : Name) (lo hi : Expression) (upto : Bool) (b : source.Block) (s : At) (l end : ℕ)
    → turns_of s.scope n lo upto hi ≡ Ok (l, end) → step_of e (source.For n lo upto hi b) s ≡ unrolled (steps_of e b) n (numbers_from l (end - l)) s
for_turns e n lo hi upto b s l end h = for_is e n lo hi upto b s ∙ ap (λ r. on_ok r (λ p. unrolled (steps_of e b) n (numbers_from p.0 (p.1 - p.0)) s)) h

-- a loop whose turns are refused
pub for_fault : (e : ℕ) (n : Name) (lo hi : Expression) (upto : Bool) (b : source.Block) (s : At) (f : RefusedUnit)
    → IsWhyUnit f (turns_of s.scope n lo upto hi) → IsWhyUnit f (step_of e (source.For n lo upto hi b) s)
for_fault e n lo hi upto b s f h =
    tells_more f (turns_of s.scope n lo upto hi) (step_of e (source.For n lo upto hi b) s)
    (λ g r. for_is e n lo hi upto b s ∙ ap (λ q. on_ok q (λ p. unrolled (steps_of e b) n (numbers_from p.0 (p.1 - p.0)) s)) r) h

-- an `if` whose parts are there
pub if_is : (e : ℕ) (t : Expression) (a : source.Block) (b : source.Optional) (s s1 : At) (cond : Term) (f g : Steps) (la lb : At) → counted s ≡ Ok s1
    → term_of e s1.scope t s1.popped ≡ Ok cond → steps_of e a (record s1 { popped = s1.popped + pops t }) ≡ Ok (f, la)
    → optional_of e b (record s1 { popped = s1.popped + pops t; slots = la.slots; size = la.size }) ≡ Ok (g, lb) → la.popped ≡ lb.popped → la.pushed ≡ lb.pushed
    → step_of e (source.If t a b) s ≡ Ok (one_step (steps.If cond f g), record lb { scope = s1.scope })
if_is e t a b s s1 cond f g la lb hc ht ha hb p q =
    let f3 = λ (c : Term) (p : Steps × At). on_ok (optional_of e b (record s1 { popped = s1.popped + pops t; slots = p.1.slots; size = p.1.size }))
    (after_arms s1 c p) in
    let f2 = λ (c : Term). on_ok (steps_of e a (record s1 { popped = s1.popped + pops t })) (f3 c) in
    ap (λ r. on_ok r (λ s. on_ok (term_of e s.scope t s.popped)
    (λ c. on_ok (steps_of e a (record s { popped = s.popped + pops t }))
    (λ p. on_ok (optional_of e b (record s { popped = s.popped + pops t; slots = p.1.slots; size = p.1.size })) (after_arms s c p))))) hc
    ∙ ap (λ r. on_ok r f2) ht
    ∙ ap (λ r. on_ok r (f3 cond)) ha
    ∙ ap (λ r. on_ok r (after_arms s1 cond (f, la))) hb
    ∙ ap (λ t. if t then good (one_step (steps.If cond f g), record lb { scope = s1.scope }) else Err BranchRates)
    (and_from (nat_eq la.popped lb.popped) (nat_eq la.pushed lb.pushed) (eq-eqb la.popped lb.popped p) (eq-eqb la.pushed lb.pushed q))

abbrev Entry : Type 0
Entry = Name × Known

-- one turn: the variable is the newest name, and is forgotten afterwards
pub turn_is : (e : ℕ) (b : source.Block) (name : Name) (v : ℕ) (s0 s1 s3 : At) (i0 i1 i2 i3 i4 : List Entry) (a : Steps) → s0.scope ≡ scope_of i0
    → counted s0 ≡ Ok s1 → i1 ≡ i0 → i2 ≡ i1 ++ (name, known.Turn v) ∷ [] → steps_of e b (record s1 { scope = scope_of i2 }) ≡ Ok (a, s3)
    → take (length i2) i3 ≡ i2 → i4 ≡ take (length i1) i3 → (turn_of (steps_of e b) name v s0 ≡ Ok (a, record s3 { scope = scope_of i4 })) × (i4 ≡ i0)
turn_is e b name v s0 s1 s3 i0 i1 i2 i3 i4 a sc hc e1 e2 hb kept e4 =
    let k = λ (p : Steps × At). good (p.0, record p.1 { scope = s0.scope }) in
    let front : take (length i1) i2 ≡ i1 = ap (take (length i1)) e2 ∙ take-append_seam i1 ((name, known.Turn v) ∷ []) in
    let same : i4 ≡ i0 = e4 ∙ prefix_trans i1 i2 i3 front kept ∙ e1 in
    let scope : scope_of i2 ≡ (name, spec.Turn v) ∷ s0.scope = ap scope_of e2 ∙ scope-push i1 (name, known.Turn v)
    ∙ ap (λ l. (name, spec.Turn v) ∷ scope_of l) e1 ∙ ap (λ l. (name, spec.Turn v) ∷ l) (sym sc) in (
      ap (λ r. on_ok r (λ t. on_ok (steps_of e b (record t { scope = (name, spec.Turn v) ∷ s0.scope })) k)) hc
          ∙ ap (λ l. on_ok (steps_of e b (record s1 { scope = l })) k) (sym scope)
          ∙ ap (λ r. on_ok r k) hb
          ∙ ap (λ l. good (a, record s3 { scope = l })) (sc ∙ ap scope_of (sym same)),
      same,
    )

-- an `if` whose arms were read one after the other
pub if_read : (e : ℕ) (t : Expression) (a : source.Block) (b : source.Optional) (s s1 m1 m2 la lb : At) (cond : Term) (k : ℕ) (f g : Steps) → counted s ≡ Ok s1
    → term_of e s1.scope t s1.popped ≡ Ok cond → k ≡ s1.popped + pops t → steps_of e a (record s1 { popped = k }) ≡ Ok (f, la)
    → m1 ≡ record la { scope = s1.scope } → optional_of e b (record m1 { popped = k; pushed = s1.pushed }) ≡ Ok (g, lb) → m2 ≡ record lb { scope = m1.scope }
    → m1.popped ≡ m2.popped → m1.pushed ≡ m2.pushed → step_of e (source.If t a b) s ≡ Ok (one_step (steps.If cond f g), m2)
if_read e t a b s s1 m1 m2 la lb cond k f g hc ht hk ha em1 hb em2 p q =
    let ha' = ap (λ j. steps_of e a (record s1 { popped = j })) (sym hk) ∙ ha in
    let at : record m1 { popped = k; pushed = s1.pushed } ≡ record s1 { popped = s1.popped + pops t; slots = la.slots; size = la.size } =
    ap (λ (m : At). record m { popped = k; pushed = s1.pushed }) em1 ∙ ap (λ j. record s1 { popped = j; slots = la.slots; size = la.size }) hk in
    let hb' = ap (optional_of e b) (sym at) ∙ hb in
    let p' = sym (ap (λ (m : At). m.popped) em1) ∙ p ∙ ap (λ (m : At). m.popped) em2 in
    let q' = sym (ap (λ (m : At). m.pushed) em1) ∙ q ∙ ap (λ (m : At). m.pushed) em2 in
    if_is e t a b s s1 cond f g la lb hc ht ha' hb' p' q'
    ∙ ap (λ l. good (one_step (steps.If cond f g), record lb { scope = l })) (sym (ap (λ (m : At). m.scope) em1))
    ∙ ap (λ m. good (one_step (steps.If cond f g), m)) (sym em2)

-- an answer that is a fault
pub reads_err : (result : Result (Unit {0}) RefusedUnit) (f : RefusedUnit) (o n : Stmts) (x y : Unroller) (r : Read) → result ≡ Err f → IsWhyUnit f r
    → Reads result o n x y r
reads_err result f o n x y r is t = subst (λ q. Reads q o n x y r) (sym is) t

-- an answer about a statement that is one alone
pub reads_as : (result : Result (Unit {0}) RefusedUnit) (o n : Stmts) (x y : Unroller) (e : ℕ) (s : At) {cs : List source.Statement} {d : source.Statement}
    → cs ≡ d ∷ [] → Reads result o n x y (step_of e d s) → Reads result o n x y (steps_of e (source.in_turn cs) s)
reads_as result o n x y e s {cs} {d} is h =
    subst (λ l. Reads result o n x y (steps_of e (source.in_turn l) s)) (sym is) (subst (Reads result o n x y) (sym (one_read e d s)) h)
