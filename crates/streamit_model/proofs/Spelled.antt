-- Expressions are read word by word: the first word that has a fault is told.
use Rattle.std.proofs.Common.{◌≡◌, ℕ, ℤ, pos, negsuc, ◌+◌, ◌≤◌, inl, inr, List, [], ◌∷◌, ◌++◌, Option, Some, None, Ok, refl, sym, ap, ◌∙◌}
use Rattle.std.proofs.Common.{subst, arith, append_assoc, nat_lt, nat_le}
use Rattle.std.proofs.lemmas.List.{append-nil}
use Rattle.std.specs.Ordering.{int_eq}
use Rattle.std.proofs.lemmas.Bool.{ltb-true, ltb-false, leb-true, leb-false}
use Rattle.river_base.proofs.Tests.{pos_is, negative}
use Rattle.river_base.specs.Number.{negate}
use Rattle.work_code.specs.Term.{Term}
use Rattle.work_code.specs.Term as term
use Rattle.work_code.specs.Value.{applied, truth}
use Rattle.river_plan.specs.Forms.{Name}
use Rattle.streamit_text.specs.Tree.{Expression}
use Rattle.streamit_text.specs.Tree as tree
use Rattle.streamit_model.specs.Meaning.{Store, eval, pops}
use Rattle.streamit_model.specs.Elaborate.{on_ok, KnownName, Var, Turn, find, constant_of, constant, named_term}
use Rattle.streamit_model.specs.declared.fault.Fault.TheVariants.{NotConstant, PeekRange, Limit}
use Rattle.streamit_model.specs.Elaborate.{peeked}
use Rattle.streamit_model.specs.Elaborate.{term_of, At, first_term, first_popped}
use Rattle.streamit_text.specs.Program.{UnitForm}
use Rattle.streamit_model.specs.Words.{ReadWord, Uses, Fixes, Varies, Pops, Peeks, over, knows, leaves, enters, exits, IsLocal, IsLoopVariable, IsKnown, popped_in}
use Rattle.streamit_model.specs.Text.{fixed, fixed_value, spelled, spelled_first}
use Rattle.streamit_model.specs.Places.{Reads, each_word}
use Rattle.streamit_model.proofs.Meeting.{FirstIn, Meets, free, first_unknown, first_variable, first_peek, first_limit, finish, last_test, next, weaken}
use Rattle.streamit_model.proofs.Standing.{NameIs, Stands, stands_popped, none_known, moved, unmoved, regrouped, repopped}

-- TESTS

-- WHAT A NAME IS

-- what stands for a slot is the name of a local
pub local_known : (before : List ReadWord) (n : Name) (o : Option KnownName) (i : ℕ) (z : ℤ) → o ≡ Some (Var i)
    → NameIs o (over (knows n) before) (over (leaves n) before) (over (enters n) before) (over (exits n) before) z
    → IsLocal before n × (IsLoopVariable before n → ⊥)
local_known before n o i z f h =
    let d = subst (λ o. NameIs o (over (knows n) before) (over (leaves n) before) (over (enters n) before) (over (exits n) before) z) f h in
    let a = d.0 in let b = d.1 in (omega (arith, a), λ lt. omega (arith, b, lt))

-- what stands for a turn is the variable of a loop
pub turn_known : (before : List ReadWord) (n : Name) (o : Option KnownName) (v : ℕ) (z : ℤ) → o ≡ Some (Turn v)
    → NameIs o (over (knows n) before) (over (leaves n) before) (over (enters n) before) (over (exits n) before) z
    → IsLoopVariable before n × (IsLocal before n → ⊥) × (z ≡ pos v)
turn_known before n o v z f h =
    let d = subst (λ o. NameIs o (over (knows n) before) (over (leaves n) before) (over (enters n) before) (over (exits n) before) z) f h in
    let a = d.0 in let b = d.1 in (omega (arith, b), λ lt. omega (arith, a, lt), d.2)

-- some entry stands for the name
pub some_known : (before : List ReadWord) (n : Name) (o : Option KnownName) (b : KnownName) (z : ℤ) → o ≡ Some b
    → NameIs o (over (knows n) before) (over (leaves n) before) (over (enters n) before) (over (exits n) before) z → IsKnown before n
some_known before n o (Var i) z f h = inl (local_known before n o i z f h).0
some_known before n o (Turn v) z f h = inr (turn_known before n o v z f h).0

module _ (above : List UnitForm) (e : ℕ) where
  -- NAMES AND LEAVES

  fixes : (before : List ReadWord) (n : Name) (o : Option KnownName) (z : ℤ) → ((o ≡ None) → IsKnown before n → ⊥)
      → NameIs o (over (knows n) before) (over (leaves n) before) (over (enters n) before) (over (exits n) before) z
      → Meets above (Reads e before (Fixes n) ∷ []) (constant_of o) (λ w. z ≡ w)
  fixes before n None z new h = inl (first_unknown above (Reads e before (Fixes n)) (new refl) (λ k. k))
  fixes before n (Some (Var i)) z new h =
      let l = local_known before n (Some (Var i)) i z refl h in
      inl (first_variable above (Reads e before (Fixes n)) l.0 (λ k. k) (λ k. k (inl l.0)))
  fixes before n (Some (Turn v)) z new h =
      let t = turn_known before n (Some (Turn v)) v z refl h in (
        (free above (Reads e before (Fixes n)) (λ k. k (inr t.0)) (λ k. k) (λ d c k. k) (λ i r k. k) (λ k. t.1 k) (λ k. k) (λ k. k) (λ k. k), tt),
        t.2,
      )

  varies : (before : List ReadWord) → FirstIn above (Reads e before Varies ∷ []) NotConstant
  varies before = inl (first_variable above (Reads e before Varies) tt (λ k. k) (λ k. k))

  uses : (before : List ReadWord) (n : Name) (o : Option KnownName) (z : ℤ) (Q : Term → Type 0) → ((o ≡ None) → IsKnown before n → ⊥)
      → NameIs o (over (knows n) before) (over (leaves n) before) (over (enters n) before) (over (exits n) before) z → ((u : Term) → Q u)
      → Meets above (Reads e before (Uses n) ∷ []) (named_term o) Q
  uses before n None z Q new h q = inl (first_unknown above (Reads e before (Uses n)) (new refl) (λ k. k))
  uses before n (Some (Var i)) z Q new h q =
      let l = some_known before n (Some (Var i)) (Var i) z refl h in
      ((free above (Reads e before (Uses n)) (λ k. k l) (λ k. k) (λ d c k. k) (λ i r k. k) (λ k. k) (λ k. k) (λ k. k) (λ k. k), tt), q (term.Slot i))
  uses before n (Some (Turn v)) z Q new h q =
      let l = some_known before n (Some (Turn v)) (Turn v) z refl h in
      ((free above (Reads e before (Uses n)) (λ k. k l) (λ k. k) (λ d c k. k) (λ i r k. k) (λ k. k) (λ k. k) (λ k. k) (λ k. k), tt), q (term.Const (pos v)))

  -- BOUNDS AND INDEXES

  -- a fixed expression stands where it is read, and has this value everywhere
  pub record Fixed (before : List ReadWord) (t : Expression) (s : At) (turns : Store) (z : ℤ) : Type 0 where
    pub stands : Stands (before ++ fixed t) s turns
    pub value : (xs : List ℤ) (k : ℕ) → eval t xs turns k ≡ z
    pub none : pops t ≡ 0

  -- judging a bound or an index tells the first fault of its words, or its value
  pub fixed_met : (t : Expression) (before : List ReadWord) (s : At) (turns : Store) → Stands before s turns
      → Meets above (each_word e before (fixed t)) (constant s.scope t) (Fixed before t s turns)
  fixed_met (tree.Number v) before s turns h =
      (tt, record { stands = regrouped before (before ++ []) s turns (sym (append-nil before)) h; value = λ xs k. refl; none = refl })
  fixed_met (tree.Name n) before s turns h =
      weaken above (Reads e before (Fixes n) ∷ []) (constant_of (find s.scope n)) (λ w. turns n ≡ w) (Fixed before (tree.Name n) s turns)
      (fixes before n (find s.scope n) (turns n) (λ f. none_known before s.scope turns n f (h.names n)) (h.names n))
      (λ w is. record { stands = unmoved before (Fixes n) s turns h (λ m. (refl, refl)) refl refl refl refl refl refl; value = λ xs k. is; none = refl })
  fixed_met (tree.Peek t) before s turns h = varies before
  fixed_met tree.Pop before s turns h = varies before
  fixed_met (tree.Neg t) before s turns h =
      finish above (each_word e before (fixed t)) (constant s.scope t) negate (Fixed before t s turns) (Fixed before (tree.Neg t) s turns)
      (fixed_met t before s turns h)
      (λ z f. record { stands = f.stands; value = λ xs k. ap negate (f.value xs k); none = f.none })
  fixed_met (tree.Not t) before s turns h =
      finish above (each_word e before (fixed t)) (constant s.scope t) (λ a. truth (int_eq a (pos 0))) (Fixed before t s turns)
      (Fixed before (tree.Not t) s turns)
      (fixed_met t before s turns h)
      (λ z f. record { stands = f.stands; value = λ xs k. ap (λ a. truth (int_eq a (pos 0))) (f.value xs k); none = f.none })
  fixed_met (tree.Bin o l r) before s turns h =
      next above e before (fixed l) (fixed r) (constant s.scope l) (λ a. on_ok (constant s.scope r) (λ b. Ok (applied o a b))) (Fixed before l s turns)
      (Fixed before (tree.Bin o l r) s turns) (fixed_met l before s turns h)
      (λ a f. finish above (each_word e (before ++ fixed l) (fixed r)) (constant s.scope r) (applied o a) (Fixed (before ++ fixed l) r s turns)
      (Fixed before (tree.Bin o l r) s turns) (fixed_met r (before ++ fixed l) s turns f.stands)
      (λ b g. record {
        stands = regrouped ((before ++ fixed l) ++ fixed r) (before ++ (fixed l ++ fixed r)) s turns (append_assoc before (fixed l) (fixed r)) g.stands;
        value = λ xs k. ap (λ x. applied o x (eval r xs turns (k + pops l))) (f.value xs k) ∙ ap (applied o a) (g.value xs (k + pops l));
        none = let p = f.none in let q = g.none in omega (arith, p, q);
      }))

  -- PEEKS AND POPS

  abbrev After : List ReadWord → List ReadWord → At → Store → ℕ → Type 0
  After before ws s turns k = Stands (before ++ ws) (record s { popped = s.popped + k }) turns

  peeks_at : (before : List ReadWord) (i : ℕ) (k : ℕ) (Q : Term → Type 0) → e ≤ 65536 → popped_in before ≡ k → ((u : Term) → Q u)
      → Meets above (Reads e before (Peeks (pos i)) ∷ []) (peeked e k (pos i)) Q
  peeks_at before i k Q small is q =
      let s = Reads e before (Peeks (pos i)) in
      last_test above (s ∷ []) (nat_lt (k + i) e) (term.Input (k + i)) (PeekRange (pos i) e) Q
      (λ t.
      let lt = ltb-true (k + i) e t in (
        (
          free above s (λ h. h) (λ h. h) (λ d c h. h) (λ j r h. h.0 (i, refl, omega (arith, lt, is))) (λ h. h) (λ h. h)
              (λ h. let n = pos_is i h.0 h.1 in let m = h.2 in omega (arith, lt, is, n, m, small)) (λ h. h),
          tt,
        ),
        q (term.Input (k + i)),
      ))
      (λ f.
      let le = ltb-false (k + i) e f in
      inl (first_peek above s (pos i) e ((λ h. let n = pos_is i h.0 h.1 in let m = h.2 in omega (arith, le, is, n, m)), refl, refl) (λ h. h) (λ h. h) (λ h. h)
      (λ h. h)))

  peeks : (before : List ReadWord) (i z : ℤ) (k : ℕ) (Q : Term → Type 0) → i ≡ z → e ≤ 65536 → popped_in before ≡ k → ((u : Term) → Q u)
      → Meets above (Reads e before (Peeks i) ∷ []) (peeked e k z) Q
  peeks before i (pos n) k Q same small is q =
      subst (λ j. Meets above (Reads e before (Peeks j) ∷ []) (peeked e k (pos n)) Q) (sym same) (peeks_at before n k Q small is q)
  peeks before i (negsuc n) k Q same small is q =
      let s = Reads e before (Peeks (negsuc n)) in
      subst (λ j. Meets above (Reads e before (Peeks j) ∷ []) (peeked e k (negsuc n)) Q) (sym same)
      (inl (first_peek above s (negsuc n) e ((λ h. negative n h.0 h.1), refl, refl) (λ h. h) (λ h. h) (λ h. h) (λ h. h)))

  pops_here : (before : List ReadWord) (k : ℕ) (Q : Term → Type 0) → popped_in before ≡ k → ((u : Term) → Q u)
      → Meets above (Reads e before Pops ∷ []) (term_of e [] tree.Pop k) Q
  pops_here before k Q is q =
      let s = Reads e before Pops in
      last_test above (s ∷ []) (nat_le k 65536) (term.Input k) Limit Q
      (λ t.
      let le = leb-true k 65536 t in (
        (free above s (λ h. h) (λ h. h) (λ d c h. h) (λ j r h. h) (λ h. h) (λ h. h) (λ h. omega (arith, le, is, h)) (λ h. h), tt),
        q (term.Input k),
      ))
      (λ f. let lt = leb-false k 65536 f in inl (first_limit above s (omega (arith, lt, is)) (λ h. h) (λ h. h) (λ h. h) (λ h. h) (λ j r h. h)))

  -- EXPRESSIONS

  -- judging an expression tells the first fault of its words, or its term
  pub spelled_met : (t : Expression) (before : List ReadWord) (s : At) (turns : Store) → e ≤ 65536 → Stands before s turns
      → Meets above (each_word e before (spelled t turns)) (term_of e s.scope t s.popped) (λ u. After before (spelled t turns) s turns (pops t))
  spelled_met (tree.Number v) before s turns small h = (
    tt,
    regrouped before (before ++ []) (record s { popped = s.popped + 0 }) turns (sym (append-nil before))
        (repopped before s turns s.popped (s.popped + 0) (omega arith) h),
  )
  spelled_met (tree.Name n) before s turns small h =
      uses before n (find s.scope n) (turns n) (λ u. After before (Uses n ∷ []) s turns 0) (λ f. none_known before s.scope turns n f (h.names n)) (h.names n)
      (λ u. repopped (before ++ Uses n ∷ []) s turns s.popped (s.popped + 0) (omega arith)
      (unmoved before (Uses n) s turns h (λ m. (refl, refl)) refl refl refl refl refl refl))
  spelled_met (tree.Peek t) before s turns small h =
      next above e before (fixed t) (Peeks (fixed_value t turns) ∷ []) (constant s.scope t) (peeked e s.popped) (Fixed before t s turns)
      (λ u. After before (fixed t ++ Peeks (fixed_value t turns) ∷ []) s turns (pops t)) (fixed_met t before s turns h)
      (λ z f. peeks (before ++ fixed t) (fixed_value t turns) z s.popped (λ u. After before (fixed t ++ Peeks (fixed_value t turns) ∷ []) s turns (pops t))
      (f.value [] 0) small (stands_popped (before ++ fixed t) s turns f.stands)
      (λ u.
      let n = f.none in
      regrouped ((before ++ fixed t) ++ Peeks (fixed_value t turns) ∷ []) (before ++ (fixed t ++ Peeks (fixed_value t turns) ∷ []))
      (record s { popped = s.popped + pops t }) turns
      (append_assoc before (fixed t) (Peeks (fixed_value t turns) ∷ []))
      (repopped ((before ++ fixed t) ++ Peeks (fixed_value t turns) ∷ []) s turns s.popped (s.popped + pops t) (omega (arith, n))
      (unmoved (before ++ fixed t) (Peeks (fixed_value t turns)) s turns f.stands (λ m. (refl, refl)) refl refl refl refl refl refl))))
  spelled_met tree.Pop before s turns small h =
      pops_here before s.popped (λ u. After before (Pops ∷ []) s turns 1) (stands_popped before s turns h)
      (λ u. moved before (Pops ∷ []) s turns s.slots (s.popped + 1) s.pushed s.size h (λ m. (refl, refl)) (omega arith) (omega arith) (omega arith)
      (omega arith))
  spelled_met (tree.Neg t) before s turns small h =
      finish above (each_word e before (spelled t turns)) (term_of e s.scope t s.popped) term.Neg (λ u. After before (spelled t turns) s turns (pops t))
      (λ u. After before (spelled t turns) s turns (pops t)) (spelled_met t before s turns small h) (λ u a. a)
  spelled_met (tree.Not t) before s turns small h =
      finish above (each_word e before (spelled t turns)) (term_of e s.scope t s.popped) term.Not (λ u. After before (spelled t turns) s turns (pops t))
      (λ u. After before (spelled t turns) s turns (pops t)) (spelled_met t before s turns small h) (λ u a. a)
  spelled_met (tree.Bin o l r) before s turns small h =
      let k = s.popped + pops l in
      let mid = record s { popped = k } in
      let ls = spelled l turns in
      let rs = spelled r turns in
      next above e before ls rs (term_of e s.scope l s.popped) (λ a. on_ok (term_of e s.scope r k) (λ b. Ok (term.Bin o a b)))
      (λ u. After before ls s turns (pops l))
      (λ u. After before (ls ++ rs) s turns (pops l + pops r)) (spelled_met l before s turns small h)
      (λ a f. finish above (each_word e (before ++ ls) rs) (term_of e s.scope r k) (term.Bin o a) (λ u. After (before ++ ls) rs mid turns (pops r))
      (λ u. After before (ls ++ rs) s turns (pops l + pops r)) (spelled_met r (before ++ ls) mid turns small f)
      (λ b g. regrouped ((before ++ ls) ++ rs) (before ++ (ls ++ rs)) (record s { popped = s.popped + (pops l + pops r) }) turns (append_assoc before ls rs)
      (repopped ((before ++ ls) ++ rs) s turns (k + pops r) (s.popped + (pops l + pops r)) (omega arith) g)))

  -- the first value of a local
  pub first_met : (t : Option Expression) (before : List ReadWord) (s : At) (turns : Store) → e ≤ 65536 → Stands before s turns
      → Meets above (each_word e before (spelled_first t turns)) (first_term e t s) (λ u. After before (spelled_first t turns) s turns (first_popped t))
  first_met None before s turns small h = (
    tt,
    regrouped before (before ++ []) (record s { popped = s.popped + 0 }) turns (sym (append-nil before))
        (repopped before s turns s.popped (s.popped + 0) (omega arith) h),
  )
  first_met (Some t) before s turns small h = spelled_met t before s turns small h
