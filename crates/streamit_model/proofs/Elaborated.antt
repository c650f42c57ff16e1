-- Unrolled statements do what the block does as it is written.
use Rattle.std.proofs.Common.{◌≡◌, ◌≢◌, ℕ, ℤ, pos, negsuc, ◌+◌, ◌-◌, ◌<◌, ◌≤◌, Bool, true, false, List, [], ◌∷◌, ◌++◌, length, Option, Some, None, Result, Ok}
use Rattle.std.proofs.Common.{Err, refl, sym, ap, ◌∙◌, subst, arith, append_assoc, nat_lt, nat_le, nat_eq, ⊎_elim}
use Rattle.std.specs.Prelude.{if◌then◌else◌, ◌&&◌, slice_index_or, slice_set}
use Rattle.std.proofs.lemmas.Bool.{and_parts, eqb-true}
use Rattle.std.proofs.lemmas.List.{append-nil, map-append, get_or-set_same, get_or-set_other}
use Rattle.std.specs.Ordering.{int_eq}
use Rattle.std.proofs.lemmas.Option.{same_Some}
use Rattle.brooklet_model.proofs.Lists.{at_here, at_other}
use Rattle.river_base.proofs.Options.{none_some}
use Rattle.river_base.specs.Name.{name_eq}
use Rattle.river_base.specs.Number.{count_of, negate}
use Rattle.work_code.specs.Term.{Term}
use Rattle.work_code.specs.Term as term
use Rattle.work_code.specs.Steps.{Step, Steps, Done, both_steps, one_step}
use Rattle.work_code.specs.Steps as steps
use Rattle.work_code.specs.Ran.{Ran, ran, ran_once}
use Rattle.work_code.specs.Value.{val, applied, truth, is_true}
use Rattle.kern_rows.specs.Stands.{first_values}
use Rattle.kern_rows.proofs.Lengths.{ran_length}
use Rattle.river_plan.specs.Forms.{Name}
use Rattle.river_plan.proofs.NameLemmas.{cases_name, name_same as name_self}
use Rattle.brooklet_model.specs.Machine.{at_name}
use Rattle.streamit_text.specs.Tree.{Expression, Statement, Declare, Assign, Push, Discard, If, For, Block, End, Then, Optional, Unwritten, Written}
use Rattle.streamit_text.specs.Tree as tree
use Rattle.streamit_model.specs.Meaning.{pops, Store, eval, State, numbers_from, turns_between, each_turn, first_value, first_pops, exec, exec_all, exec_optional}
use Rattle.streamit_model.specs.Elaborate.{on_ok, demand, KnownName, Var, Turn, Scope, find, constant_of, constant}
use Rattle.streamit_model.specs.declared.fault.Fault.{Fault}
use Rattle.streamit_model.specs.declared.fault.Fault.TheVariants.{Limit, BranchRates, PeekRange}
use Rattle.streamit_model.specs.Elaborate.{named_term}
use Rattle.streamit_model.specs.Elaborate.{peeked, term_of, At, counted, has_slot, is_new, slot_of, bound_of, first_term, first_popped, Read}
use Rattle.streamit_model.specs.Elaborate.{declared, after_arms, unrolled, step_of, steps_of, optional_of}

-- ANSWERS

-- a result without a fault
abbrev pub fine : {A : Type 0} → A → Result A Fault
fine x = Ok x

-- equal answers have equal values
pub ok_is : {A : Type 0} (x y : A) → fine x ≡ fine y → x ≡ y
ok_is x y h = cc

-- an answer that went on had a value
pub ok_parts : {A B : Type 0} (r : Result A Fault) (f : A → Result B Fault) (y : B) → on_ok r f ≡ fine y → (x : A) × (r ≡ Ok x) × (f x ≡ Ok y)
ok_parts (Ok x) f y h = (x, refl, h)
ok_parts (Err e) f y h = absurd (cc h)

-- an answer behind a test
pub if_ok : {A : Type 0} (b : Bool) (x y : A) (e : Fault) → (if b then fine x else Err e) ≡ fine y → (b ≡ true) × (x ≡ y)
if_ok true x y e h = (refl, ok_is x y h)
if_ok false x y e h = absurd (cc h)

-- what was demanded holds
pub demanded : (b : Bool) (e : Fault) (u : Unit {0}) → demand b e ≡ fine u → b ≡ true
demanded b e u h = (if_ok b tt u e h).0

-- the newest name is found
pub found_here : (n m : Name) (b : KnownName) (sc : Scope) → name_eq n m ≡ true → find ((n, b) ∷ sc) m ≡ Some b
found_here n m b sc e = ap (λ t. if t then Some b else find sc m) e

-- and another name is found as before
pub found_other : (n m : Name) (b : KnownName) (sc : Scope) → name_eq n m ≡ false → find ((n, b) ∷ sc) m ≡ find sc m
found_other n m b sc e = ap (λ t. if t then Some b else find sc m) e

-- WHAT IS KNOWN

-- what a known name stands for has the name's value
abbrev pub Holds : KnownName → ℤ → List ℤ → Type 0
Holds (Var i) z mem = slice_index_or mem i (pos 0) ≡ z
Holds (Turn v) z mem = pos v ≡ z

-- the names' values are those in the slots
pub record Agrees (sc : Scope) (env : Store) (mem : List ℤ) : Type 0 where
  pub each : (n : Name) (b : KnownName) → find sc n ≡ Some b → Holds b (env n) mem

-- the slots of known names are there, and each is one name's
pub record IsSound (sc : Scope) (slots : ℕ) : Type 0 where
  pub below : (n : Name) (i : ℕ) → find sc n ≡ Some (Var i) → i < slots
  pub apart : (n m : Name) (i : ℕ) → find sc n ≡ Some (Var i) → find sc m ≡ Some (Var i) → n ≡ m

-- what was known is known
abbrev pub Keeps : Scope → Scope → Type 0
Keeps sc sc' = (n : Name) (b : KnownName) → find sc n ≡ Some b → find sc' n ≡ Some b

agrees_within : (sc sc' : Scope) (env : Store) (mem : List ℤ) → Keeps sc sc' → Agrees sc' env mem → Agrees sc env mem
agrees_within sc sc' env mem k a = record { each = λ n b f. a.each n b (k n b f) }

-- more slots are as sound
pub more_slots : (sc : Scope) (m n : ℕ) → m ≤ n → IsSound sc m → IsSound sc n
more_slots sc m n le s = record { below = λ x i f. let b = s.below x i f in omega (arith, b, le); apart = s.apart }

-- a new name hides nothing
pub keeps_new : (n : Name) (b : KnownName) (sc : Scope) → find sc n ≡ None → Keeps sc ((n, b) ∷ sc)
keeps_new n b sc new m c f = ⊎_elim
    (λ e. absurd (none_some (find sc m) c (subst (λ x. find sc x ≡ None) e.0 new) f))
    (λ e. found_other n m b sc e.1 ∙ f)
    (cases_name n m)

var_is : (i j : ℕ) → Some (Var i) ≡ Some (Var j) → i ≡ j
var_is i j h = cc

turn_var : (v j : ℕ) → Some (Turn v) ≡ Some (Var j) → ⊥
turn_var v j h = cc h

-- a new slot is one name's
pub sound_var : (n : Name) (sc : Scope) (slots : ℕ) → IsSound sc slots → IsSound ((n, Var slots) ∷ sc) (slots + 1)
sound_var n sc slots s = record {
  below = λ m i f. ⊎_elim
      (λ e. let q = var_is slots i (sym (found_here n m (Var slots) sc e.1) ∙ f) in omega (arith, q))
      (λ e. let q = s.below m i (sym (found_other n m (Var slots) sc e.1) ∙ f) in omega (arith, q))
      (cases_name n m);
  apart = λ m o i f g. ⊎_elim
      (λ e. ⊎_elim
      (λ d. sym e.0 ∙ d.0)
      (λ d.
      let q = var_is slots i (sym (found_here n m (Var slots) sc e.1) ∙ f) in
      let r = s.below o i (sym (found_other n o (Var slots) sc d.1) ∙ g) in
      absurd (omega (arith, q, r)))
      (cases_name n o))
      (λ e. ⊎_elim
      (λ d.
      let q = var_is slots i (sym (found_here n o (Var slots) sc d.1) ∙ g) in
      let r = s.below m i (sym (found_other n m (Var slots) sc e.1) ∙ f) in
      absurd (omega (arith, q, r)))
      (λ d. s.apart m o i (sym (found_other n m (Var slots) sc e.1) ∙ f) (sym (found_other n o (Var slots) sc d.1) ∙ g))
      (cases_name n o))
      (cases_name n m);
}

sound_turn : (n : Name) (v : ℕ) (sc : Scope) (slots : ℕ) → IsSound sc slots → IsSound ((n, Turn v) ∷ sc) slots
sound_turn n v sc slots s = record {
  below = λ m i f. ⊎_elim
      (λ e. absurd (turn_var v i (sym (found_here n m (Turn v) sc e.1) ∙ f)))
      (λ e. s.below m i (sym (found_other n m (Turn v) sc e.1) ∙ f))
      (cases_name n m);
  apart = λ m o i f g. ⊎_elim
      (λ e. absurd (turn_var v i (sym (found_here n m (Turn v) sc e.1) ∙ f)))
      (λ e. ⊎_elim
      (λ d. absurd (turn_var v i (sym (found_here n o (Turn v) sc d.1) ∙ g)))
      (λ d. s.apart m o i (sym (found_other n m (Turn v) sc e.1) ∙ f) (sym (found_other n o (Turn v) sc d.1) ∙ g))
      (cases_name n o))
      (cases_name n m);
}

-- the loop's variable has its turn's value
agrees_turn : (n : Name) (v : ℕ) (sc : Scope) (env : Store) (mem : List ℤ) → Agrees sc env mem → Agrees ((n, Turn v) ∷ sc) (at_name n (pos v) env) mem
agrees_turn n v sc env mem a = record {
  each = λ m b f. ⊎_elim
      (λ e. subst (λ c. Holds c (at_name n (pos v) env m) mem) (same_Some (Turn v) b (sym (found_here n m (Turn v) sc e.1) ∙ f))
      (sym (at_here n m (pos v) env e.1)))
      (λ e. subst (λ z. Holds b z mem) (sym (at_other n m (pos v) env e.1)) (a.each m b (sym (found_other n m (Turn v) sc e.1) ∙ f)))
      (cases_name n m);
}

-- a slot is set to its name's new value; what the other names stand for holds
holds_set : (b : KnownName) (z w : ℤ) (i : ℕ) (mem : List ℤ) → ((j : ℕ) → b ≡ Var j → j ≢ i) → Holds b z mem → Holds b z (slice_set mem i w)
holds_set (Var j) z w i mem ne h = get_or-set_other mem i j w (pos 0) (ne j refl) ∙ h
holds_set (Turn v) z w i mem ne h = h

agrees_set : (n : Name) (i : ℕ) (z : ℤ) (sc : Scope) (slots : ℕ) (env : Store) (mem : List ℤ) → IsSound sc slots → slots ≤ length mem
    → find sc n ≡ Some (Var i)
    → ((m : Name) (b : KnownName) → name_eq n m ≡ false → find sc m ≡ Some b → Holds b (env m) mem) → Agrees sc (at_name n z env) (slice_set mem i z)
agrees_set n i z sc slots env mem s len f others = record {
  each = λ m b g. ⊎_elim
      (λ e.
      let is : Var i ≡ b = same_Some (Var i) b (sym f ∙ ap (find sc) e.0 ∙ g) in
      let lt = s.below n i f in
      subst (λ c. Holds c (at_name n z env m) (slice_set mem i z)) is (get_or-set_same mem i z (pos 0) (omega (arith, lt, len)) ∙ sym (at_here n m z env e.1)))
      (λ e.
      subst (λ y. Holds b y (slice_set mem i z)) (sym (at_other n m z env e.1))
      (holds_set b (env m) z i mem (λ j q r. e.0 (s.apart n m i f (g ∙ ap Some (q ∙ ap Var r)))) (others m b e.1 g)))
      (cases_name n m);
}

-- EXPRESSIONS

constant_found : (o : Option KnownName) (z w : ℤ) (mem : List ℤ) → ((b : KnownName) → o ≡ Some b → Holds b w mem) → constant_of o ≡ Ok z → w ≡ z
constant_found None z w mem h c = absurd (cc c)
constant_found (Some (Var i)) z w mem h c = absurd (cc c)
constant_found (Some (Turn v)) z w mem h c = sym (h (Turn v) refl) ∙ ok_is (pos v) z c

constant_is : (sc : Scope) (t : Expression) (xs : List ℤ) (env : Store) (mem : List ℤ) (k : ℕ) (z : ℤ) → Agrees sc env mem → constant sc t ≡ Ok z
    → eval t xs env k ≡ z
constant_is sc (tree.Number v) xs env mem k z a c = ok_is (pos v) z c
constant_is sc (tree.Name n) xs env mem k z a c = constant_found (find sc n) z (env n) mem (a.each n) c
constant_is sc (tree.Peek t) xs env mem k z a c = absurd (cc c)
constant_is sc tree.Pop xs env mem k z a c = absurd (cc c)
constant_is sc (tree.Neg t) xs env mem k z a c =
    let p = ok_parts (constant sc t) (λ a. Ok (negate a)) z c in
    ap negate (constant_is sc t xs env mem k p.0 a p.1) ∙ ok_is (negate p.0) z p.2
constant_is sc (tree.Not t) xs env mem k z a c =
    let p = ok_parts (constant sc t) (λ a. Ok (truth (int_eq a (pos 0)))) z c in
    ap (λ b. truth (int_eq b (pos 0))) (constant_is sc t xs env mem k p.0 a p.1) ∙ ok_is (truth (int_eq p.0 (pos 0))) z p.2
constant_is sc (tree.Bin o l r) xs env mem k z a c =
    let p = ok_parts (constant sc l) (λ a. on_ok (constant sc r) (λ b. Ok (applied o a b))) z c in
    let q = ok_parts (constant sc r) (λ b. Ok (applied o p.0 b)) z p.2 in
    ap (λ b. applied o b (eval r xs env (k + pops l))) (constant_is sc l xs env mem k p.0 a p.1)
    ∙ ap (applied o p.0) (constant_is sc r xs env mem (k + pops l) q.0 a q.1)
    ∙ ok_is (applied o p.0 q.0) z q.2

named_is : (o : Option KnownName) (u : Term) (w : ℤ) (xs mem : List ℤ) → ((b : KnownName) → o ≡ Some b → Holds b w mem) → named_term o ≡ Ok u → w ≡ val u xs mem
named_is None u w xs mem h c = absurd (cc c)
named_is (Some (Var i)) u w xs mem h c = sym (h (Var i) refl) ∙ ap (λ t. val t xs mem) (ok_is (term.Slot i) u c)
named_is (Some (Turn v)) u w xs mem h c = sym (h (Turn v) refl) ∙ ap (λ t. val t xs mem) (ok_is (term.Const (pos v)) u c)

peeked_is : (e k : ℕ) (i : ℤ) (u : Term) (xs mem : List ℤ) → peeked e k i ≡ Ok u → slice_index_or xs (k + count_of i) (pos 0) ≡ val u xs mem
peeked_is e k (pos i) u xs mem h = ap (λ t. val t xs mem) (if_ok (nat_lt (k + i) e) (term.Input (k + i)) u (PeekRange (pos i) e) h).1
peeked_is e k (negsuc i) u xs mem h = absurd (cc h)

term_is : (e : ℕ) (sc : Scope) (t : Expression) (xs : List ℤ) (env : Store) (mem : List ℤ) (k : ℕ) (u : Term) → Agrees sc env mem → term_of e sc t k ≡ Ok u
    → eval t xs env k ≡ val u xs mem
term_is e sc (tree.Number v) xs env mem k u a c = ap (λ t. val t xs mem) (ok_is (term.Const (pos v)) u c)
term_is e sc (tree.Name n) xs env mem k u a c = named_is (find sc n) u (env n) xs mem (a.each n) c
term_is e sc (tree.Peek t) xs env mem k u a c =
    let p = ok_parts (constant sc t) (peeked e k) u c in
    ap (λ i. slice_index_or xs (k + count_of i) (pos 0)) (constant_is sc t xs env mem k p.0 a p.1) ∙ peeked_is e k p.0 u xs mem p.2
term_is e sc tree.Pop xs env mem k u a c = ap (λ t. val t xs mem) (if_ok (nat_le k 65536) (term.Input k) u Limit c).1
term_is e sc (tree.Neg t) xs env mem k u a c =
    let p = ok_parts (term_of e sc t k) (λ a. Ok (term.Neg a)) u c in
    ap negate (term_is e sc t xs env mem k p.0 a p.1) ∙ ap (λ t. val t xs mem) (ok_is (term.Neg p.0) u p.2)
term_is e sc (tree.Not t) xs env mem k u a c =
    let p = ok_parts (term_of e sc t k) (λ a. Ok (term.Not a)) u c in
    ap (λ b. truth (int_eq b (pos 0))) (term_is e sc t xs env mem k p.0 a p.1) ∙ ap (λ t. val t xs mem) (ok_is (term.Not p.0) u p.2)
term_is e sc (tree.Bin o l r) xs env mem k u a c =
    let p = ok_parts (term_of e sc l k) (λ a. on_ok (term_of e sc r (k + pops l)) (λ b. Ok (term.Bin o a b))) u c in
    let q = ok_parts (term_of e sc r (k + pops l)) (λ b. Ok (term.Bin o p.0 b)) u p.2 in
    ap (λ b. applied o b (eval r xs env (k + pops l))) (term_is e sc l xs env mem k p.0 a p.1)
    ∙ ap (applied o (val p.0 xs mem)) (term_is e sc r xs env mem (k + pops l) q.0 a q.1)
    ∙ ap (λ t. val t xs mem) (ok_is (term.Bin o p.0 q.0) u q.2)

-- READING GOES ON

-- a slot is never given back, what was known is known, and each slot stays one name's
pub record Grows (s s' : At) : Type 0 where
  pub slots : s.slots ≤ s'.slots
  pub keeps : Keeps s.scope s'.scope
  pub sound : IsSound s.scope s.slots → IsSound s'.scope s'.slots

grows_same : (s s' : At) → s.scope ≡ s'.scope → s.slots ≡ s'.slots → Grows s s'
grows_same s s' e f = record {
  slots = omega (arith, f);
  keeps = λ n b g. subst (λ sc. find sc n ≡ Some b) e g;
  sound = λ h. subst (λ sc. IsSound sc s'.slots) e (subst (IsSound s.scope) f h);
}

grows_trans : (s t u : At) → Grows s t → Grows t u → Grows s u
grows_trans s t u g h = record {
  slots = let a = g.slots in let b = h.slots in omega (arith, a, b);
  keeps = λ n b f. h.keeps n b (g.keeps n b f);
  sound = λ z. h.sound (g.sound z);
}

-- what was declared within is not known afterwards
unfoldable pub left : At → At → At
left s t = record t { scope = s.scope }

grows_left : (s t : At) → s.slots ≤ t.slots → Grows s (left s t)
unfolding left
grows_left s t le = record { slots = le; keeps = λ n b f. f; sound = λ h. more_slots s.scope s.slots t.slots le h }

one_more : At → At
one_more s = record s { size = s.size + 1 }

counted_on : {A : Type 0} (s : At) (f : At → Result A Fault) (y : A) → on_ok (counted s) f ≡ fine y → f (one_more s) ≡ Ok y
unfolding one_more
counted_on s f y h =
    let p = ok_parts (counted s) f y h in
    let q = if_ok (nat_lt s.size 16384) (record s { size = s.size + 1 }) p.0 Limit p.1 in
    ap f q.1 ∙ p.2

-- a statement is read where there is room for it
counted_room : {A : Type 0} (s : At) (f : At → Result A Fault) (y : A) → on_ok (counted s) f ≡ fine y → s.size < 16384
counted_room s f y h =
    let p = ok_parts (counted s) f y h in
    below (if_ok (nat_lt s.size 16384) (record s { size = s.size + 1 }) p.0 Limit p.1).0
  where
    below : nat_lt s.size 16384 ≡ true → s.size < 16384
    below e = grind (arith, e)

-- a name that is new is not known
pub new_is : (o : Option KnownName) (u : Unit {0}) → is_new o ≡ Ok u → o ≡ None
new_is None u h = refl
new_is (Some b) u h = absurd (cc h)

slot_found : (o : Option KnownName) (i : ℕ) → slot_of o ≡ Ok i → o ≡ Some (Var i)
slot_found None i h = absurd (cc h)
slot_found (Some (Var j)) i h = ap (λ k. Some (Var k)) (ok_is j i h)
slot_found (Some (Turn v)) i h = absurd (cc h)

bound_is : (z : ℤ) (n : ℕ) → bound_of z ≡ Ok n → count_of z ≡ n
bound_is (pos m) n h = (if_ok (nat_le m 65536) m n Limit h).1
bound_is (negsuc m) n h = absurd (cc h)

-- reading only adds to what is known
abbrev pub Grown : (At → Read) → Type 0
Grown f = (s : At) (y : Steps × At) → f s ≡ Ok y → Grows s y.1

-- a turn begins
unfoldable pub turning : Name → ℕ → At → At
turning n v s = record s { scope = (n, Turn v) ∷ s.scope; size = s.size + 1 }

-- a turn begins
pub grows_turn : (n : Name) (v : ℕ) (s : At) → find s.scope n ≡ None → Grows s (turning n v s)
unfolding turning
grows_turn n v s new = record { slots = omega arith; keeps = keeps_new n (Turn v) s.scope new; sound = λ h. sound_turn n v s.scope s.slots h }

-- the parts of a loop that goes on
pub record Turned (block : At → Read) (n : Name) (v : ℕ) (vs : List ℕ) (s : At) (y : Steps × At) : Type 0 where
  pub room : s.size < 16384
  pub first : Steps × At
  pub others : Steps × At
  pub first_is : block (turning n v s) ≡ Ok first
  pub others_is : unrolled block n vs (left s first.1) ≡ Ok others
  pub is : y ≡ (both_steps first.0 others.0, others.1)

-- the parts of a turn that was read
pub turned : (block : At → Read) (n : Name) (v : ℕ) (vs : List ℕ) (s : At) (y : Steps × At) → unrolled block n (v ∷ vs) s ≡ Ok y → Turned block n v vs s y
unfolding left one_more turning
turned block n v vs s y h =
    let c = counted_on s
    (λ t. on_ok (block (record t { scope = (n, Turn v) ∷ s.scope }))
    (λ a. on_ok (unrolled block n vs (record a.1 { scope = s.scope })) (λ b. Ok (both_steps a.0 b.0, b.1)))) y h in
    let p = ok_parts (block (record (one_more s) { scope = (n, Turn v) ∷ s.scope }))
    (λ a. on_ok (unrolled block n vs (record a.1 { scope = s.scope })) (λ b. Ok (both_steps a.0 b.0, b.1))) y c in
    let q = ok_parts (unrolled block n vs (record p.0.1 { scope = s.scope })) (λ b. Ok (both_steps p.0.0 b.0, b.1)) y p.2 in
    record {
      room = counted_room s
          (λ t. on_ok (block (record t { scope = (n, Turn v) ∷ s.scope }))
          (λ a. on_ok (unrolled block n vs (record a.1 { scope = s.scope })) (λ b. Ok (both_steps a.0 b.0, b.1)))) y h;
      first = p.0;
      others = q.0;
      first_is =
          p.1;
      others_is = q.1;
      is = sym (ok_is (both_steps p.0.0 q.0.0, q.0.1) y q.2);
    }

-- turns were read
pub unrolled_grows : (block : At → Read) → Grown block → (n : Name) (vs : List ℕ) (s : At) (y : Steps × At) → find s.scope n ≡ None
    → unrolled block n vs s ≡ Ok y → Grows s y.1
unfolding left
unrolled_grows block g n [] s y new h = grows_same s y.1 (ap (λ r. r.1.scope) (ok_is (Done, s) y h)) (ap (λ r. r.1.slots) (ok_is (Done, s) y h))
unrolled_grows block g n (v ∷ vs) s y new h =
    let t = turned block n v vs s y h in
    let a = grows_trans s (turning n v s) t.first.1 (grows_turn n v s new) (g (turning n v s) t.first t.first_is) in
    let b = grows_left s t.first.1 a.slots in
    let c = unrolled_grows block g n vs (left s t.first.1) t.others new t.others_is in
    subst (λ r. Grows s r.1) (sym t.is) (grows_trans s (left s t.first.1) t.others.1 b c)

-- THE PARTS OF A STATEMENT THAT WAS READ

pub record Declared (e : ℕ) (n : Name) (t : Option Expression) (s : At) (y : Steps × At) : Type 0 where
  pub few : nat_lt s.slots 256 ≡ true
  pub room : s.size < 16384
  pub value : Term
  pub new : find s.scope n ≡ None
  pub value_is : first_term e t s ≡ Ok value
  pub is : y ≡ (
    one_step (steps.Set s.slots value),
    record s { scope = (n, Var s.slots) ∷ s.scope; slots = s.slots + 1; popped = s.popped + first_popped t; size = s.size + 1 },
  )

first_more : (e : ℕ) (t : Option Expression) (s : At) → first_term e t (one_more s) ≡ first_term e t s
unfolding one_more
first_more e None s = refl
first_more e (Some t) s = refl

-- of a declaration
pub declared_parts : (e : ℕ) (n : Name) (t : Option Expression) (s : At) (y : Steps × At) → step_of e (Declare n t) s ≡ Ok y → Declared e n t s y
unfolding one_more
declared_parts e n t s y h =
    let last = λ (s : At) (v : Term). fine (declared n t s v) in
    let f = λ (s : At). on_ok (is_new (find s.scope n)) (λ u. on_ok (has_slot s) (λ w. on_ok (first_term e t s) (last s))) in
    let o = one_more s in
    let c = counted_on s f y h in
    let p = ok_parts (is_new (find s.scope n)) (λ u. on_ok (has_slot o) (λ w. on_ok (first_term e t o) (last o))) y c in
    let q = ok_parts (has_slot o) (λ w. on_ok (first_term e t o) (last o)) y p.2 in
    let r = ok_parts (first_term e t o) (last o) y q.2 in
    record {
      room = counted_room s f y h;
      value = r.0;
      new = new_is (find s.scope n) p.0 p.1;
      value_is = sym (first_more e t s) ∙ r.1;
      few = demanded (nat_lt s.slots 256) Limit q.0 q.1;
      is = sym (ok_is (declared n t o r.0) y r.2);
    }

pub record Assigned (e : ℕ) (n : Name) (t : Expression) (s : At) (y : Steps × At) : Type 0 where
  pub room : s.size < 16384
  pub slot : ℕ
  pub value : Term
  pub found : find s.scope n ≡ Some (Var slot)
  pub value_is : term_of e s.scope t s.popped ≡ Ok value
  pub is : y ≡ (one_step (steps.Set slot value), record s { popped = s.popped + pops t; size = s.size + 1 })

-- of an assignment
pub assigned_parts : (e : ℕ) (n : Name) (t : Expression) (s : At) (y : Steps × At) → step_of e (Assign n t) s ≡ Ok y → Assigned e n t s y
unfolding one_more
assigned_parts e n t s y h =
    let c = counted_on s
    (λ s. on_ok (slot_of (find s.scope n))
    (λ i. on_ok (term_of e s.scope t s.popped) (λ v. Ok (one_step (steps.Set i v), record s { popped = s.popped + pops t })))) y h in
    let p = ok_parts (slot_of (find s.scope n))
    (λ i. on_ok (term_of e s.scope t s.popped) (λ v. Ok (one_step (steps.Set i v), record (one_more s) { popped = s.popped + pops t }))) y c in
    let q = ok_parts (term_of e s.scope t s.popped) (λ v. Ok (one_step (steps.Set p.0 v), record (one_more s) { popped = s.popped + pops t })) y p.2 in
    record {
      room = counted_room s
          (λ s. on_ok (slot_of (find s.scope n))
          (λ i. on_ok (term_of e s.scope t s.popped) (λ v. Ok (one_step (steps.Set i v), record s { popped = s.popped + pops t })))) y h;
      slot = p.0;
      value =
          q.0;
      found = slot_found (find s.scope n) p.0 p.1;
      value_is = q.1;
      is =
          sym (ok_is (one_step (steps.Set p.0 q.0), record s { popped = s.popped + pops t; size = s.size + 1 }) y q.2);
    }

pub record Pushed (e : ℕ) (t : Expression) (s : At) (y : Steps × At) : Type 0 where
  pub room : s.size < 16384
  pub value : Term
  pub value_is : term_of e s.scope t s.popped ≡ Ok value
  pub is : y ≡ (one_step (steps.Push 0 (value ∷ [])), record s { popped = s.popped + pops t; pushed = s.pushed + 1; size = s.size + 1 })

-- of a push
pub pushed_parts : (e : ℕ) (t : Expression) (s : At) (y : Steps × At) → step_of e (Push t) s ≡ Ok y → Pushed e t s y
unfolding one_more
pushed_parts e t s y h =
    let c = counted_on s
    (λ s. on_ok (term_of e s.scope t s.popped)
    (λ v. Ok (one_step (steps.Push 0 (v ∷ [])), record s { popped = s.popped + pops t; pushed = s.pushed + 1 }))) y h in
    let q = ok_parts (term_of e s.scope t s.popped)
    (λ v. Ok (one_step (steps.Push 0 (v ∷ [])), record (one_more s) { popped = s.popped + pops t; pushed = s.pushed + 1 })) y c in
    record {
      room = counted_room s
          (λ s. on_ok (term_of e s.scope t s.popped)
          (λ v. Ok (one_step (steps.Push 0 (v ∷ [])), record s { popped = s.popped + pops t; pushed = s.pushed + 1 }))) y h;
      value = q.0;
      value_is = q.1;
      is =
          sym (ok_is (one_step (steps.Push 0 (q.0 ∷ [])), record s { popped = s.popped + pops t; pushed = s.pushed + 1; size = s.size + 1 }) y q.2);
    }

-- before the arms
unfoldable pub at_arm : Expression → At → At
at_arm t s = record s { popped = s.popped + pops t; size = s.size + 1 }

-- before the second arm
unfoldable pub at_second : Expression → At → At → At
at_second t s p = record s { popped = s.popped + pops t; slots = p.slots; size = p.size }

pub record Forked (e : ℕ) (t : Expression) (a : Block) (b : Optional) (s : At) (y : Steps × At) : Type 0 where
  pub room : s.size < 16384
  pub test : Term
  pub one : Steps × At
  pub two : Steps × At
  pub test_is : term_of e s.scope t s.popped ≡ Ok test
  pub one_is : steps_of e a (at_arm t s) ≡ Ok one
  pub two_is : optional_of e b (at_second t s one.1) ≡ Ok two
  pub popped : one.1.popped ≡ two.1.popped
  pub pushed : one.1.pushed ≡ two.1.pushed
  pub is : y ≡ (one_step (steps.If test one.0 two.0), left s two.1)

-- of an `if`
pub forked_parts : (e : ℕ) (t : Expression) (a : Block) (b : Optional) (s : At) (y : Steps × At) → step_of e (If t a b) s ≡ Ok y → Forked e t a b s y
unfolding one_more left at_arm at_second
forked_parts e t a b s y h =
    let after = λ (s : At) (c : Term). on_ok (steps_of e a (record s { popped = s.popped + pops t }))
    (λ p. on_ok (optional_of e b (record s { popped = s.popped + pops t; slots = p.1.slots; size = p.1.size })) (after_arms s c p)) in
    let c = counted_on s (λ s. on_ok (term_of e s.scope t s.popped) (after s)) y h in
    let q = ok_parts (term_of e s.scope t s.popped) (after (one_more s)) y c in
    let p = ok_parts (steps_of e a (at_arm t s)) (λ p. on_ok (optional_of e b (at_second t s p.1)) (after_arms (one_more s) q.0 p)) y q.2 in
    let r = ok_parts (optional_of e b (at_second t s p.0.1)) (after_arms (one_more s) q.0 p.0) y p.2 in
    let i = if_ok (nat_eq p.0.1.popped r.0.1.popped && nat_eq p.0.1.pushed r.0.1.pushed)
    (one_step (steps.If q.0 p.0.0 r.0.0), left s r.0.1) y BranchRates r.2 in
    let z = and_parts (nat_eq p.0.1.popped r.0.1.popped) (nat_eq p.0.1.pushed r.0.1.pushed) i.0 in
    record {
      room = counted_room s (λ s. on_ok (term_of e s.scope t s.popped) (after s)) y h;
      test = q.0;
      one = p.0;
      two = r.0;
      test_is = q.1;
      one_is =
          p.1;
      two_is = r.1;
      popped = eqb-true p.0.1.popped r.0.1.popped z.0;
      pushed = eqb-true p.0.1.pushed r.0.1.pushed z.1;
      is = sym i.1;
    }

pub record Looped (e : ℕ) (n : Name) (low : Expression) (upto : Bool) (high : Expression) (b : Block) (s : At) (y : Steps × At) : Type 0 where
  pub first : ℤ
  pub last : ℤ
  pub new : find s.scope n ≡ None
  pub first_is : constant s.scope low ≡ Ok first
  pub last_is : constant s.scope high ≡ Ok last
  pub is : unrolled (steps_of e b) n (turns_between first upto last) s ≡ Ok y

-- of a loop
pub looped_parts : (e : ℕ) (n : Name) (low : Expression) (upto : Bool) (high : Expression) (b : Block) (s : At) (y : Steps × At)
    → step_of e (For n low upto high b) s ≡ Ok y → Looped e n low upto high b s y
looped_parts e n low upto high b s y h =
    let f4 = λ (l m : ℕ). unrolled (steps_of e b) n (numbers_from l (m + (if upto then 1 else 0) - l)) s in
    let f3 = λ (l : ℕ) (z : ℤ). on_ok (bound_of z) (f4 l) in
    let f2 = λ (l : ℕ). on_ok (constant s.scope high) (f3 l) in
    let f1 = λ (x : ℤ). on_ok (bound_of x) f2 in
    let a = ok_parts (is_new (find s.scope n)) (λ u. on_ok (constant s.scope low) f1) y h in
    let c = ok_parts (constant s.scope low) f1 y a.2 in
    let d = ok_parts (bound_of c.0) f2 y c.2 in
    let g = ok_parts (constant s.scope high) (f3 d.0) y d.2 in
    let i = ok_parts (bound_of g.0) (f4 d.0) y g.2 in
    record {
      first = c.0;
      last = g.0;
      new = new_is (find s.scope n) a.0 a.1;
      first_is = c.1;
      last_is = g.1;
      is = ap (λ l. f4 l (count_of g.0)) (bound_is c.0 d.0 d.1) ∙ ap (f4 d.0) (bound_is g.0 i.0 i.1) ∙ i.2;
    }

pub record Followed (e : ℕ) (c : Statement) (b : Block) (s : At) (y : Steps × At) : Type 0 where
  pub first : Steps × At
  pub others : Steps × At
  pub first_is : step_of e c s ≡ Ok first
  pub others_is : steps_of e b first.1 ≡ Ok others
  pub is : y ≡ (both_steps first.0 others.0, others.1)

-- of a block
pub followed_parts : (e : ℕ) (c : Statement) (b : Block) (s : At) (y : Steps × At) → steps_of e (Then c b) s ≡ Ok y → Followed e c b s y
followed_parts e c b s y h =
    let p = ok_parts (step_of e c s) (λ p. on_ok (steps_of e b p.1) (λ q. Ok (both_steps p.0 q.0, q.1))) y h in
    let q = ok_parts (steps_of e b p.0.1) (λ q. Ok (both_steps p.0.0 q.0, q.1)) y p.2 in
    record { first = p.0; others = q.0; first_is = p.1; others_is = q.1; is = sym (ok_is (both_steps p.0.0 q.0.0, q.0.1) y q.2) }

-- STATEMENTS GROW

mutual
  unfolding left at_arm at_second

  -- reading a statement leaves what was known
  pub step_grows : (e : ℕ) (c : Statement) → Grown (step_of e c)
  step_grows e (Declare n t) s y h =
      let p = declared_parts e n t s y h in
      subst (λ r. Grows s r.1) (sym p.is)
      (record { slots = omega arith; keeps = keeps_new n (Var s.slots) s.scope p.new; sound = λ z. sound_var n s.scope s.slots z })
  step_grows e (Assign n t) s y h =
      let p = assigned_parts e n t s y h in
      subst (λ r. Grows s r.1) (sym p.is) (grows_same s (record s { popped = s.popped + pops t; size = s.size + 1 }) refl refl)
  step_grows e (Push t) s y h =
      let p = pushed_parts e t s y h in
      subst (λ r. Grows s r.1) (sym p.is) (grows_same s (record s { popped = s.popped + pops t; pushed = s.pushed + 1; size = s.size + 1 }) refl refl)
  step_grows e Discard s y h =
      subst (λ r. Grows s r.1) (ok_is (Done, record s { popped = s.popped + 1 }) y h) (grows_same s (record s { popped = s.popped + 1 }) refl refl)
  step_grows e (If t a b) s y h =
      let p = forked_parts e t a b s y h in
      let g = (steps_grow e a (at_arm t s) p.one p.one_is).slots in
      let k = (optional_grows e b (at_second t s p.one.1) p.two p.two_is).slots in
      subst (λ r. Grows s r.1) (sym p.is) (grows_left s p.two.1 (omega (arith, g, k)))
  step_grows e (For n low upto high b) s y h =
      let p = looped_parts e n low upto high b s y h in
      unrolled_grows (steps_of e b) (steps_grow e b) n (turns_between p.first upto p.last) s y p.new p.is

  -- and so does reading a block
  pub steps_grow : (e : ℕ) (b : Block) → Grown (steps_of e b)
  steps_grow e End s y h = subst (λ r. Grows s r.1) (ok_is (Done, s) y h) (grows_same s s refl refl)
  steps_grow e (Then c b) s y h =
      let p = followed_parts e c b s y h in
      subst (λ r. Grows s r.1) (sym p.is)
      (grows_trans s p.first.1 p.others.1 (step_grows e c s p.first p.first_is) (steps_grow e b p.first.1 p.others p.others_is))

  -- and one that may be left out
  pub optional_grows : (e : ℕ) (b : Optional) → Grown (optional_of e b)
  optional_grows e Unwritten s y h = subst (λ r. Grows s r.1) (ok_is (Done, s) y h) (grows_same s s refl refl)
  optional_grows e (Written b) s y h = steps_grow e b s y h

-- WHAT IS DONE

-- from n to n' the block does what the run does, and the reading ended at s'
pub record DoesBy (r : Ran) (s' : At) (n n' : State) : Type 0 where
  pub pushed : n'.pushed ≡ n.pushed ++ first_values r.pushes
  pub popped : n'.popped ≡ s'.popped
  pub agrees : Agrees s'.scope n'.values r.slots

-- what is done by code, wherever the reading began
abbrev pub Met : List ℤ → (At → Read) → (State → State) → Type 0
Met xs f g =
    (s : At) (y : Steps × At) (mem : List ℤ) (n : State) → f s ≡ Ok y → IsSound s.scope s.slots → Agrees s.scope n.values mem → n.popped ≡ s.popped
    → y.1.slots ≤ length mem → DoesBy (ran y.0 xs mem) y.1 n (g n)

values-append : (ps qs : List (ℕ × List ℤ)) → first_values (ps ++ qs) ≡ first_values ps ++ first_values qs
values-append ps qs = map-append (λ e. slice_index_or e.1 0 (pos 0)) ps qs

-- one after another
after_both : Ran → Ran → Ran
after_both r q = record { pushes = r.pushes ++ q.pushes; slots = q.slots }

ran_joined : (a b : Steps) (xs mem : List ℤ) → ran (both_steps a b) xs mem ≡ after_both (ran a xs mem) (ran b xs (ran a xs mem).slots)
unfolding after_both
ran_joined Done b xs mem = refl
ran_joined (steps.Then c a) b xs mem =
    let one = ran_once c xs mem in
    let rest = ran a xs one.slots in
    ap (λ r. after_both one r) (ran_joined a b xs one.slots)
    ∙ ap (λ l. record { pushes = l; slots = (ran b xs rest.slots).slots }) (sym (append_assoc one.pushes rest.pushes (ran b xs rest.slots).pushes))

does_both : (a b : Steps) (xs mem : List ℤ) (s t : At) (n m o : State) → DoesBy (ran a xs mem) s n m → DoesBy (ran b xs (ran a xs mem).slots) t m o
    → DoesBy (ran (both_steps a b) xs mem) t n o
unfolding after_both
does_both a b xs mem s t n m o f g =
    let p = (ran a xs mem).pushes in
    let q = (ran b xs (ran a xs mem).slots).pushes in
    subst (λ r. DoesBy r t n o) (sym (ran_joined a b xs mem)) (record {
      pushed =
          g.pushed ∙ ap (λ l. l ++ first_values q) f.pushed ∙ append_assoc n.pushed (first_values p) (first_values q)
          ∙ ap (λ l. n.pushed ++ l) (sym (values-append p q));
      popped = g.popped;
      agrees = g.agrees;
    })

does_one : (c : Step) (xs mem : List ℤ) (s : At) (n m : State) → DoesBy (ran_once c xs mem) s n m → DoesBy (ran (one_step c) xs mem) s n m
does_one c xs mem s n m d =
    record { pushed = d.pushed ∙ ap (λ l. n.pushed ++ first_values l) (sym (append-nil (ran_once c xs mem).pushes)); popped = d.popped; agrees = d.agrees }

does_left : (r : Ran) (s t : At) (n m : State) → Keeps s.scope t.scope → DoesBy r t n m → DoesBy r (left s t) n m
unfolding left
does_left r s t n m k d = record { pushed = d.pushed; popped = d.popped; agrees = agrees_within s.scope t.scope m.values r.slots k d.agrees }

-- whichever arm is taken
does_arm : (b : Bool) (r q : Ran) (s : At) (n m o : State) → DoesBy r s n m → DoesBy q s n o → DoesBy (if b then r else q) s n (if b then m else o)
does_arm true r q s n m o f g = f
does_arm false r q s n m o f g = g

turn_now : Name → ℕ → State → State
turn_now n v t = record t { values = at_name n (pos v) t.values }

unrolled_met : (xs : List ℤ) (block : At → Read) (src : State → State) → Grown block → Met xs block src
    → (n : Name) (vs : List ℕ) (s : At) (y : Steps × At) (mem : List ℤ) (t : State)
    → find s.scope n ≡ None → unrolled block n vs s ≡ Ok y → IsSound s.scope s.slots → Agrees s.scope t.values mem → t.popped ≡ s.popped
    → y.1.slots ≤ length mem → DoesBy (ran y.0 xs mem) y.1 t (each_turn src n vs t)
unfolding left turning turn_now
unrolled_met xs block src g d n [] s y mem t new h ok a e le =
    subst (λ r. DoesBy (ran r.0 xs mem) r.1 t t) (ok_is (Done, s) y h) (record { pushed = sym (append-nil t.pushed); popped = e; agrees = a })
unrolled_met xs block src g d n (v ∷ vs) s y mem t new h ok a e le =
    let p = turned block n v vs s y h in
    let first = p.first in
    let now = turn_now n v t in
    let gt = grows_turn n v s new in
    let gf = g (turning n v s) first p.first_is in
    let go = unrolled_grows block g n vs (left s first.1) p.others new p.others_is in
    let lo = go.slots in
    let l0 = gt.slots in
    let l1 = gf.slots in
    let le' : p.others.1.slots ≤ length mem = subst (λ (r : Steps × At). r.1.slots ≤ length mem) p.is le in
    let one = d (turning n v s) first mem now p.first_is (gt.sound ok) (agrees_turn n v s.scope t.values mem a) e (omega (arith, le', lo)) in
    let out = does_left (ran first.0 xs mem) s first.1 t (src now) (λ m b f. gf.keeps m b (gt.keeps m b f))
    (record { pushed = one.pushed; popped = one.popped; agrees = one.agrees }) in
    let len = ran_length first.0 xs mem in
    let rest = unrolled_met xs block src g d n vs (left s first.1) p.others (ran first.0 xs mem).slots (src now) new p.others_is
    (more_slots s.scope s.slots first.1.slots (omega (arith, l0, l1)) ok) out.agrees out.popped (omega (arith, le', len)) in
    subst (λ (r : Steps × At). DoesBy (ran r.0 xs mem) r.1 t (each_turn src n (v ∷ vs) t)) (sym p.is)
    (does_both first.0 p.others.0 xs mem (left s first.1) p.others.1 t (src now) (each_turn src n (v ∷ vs) t) out rest)

first_value_is : (e : ℕ) (t : Option Expression) (s : At) (v : Term) (xs mem : List ℤ) (n : State) → Agrees s.scope n.values mem → n.popped ≡ s.popped
    → first_term e t s ≡ Ok v → first_value t xs n ≡ val v xs mem
first_value_is e None s v xs mem n a p h = ap (λ u. val u xs mem) (ok_is (term.Const (pos 0)) v h)
first_value_is e (Some t) s v xs mem n a p h = ap (eval t xs n.values) p ∙ term_is e s.scope t xs n.values mem s.popped v a h

first_pops_is : (t : Option Expression) → first_pops t ≡ first_popped t
first_pops_is None = refl
first_pops_is (Some t) = refl

-- a variable is declared
declare_met : (e : ℕ) (xs : List ℤ) (n : Name) (t : Option Expression) → Met xs (step_of e (Declare n t)) (exec (Declare n t) xs)
declare_met e xs n t s y mem now h ok a q le =
    let p = declared_parts e n t s y h in
    let v = val p.value xs mem in
    let same = first_value_is e t s p.value xs mem now a q p.value_is in
    let sc = (n, Var s.slots) ∷ s.scope in
    let le' : s.slots + 1 ≤ length mem = subst (λ (r : Steps × At). r.1.slots ≤ length mem) p.is le in
    let holds = agrees_set n s.slots v sc (s.slots + 1) now.values mem (sound_var n s.scope s.slots ok) le'
    (found_here n n (Var s.slots) s.scope (name_self n)) (λ m b ne f. a.each m b (sym (found_other n m (Var s.slots) s.scope ne) ∙ f)) in
    subst (λ (r : Steps × At). DoesBy (ran r.0 xs mem) r.1 now (exec (Declare n t) xs now)) (sym p.is)
    (does_one (steps.Set s.slots p.value) xs mem _ now (exec (Declare n t) xs now) (record {
      pushed = sym (append-nil now.pushed);
      popped = ap (λ k. k + first_pops t) q ∙ ap (λ k. s.popped + k) (first_pops_is t);
      agrees = subst (λ z. Agrees sc (at_name n z now.values) (slice_set mem s.slots v)) (sym same) holds;
    }))

-- a variable is given a value
assign_met : (e : ℕ) (xs : List ℤ) (n : Name) (t : Expression) → Met xs (step_of e (Assign n t)) (exec (Assign n t) xs)
assign_met e xs n t s y mem now h ok a q le =
    let p = assigned_parts e n t s y h in
    let v = val p.value xs mem in
    let same = ap (eval t xs now.values) q ∙ term_is e s.scope t xs now.values mem s.popped p.value a p.value_is in
    let le' : s.slots ≤ length mem = subst (λ (r : Steps × At). r.1.slots ≤ length mem) p.is le in
    let holds = agrees_set n p.slot v s.scope s.slots now.values mem ok le' p.found (λ m b ne f. a.each m b f) in
    subst (λ (r : Steps × At). DoesBy (ran r.0 xs mem) r.1 now (exec (Assign n t) xs now)) (sym p.is)
    (does_one (steps.Set p.slot p.value) xs mem _ now (exec (Assign n t) xs now) (record {
      pushed = sym (append-nil now.pushed);
      popped = ap (λ k. k + pops t) q;
      agrees = subst (λ z. Agrees s.scope (at_name n z now.values) (slice_set mem p.slot v)) (sym same) holds;
    }))

-- an item is pushed
push_met : (e : ℕ) (xs : List ℤ) (t : Expression) → Met xs (step_of e (Push t)) (exec (Push t) xs)
push_met e xs t s y mem now h ok a q le =
    let p = pushed_parts e t s y h in
    let same = ap (eval t xs now.values) q ∙ term_is e s.scope t xs now.values mem s.popped p.value a p.value_is in
    subst (λ (r : Steps × At). DoesBy (ran r.0 xs mem) r.1 now (exec (Push t) xs now)) (sym p.is)
    (does_one (steps.Push 0 (p.value ∷ [])) xs mem _ now (exec (Push t) xs now) (record {
      pushed = ap (λ z. now.pushed ++ z ∷ []) same;
      popped = ap (λ k. k + pops t) q;
      agrees = a;
    }))

-- an item is popped
discard_met : (e : ℕ) (xs : List ℤ) → Met xs (step_of e Discard) (exec Discard xs)
discard_met e xs s y mem now h ok a q le =
    subst (λ (r : Steps × At). DoesBy (ran r.0 xs mem) r.1 now (exec Discard xs now)) (ok_is (Done, record s { popped = s.popped + 1 }) y h)
    (record { pushed = sym (append-nil now.pushed); popped = ap (λ k. k + 1) q; agrees = a })

-- `if`, where its branches do what they are to do
if_met : (e : ℕ) (xs : List ℤ) (t : Expression) (a : Block) (b : Optional) → Met xs (steps_of e a) (exec_all a xs) → Met xs (optional_of e b) (exec_optional b xs)
    → Met xs (step_of e (If t a b)) (exec (If t a b) xs)
unfolding left at_arm at_second
if_met e xs t a b first second s y mem now h ok ag q le =
    let p = forked_parts e t a b s y h in
    let ga = steps_grow e a (at_arm t s) p.one p.one_is in
    let gb = optional_grows e b (at_second t s p.one.1) p.two p.two_is in
    let la = ga.slots in
    let lb = gb.slots in
    let le' : p.two.1.slots ≤ length mem = subst (λ (r : Steps × At). r.1.slots ≤ length mem) p.is le in
    let on = record now { popped = now.popped + pops t } in
    let q' = ap (λ k. k + pops t) q in
    let da = first (at_arm t s) p.one mem on p.one_is ok ag q' (omega (arith, le', lb)) in
    let db = second (at_second t s p.one.1) p.two mem on p.two_is (more_slots s.scope s.slots p.one.1.slots la ok) ag q' le' in
    let out = left s p.two.1 in
    let kept_one = agrees_within s.scope p.one.1.scope (exec_all a xs on).values (ran p.one.0 xs mem).slots ga.keeps da.agrees in
    let kept_two = agrees_within s.scope p.two.1.scope (exec_optional b xs on).values (ran p.two.0 xs mem).slots gb.keeps db.agrees in
    let one : DoesBy (ran p.one.0 xs mem) out now (exec_all a xs on) =
    record { pushed = da.pushed; popped = da.popped ∙ p.popped; agrees = kept_one } in
    let two : DoesBy (ran p.two.0 xs mem) out now (exec_optional b xs on) =
    record { pushed = db.pushed; popped = db.popped; agrees = kept_two } in
    let same = ap (eval t xs now.values) q ∙ term_is e s.scope t xs now.values mem s.popped p.test ag p.test_is in
    subst (λ (r : Steps × At). DoesBy (ran r.0 xs mem) r.1 now (exec (If t a b) xs now)) (sym p.is)
    (does_one (steps.If p.test p.one.0 p.two.0) xs mem out now (exec (If t a b) xs now)
    (subst (λ z. DoesBy (ran_once (steps.If p.test p.one.0 p.two.0) xs mem) out now (if is_true z then exec_all a xs on else exec_optional b xs on))
    (sym same)
    (does_arm (is_true (val p.test xs mem)) (ran p.one.0 xs mem) (ran p.two.0 xs mem) out now (exec_all a xs on) (exec_optional b xs on) one two)))

-- `for`, where its block does what it is to do
for_met : (e : ℕ) (xs : List ℤ) (n : Name) (low : Expression) (upto : Bool) (high : Expression) (b : Block) → Met xs (steps_of e b) (exec_all b xs)
    → Met xs (step_of e (For n low upto high b)) (exec (For n low upto high b) xs)
for_met e xs n low upto high b body s y mem now h ok a q le =
    let p = looped_parts e n low upto high b s y h in
    let l = constant_is s.scope low xs now.values mem now.popped p.first a p.first_is in
    let u = constant_is s.scope high xs now.values mem now.popped p.last a p.last_is in
    subst (λ vs. DoesBy (ran y.0 xs mem) y.1 now (each_turn (exec_all b xs) n vs now))
    (ap (λ z. turns_between z upto p.last) (sym l) ∙ ap (turns_between (eval low xs now.values now.popped) upto) (sym u))
    (unrolled_met xs (steps_of e b) (exec_all b xs) (steps_grow e b) body n
    (turns_between p.first upto p.last) s y mem now p.new p.is ok a q le)

mutual
  unfolding left at_arm at_second

  -- the statements that a statement becomes do what it does
  pub step_met : (e : ℕ) (xs : List ℤ) (c : Statement) → Met xs (step_of e c) (exec c xs)
  step_met e xs (Declare n t) = declare_met e xs n t
  step_met e xs (Assign n t) = assign_met e xs n t
  step_met e xs (Push t) = push_met e xs t
  step_met e xs Discard = discard_met e xs
  step_met e xs (If t a b) = if_met e xs t a b (steps_met e xs a) (optional_met e xs b)
  step_met e xs (For n low upto high b) = for_met e xs n low upto high b (steps_met e xs b)

  -- the statements that a block becomes do what the block does
  pub steps_met : (e : ℕ) (xs : List ℤ) (b : Block) → Met xs (steps_of e b) (exec_all b xs)
  steps_met e xs End s y mem now h ok a q le =
      subst (λ (r : Steps × At). DoesBy (ran r.0 xs mem) r.1 now now) (ok_is (Done, s) y h)
      (record { pushed = sym (append-nil now.pushed); popped = q; agrees = a })
  steps_met e xs (Then c b) s y mem now h ok a q le =
      let p = followed_parts e c b s y h in
      let gf = step_grows e c s p.first p.first_is in
      let go = steps_grow e b p.first.1 p.others p.others_is in
      let lo = go.slots in
      let le' : p.others.1.slots ≤ length mem = subst (λ (r : Steps × At). r.1.slots ≤ length mem) p.is le in
      let one = step_met e xs c s p.first mem now p.first_is ok a q (omega (arith, le', lo)) in
      let len = ran_length p.first.0 xs mem in
      let rest = steps_met e xs b p.first.1 p.others (ran p.first.0 xs mem).slots (exec c xs now) p.others_is (gf.sound ok) one.agrees one.popped
      (omega (arith, le', len)) in
      subst (λ (r : Steps × At). DoesBy (ran r.0 xs mem) r.1 now (exec_all b xs (exec c xs now))) (sym p.is)
      (does_both p.first.0 p.others.0 xs mem p.first.1 p.others.1 now (exec c xs now) (exec_all b xs (exec c xs now)) one rest)

  pub optional_met : (e : ℕ) (xs : List ℤ) (b : Optional) → Met xs (optional_of e b) (exec_optional b xs)
  optional_met e xs Unwritten s y mem now h ok a q le =
      subst (λ (r : Steps × At). DoesBy (ran r.0 xs mem) r.1 now now) (ok_is (Done, s) y h)
      (record { pushed = sym (append-nil now.pushed); popped = q; agrees = a })
  optional_met e xs (Written b) s y mem now h ok a q le = steps_met e xs b s y mem now h ok a q le
