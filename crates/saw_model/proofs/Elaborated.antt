-- The body of a program's plan does what the program does as it is written.
use Rattle.std.proofs.Common.{◌≡◌, ℕ, zero, suc, ℤ, pos, ◌+◌, ◌<◌, ◌≤◌, Bool, true, false, List, [], ◌∷◌, ◌++◌, length, take, map, Option, Some, None, Result}
use Rattle.std.proofs.Common.{Ok, Err, refl, sym, ap, ◌∙◌, subst, arith, append_assoc, nat_lt, nat_le, ⊎_elim}
use Rattle.std.specs.Prelude.{if◌then◌else◌, slice_get, slice_index_or, slice_set}
use Rattle.std.specs.Ordering.{int_eq}
use Rattle.std.proofs.lemmas.List.{append-nil, get_or-set_same, get_or-set_other}
use Rattle.brooklet_model.proofs.Lists.{at_here, at_other}
use Rattle.river_base.proofs.Options.{none_some}
use Rattle.river_base.specs.Name.{name_eq}
use Rattle.river_base.specs.Number.{negate}
use Rattle.work_code.specs.Term.{Term}
use Rattle.work_code.specs.Term as term
use Rattle.work_code.specs.Steps.{Step, Steps, Done, both_steps, one_step}
use Rattle.work_code.specs.Steps as steps
use Rattle.work_code.specs.Ran.{Ran, ran, ran_once}
use Rattle.work_code.specs.Value.{val, applied, truth}
use Rattle.kern_tables.specs.declared.kind.TableKind.{TableKind}
use Rattle.kern_tables.specs.declared.kind.TableKind.TheVariants.{Sum, Collection, Maximum}
use Rattle.river_plan.specs.Forms.{Name}
use Rattle.river_plan.specs.declared.plan.TableDecl.{TableDecl}
use Rattle.river_plan.proofs.NameLemmas.{cases_name}
use Rattle.brooklet_model.specs.Machine.{at_name}
use Rattle.saw_text.specs.Tree.{Expression}
use Rattle.saw_text.specs.Tree as tree
use Rattle.saw_model.specs.Meaning.{Store, eval, Emitted, State, eval_or, eval_all, listed, reach, reach_all}
use Rattle.saw_model.specs.declared.fault.Fault.{Fault}
use Rattle.saw_model.specs.declared.fault.Fault.TheVariants.{Limit}
use Rattle.saw_model.specs.Elaborate.{on_ok, demand, KnownName, Var, Port, Scope, find, named, term_of, At, counted, first_term, indexes_of}
use Rattle.saw_model.specs.Elaborate.{weight_of}

-- ANSWERS

-- a result without a fault
abbrev pub fine : {A : Type 0} → A → Result A Fault
fine x = Ok x

-- equal results have equal values
pub ok_is : {A : Type 0} (x y : A) → fine x ≡ fine y → x ≡ y
ok_is x y h = cc

-- where one and then another is right, each is
pub ok_parts : {A B : Type 0} (r : Result A Fault) (f : A → Result B Fault) (y : B) → on_ok r f ≡ fine y → (x : A) × (r ≡ Ok x) × (f x ≡ Ok y)
ok_parts (Ok x) f y h = (x, refl, h)
ok_parts (Err e) f y h = absurd (cc h)

-- a demand that was met
pub if_ok : {A : Type 0} (b : Bool) (r : Result A Fault) (y : A) (e : Fault) → (if b then r else Err e) ≡ fine y → r ≡ fine y
if_ok true r y e h = h
if_ok false r y e h = absurd (cc h)

-- a demand that was met, and its condition
pub if_both : {A : Type 0} (b : Bool) (r : Result A Fault) (y : A) (e : Fault) → (if b then r else Err e) ≡ fine y → (b ≡ true) × (r ≡ fine y)
if_both true r y e h = (refl, h)
if_both false r y e h = absurd (cc h)

-- what was demanded holds
pub demanded : (b : Bool) (e : Fault) (u : Unit {0}) → demand b e ≡ fine u → b ≡ true
demanded true e u h = refl
demanded false e u h = absurd (cc h)

-- a name is found where it stands first
pub found_here : (n m : Name) (b : KnownName) (sc : Scope) → name_eq n m ≡ true → find ((n, b) ∷ sc) m ≡ Some b
found_here n m b sc e = ap (λ t. if t then Some b else find sc m) e

-- or behind another
pub found_other : (n m : Name) (b : KnownName) (sc : Scope) → name_eq n m ≡ false → find ((n, b) ∷ sc) m ≡ find sc m
found_other n m b sc e = ap (λ t. if t then Some b else find sc m) e

-- WHAT IS KNOWN

-- the slots of known locals have their values
pub record Agrees (sc : Scope) (env : Store) (mem : List ℤ) : Type 0 where
  pub each : (n : Name) (i : ℕ) → find sc n ≡ Some (Var i) → slice_index_or mem i (pos 0) ≡ env n

-- the slots of known locals are there, and each is one local's
pub record IsSound (sc : Scope) (slots : ℕ) : Type 0 where
  pub below : (n : Name) (i : ℕ) → find sc n ≡ Some (Var i) → i < slots
  pub apart : (n m : Name) (i : ℕ) → find sc n ≡ Some (Var i) → find sc m ≡ Some (Var i) → n ≡ m

-- a known table's number is its place among these tables
pub record ArePorts (ts : List TableDecl) (sc : Scope) : Type 0 where
  pub port : (n : Name) (p : ℕ) (k : TableKind) → find sc n ≡ Some (Port p k) → slice_get ts p ≡ Some (record { name = n; kind = k })

-- all that was known is known
abbrev pub Keeps : Scope → Scope → Type 0
Keeps sc sc' = (n : Name) (b : KnownName) → find sc n ≡ Some b → find sc' n ≡ Some b

-- values that agree with more names agree with fewer
pub agrees_within : (sc sc' : Scope) (env : Store) (mem : List ℤ) → Keeps sc sc' → Agrees sc' env mem → Agrees sc env mem
agrees_within sc sc' env mem k a = record { each = λ n i f. a.each n i (k n (Var i) f) }

-- names stay sound with more slots
pub more_slots : (sc : Scope) (m n : ℕ) → m ≤ n → IsSound sc m → IsSound sc n
more_slots sc m n le s = record { below = λ x i f. let b = s.below x i f in omega (arith, b, le); apart = s.apart }

-- a new name keeps what was known
pub keeps_new : (n : Name) (b : KnownName) (sc : Scope) → find sc n ≡ None → Keeps sc ((n, b) ∷ sc)
keeps_new n b sc new m c f = ⊎_elim
    (λ e. absurd (none_some (find sc m) c (subst (λ x. find sc x ≡ None) e.0 new) f))
    (λ e. found_other n m b sc e.1 ∙ f)
    (cases_name n m)

pub var_is : (i j : ℕ) → Some (Var i) ≡ Some (Var j) → i ≡ j
var_is i j h = cc

var_port : (i p : ℕ) (k : TableKind) → Some (Var i) ≡ Some (Port p k) → ⊥
var_port i p k h = cc h

port_var : (i p : ℕ) (k : TableKind) → Some (Port p k) ≡ Some (Var i) → ⊥
port_var i p k h = cc h

port_is : (p q : ℕ) (k l : TableKind) → Some (Port p k) ≡ Some (Port q l) → (p ≡ q) × (k ≡ l)
port_is p q k l h = (cc, cc)

-- a new local has a slot of its own
pub sound_var : (n : Name) (sc : Scope) (slots : ℕ) → IsSound sc slots → IsSound ((n, Var slots) ∷ sc) (slots + 1)
sound_var n sc slots s = record {
  below = λ m i f. ⊎_elim
      (λ e. let q = var_is slots i (sym (found_here n m (Var slots) sc e.1) ∙ f) in omega (arith, q))
      (λ e. let q = s.below m i (sym (found_other n m (Var slots) sc e.1) ∙ f) in omega (arith, q))
      (cases_name n m);
  apart = λ m o i f g. ⊎_elim
      (λ e. ⊎_elim
      (λ d. sym e.0 ∙ d.0)
      (λ d.
      let q = var_is slots i (sym (found_here n m (Var slots) sc e.1) ∙ f) in
      let r = s.below o i (sym (found_other n o (Var slots) sc d.1) ∙ g) in
      absurd (omega (arith, q, r)))
      (cases_name n o))
      (λ e. ⊎_elim
      (λ d.
      let q = var_is slots i (sym (found_here n o (Var slots) sc d.1) ∙ g) in
      let r = s.below m i (sym (found_other n m (Var slots) sc e.1) ∙ f) in
      absurd (omega (arith, q, r)))
      (λ d. s.apart m o i (sym (found_other n m (Var slots) sc e.1) ∙ f) (sym (found_other n o (Var slots) sc d.1) ∙ g))
      (cases_name n o))
      (cases_name n m);
}

-- a new local is no table
pub ports_var : (ts : List TableDecl) (n : Name) (i : ℕ) (sc : Scope) → ArePorts ts sc → ArePorts ts ((n, Var i) ∷ sc)
ports_var ts n i sc a = record {
  port = λ m p k f. ⊎_elim
      (λ e. absurd (var_port i p k (sym (found_here n m (Var i) sc e.1) ∙ f)))
      (λ e. a.port m p k (sym (found_other n m (Var i) sc e.1) ∙ f))
      (cases_name n m);
}

-- a new table has no slot
pub sound_port : (n : Name) (p : ℕ) (k : TableKind) (sc : Scope) (slots : ℕ) → IsSound sc slots → IsSound ((n, Port p k) ∷ sc) slots
sound_port n p k sc slots s = record {
  below = λ m i f. ⊎_elim
      (λ e. absurd (port_var i p k (sym (found_here n m (Port p k) sc e.1) ∙ f)))
      (λ e. s.below m i (sym (found_other n m (Port p k) sc e.1) ∙ f))
      (cases_name n m);
  apart = λ m o i f g. ⊎_elim
      (λ e. absurd (port_var i p k (sym (found_here n m (Port p k) sc e.1) ∙ f)))
      (λ e. ⊎_elim
      (λ d. absurd (port_var i p k (sym (found_here n o (Port p k) sc d.1) ∙ g)))
      (λ d. s.apart m o i (sym (found_other n m (Port p k) sc e.1) ∙ f) (sym (found_other n o (Port p k) sc d.1) ∙ g))
      (cases_name n o))
      (cases_name n m);
}

-- a slot is set to its name's new value
pub agrees_set : (n : Name) (i : ℕ) (z : ℤ) (sc : Scope) (slots : ℕ) (env : Store) (mem : List ℤ) → IsSound sc slots → slots ≤ length mem
    → find sc n ≡ Some (Var i)
    → ((m : Name) (j : ℕ) → name_eq n m ≡ false → find sc m ≡ Some (Var j) → slice_index_or mem j (pos 0) ≡ env m)
    → Agrees sc (at_name n z env) (slice_set mem i z)
agrees_set n i z sc slots env mem s len f others = record {
  each = λ m j g. ⊎_elim
      (λ e.
      let is : i ≡ j = var_is i j (sym f ∙ ap (find sc) e.0 ∙ g) in
      let lt = s.below n i f in
      subst (λ c. slice_index_or (slice_set mem i z) c (pos 0) ≡ at_name n z env m) is
      (get_or-set_same mem i z (pos 0) (omega (arith, lt, len)) ∙ sym (at_here n m z env e.1)))
      (λ e. get_or-set_other mem i j z (pos 0) (λ q. e.0 (s.apart n m i f (g ∙ ap (λ c. Some (Var c)) q))) ∙ others m j e.1 g ∙ sym (at_other n m z env e.1))
      (cases_name n m);
}

-- EXPRESSIONS

take_index : (w p : ℕ) (r : List ℤ) → suc p ≤ w → slice_index_or r p (pos 0) ≡ slice_index_or (take w r) p (pos 0)
take_index zero p r h = absurd (omega (arith, h))
take_index (suc w) p [] h = refl
take_index (suc w) zero (x ∷ xs) h = refl
take_index (suc w) (suc p) (x ∷ xs) h = take_index w p xs (omega (arith, h))

named_is : (o : Option KnownName) (u : Term) (z : ℤ) (xs mem : List ℤ) → ((i : ℕ) → o ≡ Some (Var i) → slice_index_or mem i (pos 0) ≡ z) → named o ≡ Ok u
    → z ≡ val u xs mem
named_is None u z xs mem h c = absurd (cc c)
named_is (Some (Var i)) u z xs mem h c = sym (h i refl) ∙ ap (λ t. val t xs mem) (ok_is (term.Slot i) u c)
named_is (Some (Port p k)) u z xs mem h c = absurd (cc c)

module _ (w : ℕ) (r : List ℤ) where
  abbrev pub fields : List ℤ
  fields = take w r

  -- a term has the value of its expression
  pub term_is : (sc : Scope) (t : Expression) (env : Store) (mem : List ℤ) (u : Term) → reach t ≤ w → Agrees sc env mem → term_of sc t ≡ Ok u
      → eval t r env ≡ val u fields mem
  term_is sc (tree.Number v) env mem u h a c = ap (λ t. val t fields mem) (ok_is (term.Const (pos v)) u c)
  term_is sc (tree.Name n) env mem u h a c = named_is (find sc n) u (env n) fields mem (a.each n) c
  term_is sc (tree.Input p) env mem u h a c =
      take_index w p r h ∙ ap (λ t. val t fields mem) (ok_is (term.Input p) u (if_ok (nat_le p 15) (Ok (term.Input p)) u Limit c))
  term_is sc (tree.Neg t) env mem u h a c =
      let p = ok_parts (term_of sc t) (λ a. Ok (term.Neg a)) u c in
      ap negate (term_is sc t env mem p.0 h a p.1) ∙ ap (λ t. val t fields mem) (ok_is (term.Neg p.0) u p.2)
  term_is sc (tree.Not t) env mem u h a c =
      let p = ok_parts (term_of sc t) (λ a. Ok (term.Not a)) u c in
      ap (λ b. truth (int_eq b (pos 0))) (term_is sc t env mem p.0 h a p.1) ∙ ap (λ t. val t fields mem) (ok_is (term.Not p.0) u p.2)
  term_is sc (tree.Bin o l t) env mem u h a c =
      let p = ok_parts (term_of sc l) (λ a. on_ok (term_of sc t) (λ b. Ok (term.Bin o a b))) u c in
      let q = ok_parts (term_of sc t) (λ b. Ok (term.Bin o p.0 b)) u p.2 in
      ap (λ b. applied o b (eval t r env)) (term_is sc l env mem p.0 (omega (arith, h)) a p.1)
      ∙ ap (applied o (val p.0 fields mem)) (term_is sc t env mem q.0 (omega (arith, h)) a q.1)
      ∙ ap (λ t. val t fields mem) (ok_is (term.Bin o p.0 q.0) u q.2)

  -- the values of terms
  abbrev pub vals : List Term → List ℤ → List ℤ
  vals us mem = map (λ t. val t fields mem) us

  -- the first value of a local
  pub first_is : (t : Option Expression) (sc : Scope) (env : Store) (mem : List ℤ) (u : Term) → reach_all (listed t) ≤ w → Agrees sc env mem
      → first_term t sc ≡ Ok u → eval_or (pos 0) t r env ≡ val u fields mem
  first_is None sc env mem u h a c = ap (λ t. val t fields mem) (ok_is (term.Const (pos 0)) u c)
  first_is (Some t) sc env mem u h a c = term_is sc t env mem u (omega (arith, h)) a c

  -- the values of indexes
  pub indexes_are : (sc : Scope) (n : ℕ) (ts : List Expression) (env : Store) (mem : List ℤ) (us : List Term) → reach_all ts ≤ w → Agrees sc env mem
      → indexes_of sc n ts ≡ Ok us → eval_all ts r env ≡ vals us mem
  indexes_are sc n [] env mem us h a c = ap (λ l. vals l mem) (ok_is [] us c)
  indexes_are sc n (t ∷ ts) env mem us h a c =
      let c2 = if_ok (nat_lt n 8) (on_ok (term_of sc t) (λ u. on_ok (indexes_of sc (n + 1) ts) (λ us. Ok (u ∷ us)))) us Limit c in
      let p = ok_parts (term_of sc t) (λ u. on_ok (indexes_of sc (n + 1) ts) (λ us. Ok (u ∷ us))) us c2 in
      let q = ok_parts (indexes_of sc (n + 1) ts) (λ us. Ok (p.0 ∷ us)) us p.2 in
      let one = term_is sc t env mem p.0 (omega (arith, h)) a p.1 in
      let more = indexes_are sc (n + 1) ts env mem q.0 (omega (arith, h)) a q.1 in
      (λ i. one i ∷ more i) ∙ ap (λ l. vals l mem) (ok_is (p.0 ∷ q.0) us q.2)

  -- the value of a weight
  pub weight_is : (k : TableKind) (t : Option Expression) (sc : Scope) (env : Store) (mem : List ℤ) (us : List Term) → reach_all (listed t) ≤ w
      → Agrees sc env mem
      → weight_of k t sc ≡ Ok us → eval_all (listed t) r env ≡ vals us mem
  weight_is (Sum keys) None sc env mem us h a c = ap (λ l. vals l mem) (ok_is [] us c)
  weight_is (Sum keys) (Some t) sc env mem us h a c = absurd (cc c)
  weight_is (Collection keys) None sc env mem us h a c = ap (λ l. vals l mem) (ok_is [] us c)
  weight_is (Collection keys) (Some t) sc env mem us h a c = absurd (cc c)
  weight_is (Maximum best keys) None sc env mem us h a c = absurd (cc c)
  weight_is (Maximum best keys) (Some t) sc env mem us h a c =
      let p = ok_parts (term_of sc t) (λ u. Ok (u ∷ [])) us c in
      let one = term_is sc t env mem p.0 (omega (arith, h)) a p.1 in
      (λ i. one i ∷ []) ∙ ap (λ l. vals l mem) (ok_is (p.0 ∷ []) us p.2)

  -- the values of expressions in a row are the values of the first and then of the others
  pub eval_all-append : (xs ys : List Expression) (env : Store) → eval_all (xs ++ ys) r env ≡ eval_all xs r env ++ eval_all ys r env
  eval_all-append [] ys env = refl
  eval_all-append (x ∷ xs) ys env = ap (λ l. eval x r env ∷ l) (eval_all-append xs ys env)

  -- the fields that two lists of expressions read
  pub reach-append : (xs ys : List Expression) → reach_all (xs ++ ys) ≤ w → (reach_all xs ≤ w) × (reach_all ys ≤ w)
  reach-append [] ys h = (omega arith, h)
  reach-append (x ∷ xs) ys h = let m = reach-append xs ys (omega (arith, h)) in (omega (arith, h, m.0), m.1)

-- READING GOES ON

-- a slot is never given back, what was known is known, each slot stays one local's, and the tables stay
pub record Grows (s s' : At) : Type 0 where
  pub slots : s.slots ≤ s'.slots
  pub keeps : Keeps s.scope s'.scope
  pub sound : IsSound s.scope s.slots → IsSound s'.scope s'.slots
  pub ports : (ts : List TableDecl) → ArePorts ts s.scope → ArePorts ts s'.scope
  pub tables : s'.tables ≡ s.tables

-- what stays has grown
pub grows_same : (s s' : At) → s.scope ≡ s'.scope → s.slots ≡ s'.slots → s'.tables ≡ s.tables → Grows s s'
grows_same s s' e f m = record {
  tables = m;
  slots = omega (arith, f);
  keeps = λ n b g. subst (λ sc. find sc n ≡ Some b) e g;
  sound = λ h. subst (λ sc. IsSound sc s'.slots) e (subst (IsSound s.scope) f h);
  ports = λ ts h. subst (ArePorts ts) e h;
}

-- what grew and grew again has grown
pub grows_trans : (s t u : At) → Grows s t → Grows t u → Grows s u
grows_trans s t u g h = record {
  tables = h.tables ∙ g.tables;
  slots = let a = g.slots in let b = h.slots in omega (arith, a, b);
  keeps = λ n b f. h.keeps n b (g.keeps n b f);
  sound = λ z. h.sound (g.sound z);
  ports = λ ts z. h.ports ts (g.ports ts z);
}

-- what was known before a block is known behind it
pub grows_back : (s t : At) → s.slots ≤ t.slots → t.tables ≡ s.tables → Grows s (record t { scope = s.scope })
grows_back s t le m = record { tables = m; slots = le; keeps = λ n b f. f; sound = λ h. more_slots s.scope s.slots t.slots le h; ports = λ ts h. h }

-- one statement more
abbrev pub one_more : At → At
one_more s = record s { size = s.size + 1 }

-- a statement was counted
pub counted_on : {A : Type 0} (s : At) (f : At → Result A Fault) (y : A) → on_ok (counted s) f ≡ fine y → f (one_more s) ≡ Ok y
counted_on s f y h =
    let p = ok_parts (counted s) f y h in
    let q = ok_is (one_more s) p.0 (if_ok (nat_lt s.size 16384) (Ok (one_more s)) p.0 Limit p.1) in
    ap f q ∙ p.2

-- there was room for it
pub room_for : {A : Type 0} (s : At) (f : At → Result A Fault) (y : A) → on_ok (counted s) f ≡ fine y → nat_lt s.size 16384 ≡ true
room_for s f y h = let p = ok_parts (counted s) f y h in (if_both (nat_lt s.size 16384) (Ok (one_more s)) p.0 Limit p.1).0

-- THE RUN

-- the rows that are pushed are the rows that are emitted, each to the port of its table
abbrev pub Matches : List TableDecl → List Emitted → List (ℕ × List ℤ) → Type 0
Matches ts [] [] = Unit {0}
Matches ts [] (p ∷ ps) = ⊥
Matches ts (e ∷ es) [] = ⊥
Matches ts (e ∷ es) (p ∷ ps) = (k : TableKind) × (slice_get ts p.0 ≡ Some (record { name = e.0; kind = k })) × (e.1 ≡ p.1) × Matches ts es ps

pub matches-append : (ts : List TableDecl) (es fs : List Emitted) (ps qs : List (ℕ × List ℤ)) → Matches ts es ps → Matches ts fs qs
    → Matches ts (es ++ fs) (ps ++ qs)
matches-append ts [] fs [] qs m n = n
matches-append ts [] fs (p ∷ ps) qs m n = absurd m
matches-append ts (e ∷ es) fs [] qs m n = absurd m
matches-append ts (e ∷ es) fs (p ∷ ps) qs m n = (m.0, m.1, m.2, matches-append ts es fs ps qs m.3 n)

-- what a run of steps does, from what is known before to what is known after
pub record Met (ts : List TableDecl) (now now' : State) (sc' : Scope) (run : Ran) : Type 0 where
  pub agrees : Agrees sc' now'.values run.slots
  pub new : List Emitted
  pub emitted_are : now'.emitted ≡ now.emitted ++ new
  pub matches : Matches ts new run.pushes

pub ran_joined : (a b : Steps) (xs mem : List ℤ)
    → ran (both_steps a b) xs mem ≡ record {
      pushes = (ran a xs mem).pushes ++ (ran b xs (ran a xs mem).slots).pushes;
      slots =
          (ran b xs (ran a xs mem).slots).slots;
    }
ran_joined Done b xs mem = refl
ran_joined (steps.Then s ss) b xs mem =
    let first = ran_once s xs mem in
    let more = ran_joined ss b xs first.slots in
    λ i. record {
      pushes =
          (ap (λ q. first.pushes ++ q.pushes) more
          ∙ sym (append_assoc first.pushes (ran ss xs first.slots).pushes (ran b xs (ran ss xs first.slots).slots).pushes)) i;
      slots = (more i).slots;
    }

module _ (w : ℕ) (r : List ℤ) (ts : List TableDecl) where
  -- steps that push nothing and leave the slots
  pub none_met : (now now' : State) (sc : Scope) (mem : List ℤ) → now'.emitted ≡ now.emitted → Agrees sc now'.values mem
      → Met ts now now' sc (record { pushes = []; slots = mem })
  none_met now now' sc mem e a = record { agrees = a; new = []; emitted_are = e ∙ sym (append-nil now.emitted); matches = tt }

  -- two lists of statements, one after the other
  pub met_more : (now mid now' : State) (sc sc' : Scope) (a b : Steps) (mem : List ℤ) → Met ts now mid sc (ran a (take w r) mem)
      → Met ts mid now' sc' (ran b (take w r) (ran a (take w r) mem).slots) → Met ts now now' sc' (ran (both_steps a b) (take w r) mem)
  met_more now mid now' sc sc' a b mem m n = subst (Met ts now now' sc') (sym (ran_joined a b (take w r) mem)) (record {
    agrees = n.agrees;
    new = m.new ++ n.new;
    emitted_are = n.emitted_are ∙ ap (λ l. l ++ n.new) m.emitted_are ∙ append_assoc now.emitted m.new n.new;
    matches = matches-append ts m.new n.new (ran a (take w r) mem).pushes (ran b (take w r) (ran a (take w r) mem).slots).pushes m.matches n.matches;
  })

-- one step is a list of one
pub one_ran : (st : Step) (xs mem : List ℤ) → ran_once st xs mem ≡ ran (one_step st) xs mem
one_ran st xs mem = λ i. record { pushes = sym (append-nil (ran_once st xs mem).pushes) i; slots = (ran_once st xs mem).slots }
