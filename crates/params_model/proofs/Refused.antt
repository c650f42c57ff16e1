-- A program is refused for its text exactly where its first faulty place says.
use Rattle.std.proofs.Common.{◌≡◌, ◌⊎◌, ℕ, suc, Bool, true, false, not, ◌||◌, ◌&&◌, Option, Some, None, Ok, Err, inl, inr, List, [], ◌∷◌, ◌++◌, length, refl, sym, ap, ◌∙◌, ⊎_elim}
use Rattle.std.specs.Prelude.{if◌then◌else◌}
use Rattle.std.specs.List.{AllByRecursion}
use Rattle.std.proofs.lemmas.Bool.{true≢false, eqb-true, eq-eqb}
use Rattle.river_plan.specs.Forms.{Name}
use Rattle.river_plan.proofs.NameLemmas.{cases_name}
use Rattle.streamit_model.specs.Meaning.{look}
use Rattle.streamit_text.specs.Tree.{Expression, Statement, Declare, Assign, Push, Discard, If, For, Block, Optional, Unwritten, Written}
use Rattle.streamit_text.specs.Tree as tree
use Rattle.params_text.specs.Params.{is_one_of}
use Rattle.params_text.specs.Program.{ParamWork, ParamFilter, Step, Add, Loop, Steps, End, Then, Dealing, Copies, Turns, Body, AFilter, APipeline, ASplitJoin, UnitForm, ParamProgram}
use Rattle.params_model.specs.Faults.{IsAmong, IsAbove, IsWrong, spot_fault, IsFaultless, RefusalsAre, AcceptedAre}
use Rattle.params_model.specs.Judged.{Judgement, judged_then, no_fault, are_known, all_known, known_option, all_known_option, new_names, other_names, statement_judged}
use Rattle.params_model.specs.Judged.{block_judged, optional_judged, rates_judged, work_judged, prework_judged, filter_judged, Above, has_arity, is_there}
use Rattle.params_model.specs.Judged.{step_judged, steps_judged, dealing_judged, body_judged, unit_judged, units_judged}
use Rattle.params_model.specs.declared.fault.Fault.{Fault}
use Rattle.params_model.specs.declared.fault.Fault.TheVariants.{UnknownName}
use Rattle.params_model.specs.declared.fault.Refusal.{Refusal}
use Rattle.params_model.specs.Making.{demand}
use Rattle.params_model.specs.Places.{Spot, Names, Takes, Declares, Sets, Uses, Loops, Adds, Gives, Place, uses, uses_in_all, option_uses, option_all_uses, declared_spots}
use Rattle.params_model.specs.Places.{statement_spots, block_spots, optional_spots, rate_spots, work_spots, prework_spots, filter_spots, step_spots, steps_spots}
use Rattle.params_model.specs.Places.{dealing_spots, body_spots, parameter_spots, unit_spots, spots_in_unit, places_from, places_of}

-- THE TEST OF A PLACE

abbrev test : Spot → Bool
test (Names n above) = not (is_there (look above n))
test (Takes n before) = not (is_one_of before n)
test (Declares n params) = not (is_one_of params n)
test (Sets n params) = not (is_one_of params n)
test (Uses n known) = is_one_of known n
test (Loops n known) = not (is_one_of known n)
test (Adds n above) = is_there (look above n)
test (Gives n count above) = has_arity (look above n) count

-- a name is found among others or not
among : (ks : List Name) (n : Name) → (IsAmong ks n × (is_one_of ks n ≡ true)) ⊎ ((IsAmong ks n → ⊥) × (is_one_of ks n ≡ false))
among [] n = inr ((λ h. h), refl)
among (k ∷ ks) n = ⊎_elim
    (λ s. inl (inl s.0, ap (λ b. b || is_one_of ks n) s.1))
    (λ d. ⊎_elim
    (λ s. inl (inr s.0, ap (λ b. b || is_one_of ks n) d.1 ∙ s.1))
    (λ e. inr ((λ h. ⊎_elim (λ f. d.0 f) (λ f. e.0 f) h), ap (λ b. b || is_one_of ks n) d.1 ∙ e.1))
    (among ks n))
    (cases_name k n)

above-found : (us : Above) (n : Name) → (IsAbove us n × (is_there (look us n) ≡ true)) ⊎ ((IsAbove us n → ⊥) × (is_there (look us n) ≡ false))
above-found [] n = inr ((λ h. h), refl)
above-found (u ∷ us) n = ⊎_elim
    (λ s. inl (inl s.0, ap (λ b. is_there (if b then Some u.1 else look us n)) s.1))
    (λ d. ⊎_elim
    (λ s. inl (inr s.0, ap (λ b. is_there (if b then Some u.1 else look us n)) d.1 ∙ s.1))
    (λ e. inr ((λ h. ⊎_elim (λ f. d.0 f) (λ f. e.0 f) h), ap (λ b. is_there (if b then Some u.1 else look us n)) d.1 ∙ e.1))
    (above-found us n))
    (cases_name u.0 n)

arity : (o : Option ℕ) (n : ℕ) → has_arity o n ≡ true → o ≡ Some n
arity None n h = absurd (cc h)
arity (Some m) n h = ap Some (eqb-true m n h)

arity_not : (o : Option ℕ) (n : ℕ) → has_arity o n ≡ false → o ≡ Some n → ⊥
arity_not o n h e = true≢false (sym (eq-eqb n n refl) ∙ sym (ap (λ p. has_arity p n) e) ∙ h)

right-not : (b : Bool) {P : Type 0} → (P × (b ≡ true)) ⊎ ((P → ⊥) × (b ≡ false)) → not b ≡ true → P → ⊥
right-not b c h p = ⊎_elim (λ s. true≢false (sym h ∙ ap not s.1)) (λ d. d.0 p) c

wrong-not : (b : Bool) {P : Type 0} → (P × (b ≡ true)) ⊎ ((P → ⊥) × (b ≡ false)) → not b ≡ false → P
wrong-not b c h = ⊎_elim (λ s. s.0) (λ d. absurd (true≢false (sym (ap not d.1) ∙ h))) c

right-is : (b : Bool) {P : Type 0} → (P × (b ≡ true)) ⊎ ((P → ⊥) × (b ≡ false)) → b ≡ true → (P → ⊥) → ⊥
right-is b c h p = ⊎_elim (λ s. p s.0) (λ d. true≢false (sym h ∙ d.1)) c

wrong-is : (b : Bool) {P : Type 0} → (P × (b ≡ true)) ⊎ ((P → ⊥) × (b ≡ false)) → b ≡ false → P → ⊥
wrong-is b c h p = ⊎_elim (λ s. true≢false (sym s.1 ∙ h)) (λ d. d.0 p) c

right : (s : Spot) → test s ≡ true → IsWrong s → ⊥
right (Names n above) h = right-not (is_there (look above n)) (above-found above n) h
right (Takes n before) h = right-not (is_one_of before n) (among before n) h
right (Declares n params) h = right-not (is_one_of params n) (among params n) h
right (Sets n params) h = right-not (is_one_of params n) (among params n) h
right (Uses n known) h = right-is (is_one_of known n) (among known n) h
right (Loops n known) h = right-not (is_one_of known n) (among known n) h
right (Adds n above) h = right-is (is_there (look above n)) (above-found above n) h
right (Gives n count above) h = λ w. w (arity (look above n) count h)

wrong : (s : Spot) → test s ≡ false → IsWrong s
wrong (Names n above) h = wrong-not (is_there (look above n)) (above-found above n) h
wrong (Takes n before) h = wrong-not (is_one_of before n) (among before n) h
wrong (Declares n params) h = wrong-not (is_one_of params n) (among params n) h
wrong (Sets n params) h = wrong-not (is_one_of params n) (among params n) h
wrong (Uses n known) h = wrong-is (is_one_of known n) (among known n) h
wrong (Loops n known) h = wrong-not (is_one_of known n) (among known n) h
wrong (Adds n above) h = wrong-is (is_there (look above n)) (above-found above n) h
wrong (Gives n count above) h = arity_not (look above n) count h

-- THE TESTS ONE AFTER ANOTHER

then-assoc : (a b c : Judgement) → judged_then (judged_then a b) c ≡ judged_then a (judged_then b c)
then-assoc (Ok x) b c = refl
then-assoc (Err e) b c = refl

then-none : (a : Judgement) → judged_then a no_fault ≡ a
then-none (Ok x) = refl
then-none (Err e) = refl

demand-both : (a b : Bool) (k : ℕ) (f : Fault) → judged_then (demand a k f) (demand b k f) ≡ demand (a && b) k f
demand-both true b k f = refl
demand-both false b k f = refl

abbrev tested : ℕ → List Spot → Judgement
tested k [] = no_fault
tested k (s ∷ ss) = judged_then (demand (test s) k (spot_fault s)) (tested k ss)

tested-append : (k : ℕ) (ss ts : List Spot) → tested k (ss ++ ts) ≡ judged_then (tested k ss) (tested k ts)
tested-append k [] ts = refl
tested-append k (s ∷ ss) ts = ap (judged_then (demand (test s) k (spot_fault s))) (tested-append k ss ts)
    ∙ sym (then-assoc (demand (test s) k (spot_fault s)) (tested k ss) (tested k ts))

-- two parts, each of which is judged as its places are tested
parts : (k : ℕ) (ss ts : List Spot) (a b : Judgement) → tested k ss ≡ a → tested k ts ≡ b → tested k (ss ++ ts) ≡ judged_then a b
parts k ss ts a b h g = tested-append k ss ts ∙ ap (λ x. judged_then x (tested k ts)) h ∙ ap (judged_then a) g

first-of : (k : ℕ) (s : Spot) (ts : List Spot) (b : Judgement) → tested k ts ≡ b → tested k (s ∷ ts) ≡ judged_then (demand (test s) k (spot_fault s)) b
first-of k s ts b h = ap (judged_then (demand (test s) k (spot_fault s))) h

one-of : (k : ℕ) (s : Spot) → tested k (s ∷ []) ≡ demand (test s) k (spot_fault s)
one-of k s = then-none (demand (test s) k (spot_fault s))

-- CONSTANTS

uses-are : (k : ℕ) (ks : List Name) (c : Expression) → tested k (uses ks c) ≡ demand (are_known ks c) k UnknownName
uses-are k ks (tree.Number v) = refl
uses-are k ks (tree.Name n) = one-of k (Uses n ks)
uses-are k ks (tree.Peek t) = uses-are k ks t
uses-are k ks tree.Pop = refl
uses-are k ks (tree.Neg t) = uses-are k ks t
uses-are k ks (tree.Not t) = uses-are k ks t
uses-are k ks (tree.Bin o a b) =
    parts k (uses ks a) (uses ks b) _ _ (uses-are k ks a) (uses-are k ks b) ∙ demand-both (are_known ks a) (are_known ks b) k UnknownName

all-are : (k : ℕ) (ks : List Name) (cs : List Expression) → tested k (uses_in_all ks cs) ≡ demand (all_known ks cs) k UnknownName
all-are k ks [] = refl
all-are k ks (c ∷ cs) =
    parts k (uses ks c) (uses_in_all ks cs) _ _ (uses-are k ks c) (all-are k ks cs) ∙ demand-both (are_known ks c) (all_known ks cs) k UnknownName

option-are : (k : ℕ) (ks : List Name) (o : Option Expression) → tested k (option_uses ks o) ≡ demand (known_option ks o) k UnknownName
option-are k ks None = refl
option-are k ks (Some c) = uses-are k ks c

option-all-are : (k : ℕ) (ks : List Name) (o : Option (List Expression)) → tested k (option_all_uses ks o) ≡ demand (all_known_option ks o) k UnknownName
option-all-are k ks None = refl
option-all-are k ks (Some cs) = all-are k ks cs

-- FILTERS

takes-are : (k : ℕ) (ks ns : List Name) → tested k (parameter_spots ks ns) ≡ new_names k ks ns
takes-are k ks [] = refl
takes-are k ks (n ∷ ns) = first-of k (Takes n ks) (parameter_spots (ks ++ n ∷ []) ns) _ (takes-are k (ks ++ n ∷ []) ns)

declares-are : (k : ℕ) (ps ns : List Name) → tested k (declared_spots ps ns) ≡ other_names k ps ns
declares-are k ps [] = refl
declares-are k ps (n ∷ ns) = first-of k (Declares n ps) (declared_spots ps ns) _ (declares-are k ps ns)

mutual
  statement-is : (k : ℕ) (ps : List Name) (c : Statement) → tested k (statement_spots ps c) ≡ statement_judged k ps c
  statement-is k ps (Declare n t) = one-of k (Declares n ps)
  statement-is k ps (Assign n t) = one-of k (Sets n ps)
  statement-is k ps (Push t) = refl
  statement-is k ps Discard = refl
  statement-is k ps (If t a b) = parts k (block_spots ps a) (optional_spots ps b) _ _ (block-is k ps a) (optional-is k ps b)
  statement-is k ps (For n low upto high b) = first-of k (Declares n ps) (block_spots ps b) _ (block-is k ps b)

  block-is : (k : ℕ) (ps : List Name) (b : Block) → tested k (block_spots ps b) ≡ block_judged k ps b
  block-is k ps tree.End = refl
  block-is k ps (tree.Then c b) = parts k (statement_spots ps c) (block_spots ps b) _ _ (statement-is k ps c) (block-is k ps b)

  optional-is : (k : ℕ) (ps : List Name) (b : Optional) → tested k (optional_spots ps b) ≡ optional_judged k ps b
  optional-is k ps Unwritten = refl
  optional-is k ps (Written b) = block-is k ps b

rates-are : (k : ℕ) (ps : List Name) (w : ParamWork) → tested k (rate_spots ps w) ≡ rates_judged k ps w
rates-are k ps w =
    parts k (option_uses ps w.push) (option_uses ps w.pop ++ option_uses ps w.peek) _ _ (option-are k ps w.push)
    (parts k (option_uses ps w.pop) (option_uses ps w.peek) _ _ (option-are k ps w.pop) (option-are k ps w.peek)
    ∙ demand-both (known_option ps w.pop) (known_option ps w.peek) k UnknownName)
    ∙ demand-both (known_option ps w.push) (known_option ps w.pop && known_option ps w.peek) k UnknownName

work-is : (k : ℕ) (ps : List Name) (w : ParamWork) → tested k (work_spots ps w) ≡ work_judged k ps w
work-is k ps w = parts k (rate_spots ps w) (block_spots ps w.block) _ _ (rates-are k ps w) (block-is k ps w.block)

prework-is : (k : ℕ) (ps : List Name) (o : Option ParamWork) → tested k (prework_spots ps o) ≡ prework_judged k ps o
prework-is k ps None = refl
prework-is k ps (Some w) = work-is k ps w

filter-is : (k : ℕ) (ps : List Name) (t : ParamFilter) → tested k (filter_spots ps t) ≡ filter_judged k ps t
filter-is k ps t =
    parts k (declared_spots ps t.fields) _ _ _ (declares-are k ps t.fields)
    (parts k (optional_spots ps t.init) _ _ _ (optional-is k ps t.init)
    (parts k (prework_spots ps t.prework) (work_spots ps t.work) _ _ (prework-is k ps t.prework) (work-is k ps t.work)))

-- STEPS

mutual
  step-is : (k : ℕ) (above : Above) (ks : List Name) (c : Step) → tested k (step_spots above ks c) ≡ step_judged k above ks c
  step-is k above ks (Add n cs) =
      first-of k (Adds n above) (uses_in_all ks cs ++ Gives n (length cs) above ∷ []) _
      (parts k (uses_in_all ks cs) (Gives n (length cs) above ∷ []) _ _ (all-are k ks cs) (one-of k (Gives n (length cs) above)))
  step-is k above ks (Loop n low upto high ss) =
      first-of k (Loops n ks) ((uses ks low ++ uses ks high) ++ steps_spots above (ks ++ n ∷ []) ss) _
      (parts k (uses ks low ++ uses ks high) (steps_spots above (ks ++ n ∷ []) ss) _ _
      (parts k (uses ks low) (uses ks high) _ _ (uses-are k ks low) (uses-are k ks high) ∙ demand-both (are_known ks low) (are_known ks high) k UnknownName)
      (steps-are k above (ks ++ n ∷ []) ss))

  steps-are : (k : ℕ) (above : Above) (ks : List Name) (ss : Steps) → tested k (steps_spots above ks ss) ≡ steps_judged k above ks ss
  steps-are k above ks End = refl
  steps-are k above ks (Then c ss) = parts k (step_spots above ks c) (steps_spots above ks ss) _ _ (step-is k above ks c) (steps-are k above ks ss)

dealing-is : (k : ℕ) (ps : List Name) (d : Dealing) → tested k (dealing_spots ps d) ≡ dealing_judged k ps d
dealing-is k ps Copies = refl
dealing-is k ps (Turns ws) = option-all-are k ps ws

-- UNITS

body-is : (k : ℕ) (above : Above) (ps : List Name) (b : Body) → tested k (body_spots above ps b) ≡ body_judged k above ps b
body-is k above ps (AFilter t) = filter-is k ps t
body-is k above ps (APipeline ss) = steps-are k above ps ss
body-is k above ps (ASplitJoin d ss ws) =
    parts k (dealing_spots ps d) _ _ _ (dealing-is k ps d)
    (parts k (steps_spots above ps ss) (option_all_uses ps ws) _ _ (steps-are k above ps ss) (option-all-are k ps ws))

unit-is : (k : ℕ) (above : Above) (u : UnitForm) → tested k (unit_spots above u) ≡ unit_judged k above u
unit-is k above u =
    first-of k (Names u.name above) (parameter_spots [] u.params ++ body_spots above u.params u.body) _
    (parts k (parameter_spots [] u.params) (body_spots above u.params u.body) _ _ (takes-are k [] u.params) (body-is k above u.params u.body))

abbrev all_tested : List Place → Judgement
all_tested [] = no_fault
all_tested (p ∷ ps) = judged_then (demand (test p.spot) p.unit (spot_fault p.spot)) (all_tested ps)

in_unit-tested : (k : ℕ) (ss : List Spot) (ps : List Place) → all_tested (spots_in_unit k ss ++ ps) ≡ judged_then (tested k ss) (all_tested ps)
in_unit-tested k [] ps = refl
in_unit-tested k (s ∷ ss) ps =
    ap (judged_then (demand (test s) k (spot_fault s))) (in_unit-tested k ss ps)
    ∙ sym (then-assoc (demand (test s) k (spot_fault s)) (tested k ss) (all_tested ps))

units-are : (k : ℕ) (above : Above) (p : ParamProgram) → all_tested (places_from k above p) ≡ units_judged k above p
units-are k above [] = refl
units-are k above (u ∷ us) =
    in_unit-tested k (unit_spots above u) (places_from (suc k) ((u.name, length u.params) ∷ above) us)
    ∙ ap (λ x. judged_then x (all_tested (places_from (suc k) ((u.name, length u.params) ∷ above) us))) (unit-is k above u)
    ∙ ap (judged_then (unit_judged k above u)) (units-are (suc k) ((u.name, length u.params) ∷ above) us)

-- THE FIRST FAULT

record Parted (ps : List Place) (r : Refusal) : Type 0 where
  before : List Place
  place : Place
  behind : List Place
  is : ps ≡ before ++ place ∷ behind
  all : AllByRecursion IsFaultless before
  bad : IsWrong place.spot
  fault : r.fault ≡ spot_fault place.spot
  there : r.unit ≡ place.unit

refused-same : (unit : ℕ) (f : Fault) (r : Refusal) → ◌≡◌ {A = Judgement} (Err (record { unit = unit; fault = f })) (Err r) → (r.fault ≡ f) × (r.unit ≡ unit)
refused-same unit f r e = (cc e, cc e)

parted : (ps : List Place) (r : Refusal) → all_tested ps ≡ Err r → Parted ps r
parted [] r h = absurd (cc h)
parted (p ∷ ps) r h = by (parted ps r) (test p.spot) refl where
  here : Bool → Judgement
  here b = judged_then (demand b p.unit (spot_fault p.spot)) (all_tested ps)

  by : (all_tested ps ≡ Err r → Parted ps r) → (b : Bool) → test p.spot ≡ b → Parted (p ∷ ps) r
  by more true e =
      let q = more (sym (ap here e) ∙ h) in
      record {
        before = p ∷ q.before;
        place = q.place;
        behind = q.behind;
        is = ap (λ l. p ∷ l) q.is;
        all = (right p.spot e, q.all);
        bad = q.bad;
        fault = q.fault;
        there = q.there;
      }
  by more false e =
      let s = refused-same p.unit (spot_fault p.spot) r (sym (ap here e) ∙ h) in
      record { before = []; place = p; behind = ps; is = refl; all = tt; bad = wrong p.spot e; fault = s.0; there = s.1 }

-- a place that is right passes its test, and one that is wrong does not
passes : (s : Spot) → (IsWrong s → ⊥) → test s ≡ true
passes s h = by (test s) refl where
  by : (b : Bool) → test s ≡ b → b ≡ true
  by true e = refl
  by false e = absurd (h (wrong s e))

fails : (s : Spot) → IsWrong s → test s ≡ false
fails s h = by (test s) refl where
  by : (b : Bool) → test s ≡ b → b ≡ false
  by true e = absurd (right s e h)
  by false e = refl

refuses : (before : List Place) (p : Place) (behind : List Place) → AllByRecursion IsFaultless before → IsWrong p.spot
    → all_tested (before ++ p ∷ behind) ≡ Err (record { unit = p.unit; fault = spot_fault p.spot })
refuses [] p behind a w = ap (λ b. judged_then (demand b p.unit (spot_fault p.spot)) (all_tested behind)) (fails p.spot w)
refuses (q ∷ qs) p behind a w =
    ap (λ b. judged_then (demand b q.unit (spot_fault q.spot)) (all_tested (qs ++ p ∷ behind))) (passes q.spot a.0) ∙ refuses qs p behind a.1 w

all-right : (ps : List Place) → all_tested ps ≡ Ok tt → AllByRecursion IsFaultless ps
all-right [] h = tt
all-right (p ∷ ps) h = by (all-right ps) (test p.spot) refl where
  here : Bool → Judgement
  here b = judged_then (demand b p.unit (spot_fault p.spot)) (all_tested ps)

  by : (all_tested ps ≡ Ok tt → AllByRecursion IsFaultless ps) → (b : Bool) → test p.spot ≡ b → AllByRecursion IsFaultless (p ∷ ps)
  by more true e = (right p.spot e, more (sym (ap here e) ∙ h))
  by more false e = absurd (no (sym (ap here e) ∙ h)) where
    no : ◌≡◌ {A = Judgement} (Err (record { unit = p.unit; fault = spot_fault p.spot })) (Ok tt) → ⊥
    no g = cc g

right-all : (ps : List Place) → AllByRecursion IsFaultless ps → all_tested ps ≡ Ok tt
right-all [] h = refl
right-all (p ∷ ps) h = ap (λ b. judged_then (demand b p.unit (spot_fault p.spot)) (all_tested ps)) (passes p.spot h.0) ∙ right-all ps h.1

-- the laws
pub refusals_are : RefusalsAre
refusals_are p unit f = (
  (λ h.
      let q = parted (places_of p) (record { unit = unit; fault = f }) (units-are 1 [] p ∙ h) in
      record { before = q.before; place = q.place; behind = q.behind; parts = q.is; right = q.all; wrong = q.bad; fault = q.fault; there = q.there }),
  (λ h.
      sym (units-are 1 [] p) ∙ ap all_tested h.parts ∙ refuses h.before h.place h.behind h.right h.wrong
      ∙ same unit h.place.unit f (spot_fault h.place.spot) h.there h.fault),
)
  where
    same : (i j : ℕ) (f g : Fault) → i ≡ j → f ≡ g → ◌≡◌ {A = Judgement} (Err (record { unit = j; fault = g })) (Err (record { unit = i; fault = f }))
    same i j f g e h = cc

-- units are accepted exactly where no place has a fault
pub accepted_are : AcceptedAre
accepted_are p = ((λ h. all-right (places_of p) (units-are 1 [] p ∙ h)), (λ a. sym (units-are 1 [] p) ∙ right-all (places_of p) a))
