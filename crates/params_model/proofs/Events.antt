-- What is made is refused exactly where something that happens is wrong, with the first that is.
use Rattle.std.proofs.Common.{◌≡◌, ◌<◌, ◌≤◌, ◌⊎◌, ℕ, suc, ℤ, pos, negsuc, ◌+◌, Bool, true, false, ◌&&◌, Option, Some, None, Result, Ok, Err, inl, inr, List, [], ◌∷◌, ◌++◌, length, map, refl, sym, ap, subst, ◌∙◌, ⊎_elim, arith, length-append}
use Rattle.std.specs.Prelude.{nat_lt, nat_le, if◌then◌else◌}
use Rattle.std.proofs.lemmas.Bool.{true≢false}
use Rattle.river_base.specs.Name.{name_eq}
use Rattle.river_base.proofs.Tests.{le_by, le_true, lt_by, lt_true}
use Rattle.streamit_text.specs.Tree.{Expression}
use Rattle.river_plan.specs.Forms.{Name}
use Rattle.streamit_text.specs.Program as plain
use Rattle.streamit_model.specs.Meaning.{turns_between}
use Rattle.params_text.specs.Program.{ParamWork, ParamFilter, Step, Add, Loop, Steps, End, Then, Dealing, Copies, Turns, Body, AFilter, APipeline, ASplitJoin, ParamProgram}
use Rattle.params_model.specs.Environment.{Environment, bound, value, option_counts, dealing}
use Rattle.params_model.specs.Plain.{plain_filter}
use Rattle.params_model.specs.Judged.{Judgement, no_fault, units_judged, has_none, top_judged, source_units, elaborated_program}
use Rattle.params_model.specs.declared.fault.Fault.{Fault}
use Rattle.params_model.specs.declared.fault.Fault.TheVariants.{Top, Range, Budget}
use Rattle.params_model.specs.declared.fault.Refusal.{Refusal}
use Rattle.params_model.specs.Making.{SourceUnit, Made, nothing_made, on_fine, demand, begin, turn, is_ranged, are_ranged}
use Rattle.params_model.specs.Making.{is_ranged_option, are_ranged_option, is_ranged_dealing, is_ranged_work, is_ranged_prework, is_ranged_filter, Adding, Added, also}
use Rattle.params_model.specs.Making.{turns_made, made_once, steps_made, some_adds, children_made, body_made, finish, make, instance, last_made}
use Rattle.params_model.specs.Events.{Event, Tops, Begins, Goes, Counts, Closes, option_value, option_values, dealing_values, work_values, prework_values, filter_values}
use Rattle.params_model.specs.Events.{in_turns, step_children, steps_children, Adds, turn_events, step_events, steps_events, children_events, body_events, make_events}
use Rattle.params_model.specs.Events.{instance_events, program_events, Before, nothing, after_event, IsOut, SomeOut, IsWrong, refusal_at, AllRight, IsFirstWrong}
use Rattle.params_model.specs.Events.{MakingRefusalsAre, MakingIsDone}

-- EVENTS ONE AFTER ANOTHER

abbrev after_all : Before → List Event → Before
after_all t [] = t
after_all t (e ∷ es) = after_all (after_event t e) es

after_both : (t : Before) (a b : List Event) → after_all t (a ++ b) ≡ after_all (after_all t a) b
after_both t [] b = refl
after_both t (e ∷ a) b = after_both (after_event t e) a b

right_both : (t : Before) (a b : List Event) → AllRight t a → AllRight (after_all t a) b → AllRight t (a ++ b)
right_both t [] b h g = g
right_both t (e ∷ a) b h g = (h.0, right_both (after_event t e) a b h.1 g)

wrong_front : (t : Before) (a b : List Event) (r : Refusal) → IsFirstWrong t a r → IsFirstWrong t (a ++ b) r
wrong_front t [] b r h = absurd h
wrong_front t (e ∷ a) b r h = ⊎_elim (λ w. inl w) (λ w. inr (w.0, wrong_front (after_event t e) a b r w.1)) h

wrong_behind : (t : Before) (a b : List Event) (r : Refusal) → AllRight t a → IsFirstWrong (after_all t a) b r → IsFirstWrong t (a ++ b) r
wrong_behind t [] b r h g = g
wrong_behind t (e ∷ a) b r h g = inr (h.0, wrong_behind (after_event t e) a b r h.1 g)

-- nothing is wrong, or something is first
not_both : (t : Before) (es : List Event) (r : Refusal) → AllRight t es → IsFirstWrong t es r → ⊥
not_both t [] r h g = g
not_both t (e ∷ es) r h g = ⊎_elim (λ w. h.0 w.0) (λ w. not_both (after_event t e) es r h.1 w.1) g

-- there is one first
first_is : (t : Before) (es : List Event) (r q : Refusal) → IsFirstWrong t es r → IsFirstWrong t es q → r ≡ q
first_is t [] r q h g = absurd h
first_is t (e ∷ es) r q h g =
    ⊎_elim
    (λ w. ⊎_elim (λ v. w.1 ∙ sym v.1) (λ v. absurd (v.0 w.0)) g)
    (λ w. ⊎_elim (λ v. absurd (w.0 v.0)) (λ v. first_is (after_event t e) es r q w.1 v.1) g)
    h

-- one number is below the other, or is not
split : (a b : ℕ) → (a < b) ⊎ (b ≤ a)
split a b = by (nat_lt a b) refl
  where
    by : (c : Bool) → nat_lt a b ≡ c → (a < b) ⊎ (b ≤ a)
    by true e = inl (lt_by a b e)
    by false e = inr (let h = lt_true a b in above h e)
      where
        above : (a < b → nat_lt a b ≡ true) → nat_lt a b ≡ false → b ≤ a
        above h e = grind (arith, e)

-- WHAT IS MADE, AND WHAT HAPPENS

abbrev before : Made → Before
before s = record { begun = s.begun; bytes = s.bytes; turns = s.turns }

-- where the answer is fine nothing was wrong, and what was counted is what happened; else it is the first that was wrong
abbrev Follows : {A : Type 0} → (A → Made) → (A → Type 0) → Before → List Event → Result A Refusal → Type 0
Follows made holds t es (Ok x) = AllRight t es × (before (made x) ≡ after_all t es) × holds x
Follows made holds t es (Err r) = IsFirstWrong t es r

abbrev Any : {A : Type 0} → A → Type 0
Any x = Unit {0}

-- one after the other
follows_then : {A B : Type 0} (made : A → Made) (holds : A → Type 0) (made' : B → Made) (holds' : B → Type 0) (t : Before) (a b : List Event)
    (r : Result A Refusal) (f : A → Result B Refusal)
    → Follows made holds t a r → ((x : A) → before (made x) ≡ after_all t a → holds x → Follows made' holds' (after_all t a) b (f x))
    → Follows made' holds' t (a ++ b) (on_fine r f)
follows_then made holds made' holds' t a b (Err r) f h g = wrong_front t a b r h
follows_then made holds made' holds' t a b (Ok x) f h g = by (f x) (g x h.1 h.2)
  where
    by : (y : Result _ Refusal) → Follows made' holds' (after_all t a) b y → Follows made' holds' t (a ++ b) y
    by (Ok y) k = (right_both t a b h.0 k.0, k.1 ∙ sym (after_both t a b), k.2)
    by (Err r) k = wrong_behind t a b r h.0 k

-- one thing that may be wrong
follows_demand : {B : Type 0} (made : B → Made) (holds : B → Type 0) (t : Before) (e : Event) (es : List Event) (b : Bool) (unit : ℕ) (fault : Fault)
    (f : Unit {0} → Result B Refusal)
    → refusal_at e ≡ record { unit = unit; fault = fault } → (b ≡ true → IsWrong t e → ⊥) → (b ≡ false → IsWrong t e)
    → (b ≡ true → Follows made holds (after_event t e) es (f tt)) → Follows made holds t (e ∷ es) (on_fine (demand b unit fault) f)
follows_demand made holds t e es true unit fault f is right wrong g = by (f tt) (g refl)
  where
    by : (y : Result _ Refusal) → Follows made holds (after_event t e) es y → Follows made holds t (e ∷ es) y
    by (Ok y) k = ((right refl, k.0), k.1, k.2)
    by (Err r) k = inr (right refl, k)
follows_demand made holds t e es false unit fault f is right wrong g = inl (wrong refl, sym is)

-- NUMBERS

le_not : (a b : ℕ) → nat_le a b ≡ false → b < a
le_not a b e = ⊎_elim (λ lt. lt) (λ le. absurd (true≢false (sym (le_true a b le) ∙ e))) (split b a)

lt_not : (a b : ℕ) → nat_lt a b ≡ false → b ≤ a
lt_not a b e = ⊎_elim (λ lt. absurd (true≢false (sym (lt_true a b lt) ∙ e))) (λ le. le) (split a b)

-- a test of numbers that are in their range
abbrev Tests : Bool → List ℤ → Type 0
Tests b zs = (b ≡ true → SomeOut zs → ⊥) × (b ≡ false → SomeOut zs)

tests_none : Tests true []
tests_none = ((λ e h. h), (λ e. absurd (true≢false e)))

ranged : (z : ℤ) → (is_ranged z ≡ true → IsOut z → ⊥) × (is_ranged z ≡ false → IsOut z)
ranged (pos n) = ((λ e h. let le = le_by n 65536 e in omega (arith, le, h)), le_not n 65536)
ranged (negsuc n) = ((λ e h. true≢false (sym e)), (λ e. tt))

tests_one : (z : ℤ) → Tests (is_ranged z) (z ∷ [])
tests_one z = ((λ e h. ⊎_elim (λ w. (ranged z).0 e w) (λ w. w) h), (λ e. inl ((ranged z).1 e)))

out_front : (xs ys : List ℤ) → SomeOut xs → SomeOut (xs ++ ys)
out_front [] ys h = absurd h
out_front (x ∷ xs) ys h = ⊎_elim (λ w. inl w) (λ w. inr (out_front xs ys w)) h

out_behind : (xs ys : List ℤ) → SomeOut ys → SomeOut (xs ++ ys)
out_behind [] ys h = h
out_behind (x ∷ xs) ys h = inr (out_behind xs ys h)

out_either : (xs ys : List ℤ) → SomeOut (xs ++ ys) → SomeOut xs ⊎ SomeOut ys
out_either [] ys h = inr h
out_either (x ∷ xs) ys h = ⊎_elim (λ w. inl (inl w)) (λ w. ⊎_elim (λ v. inl (inr v)) (λ v. inr v) (out_either xs ys w)) h

tests_both : (a b : Bool) (xs ys : List ℤ) → Tests a xs → Tests b ys → Tests (a && b) (xs ++ ys)
tests_both true b xs ys h g = (
  (λ e w. ⊎_elim (λ v. h.0 refl v) (λ v. g.0 e v) (out_either xs ys w)),
  (λ e. out_behind xs ys (g.1 e)),
)
tests_both false b xs ys h g = ((λ e w. true≢false (sym e)), (λ e. out_front xs ys (h.1 refl)))

tests_all : (env : Environment) (cs : List Expression) → Tests (are_ranged env cs) (map (value env) cs)
tests_all env [] = tests_none
tests_all env (c ∷ cs) = tests_both (is_ranged (value env c)) (are_ranged env cs) (value env c ∷ []) (map (value env) cs) (tests_one (value env c)) (tests_all env cs)

tests_option : (env : Environment) (c : Option Expression) → Tests (is_ranged_option env c) (option_value env c)
tests_option env None = tests_none
tests_option env (Some c) = tests_one (value env c)

tests_options : (env : Environment) (cs : Option (List Expression)) → Tests (are_ranged_option env cs) (option_values env cs)
tests_options env None = tests_none
tests_options env (Some cs) = tests_all env cs

tests_dealing : (env : Environment) (d : Dealing) → Tests (is_ranged_dealing env d) (dealing_values env d)
tests_dealing env Copies = tests_none
tests_dealing env (Turns ws) = tests_options env ws

tests_work : (env : Environment) (w : ParamWork) → Tests (is_ranged_work env w) (work_values env w)
tests_work env w =
    tests_both (is_ranged_option env w.push) (is_ranged_option env w.pop && is_ranged_option env w.peek) (option_value env w.push)
    (option_value env w.pop ++ option_value env w.peek) (tests_option env w.push)
    (tests_both (is_ranged_option env w.pop) (is_ranged_option env w.peek) (option_value env w.pop) (option_value env w.peek) (tests_option env w.pop)
    (tests_option env w.peek))

tests_prework : (env : Environment) (w : Option ParamWork) → Tests (is_ranged_prework env w) (prework_values env w)
tests_prework env None = tests_none
tests_prework env (Some w) = tests_work env w

tests_filter : (env : Environment) (t : ParamFilter) → Tests (is_ranged_filter env t) (filter_values env t)
tests_filter env t =
    tests_both (is_ranged_prework env t.prework) (is_ranged_work env t.work) (prework_values env t.prework) (work_values env t.work)
    (tests_prework env t.prework) (tests_work env t.work)

-- numbers that are tested, and what comes behind
follows_counts : {B : Type 0} (made : B → Made) (holds : B → Type 0) (t : Before) (es : List Event) (b : Bool) (unit : ℕ) (zs : List ℤ)
    (f : Unit {0} → Result B Refusal) → Tests b zs → Follows made holds t es (f tt) → Follows made holds t (Counts unit zs ∷ es) (on_fine (demand b unit Range) f)
follows_counts made holds t es b unit zs f h g = follows_demand made holds t (Counts unit zs) es b unit Range f refl h.0 h.1 (λ e. g)

-- what happens and is right, and what comes behind
follows_right : {B : Type 0} (made : B → Made) (holds : B → Type 0) (t : Before) (e : Event) (es : List Event) (y : Result B Refusal) → (IsWrong t e → ⊥)
    → Follows made holds (after_event t e) es y → Follows made holds t (e ∷ es) y
follows_right made holds t e es (Ok y) right k = ((right, k.0), k.1, k.2)
follows_right made holds t e es (Err r) right k = inr (right, k)

-- a turn is begun
follows_turn : {B : Type 0} (made : B → Made) (holds : B → Type 0) (s : Made) (unit : ℕ) (es : List Event) (g : Made → Result B Refusal)
    → Follows made holds (before (record s { turns = suc s.turns })) es (g (record s { turns = suc s.turns }))
    → Follows made holds (before s) (Goes unit ∷ es) (on_fine (turn unit s) g)
follows_turn made holds s unit es g k = by (nat_lt s.turns 65536) refl
  where
    by : (b : Bool) → nat_lt s.turns 65536 ≡ b
        → Follows made holds (before s) (Goes unit ∷ es) (on_fine (on_fine (demand b unit Budget) (λ x. Ok (record s { turns = suc s.turns }))) g)
    by true e =
        follows_right made holds (before s) (Goes unit) es (g (record s { turns = suc s.turns })) (λ h. let lt = lt_by s.turns 65536 e in omega (arith, lt, h)) k
    by false e = inl (lt_not s.turns 65536 e, refl)

-- an instance is begun
follows_begin : {B : Type 0} (made : B → Made) (holds : B → Type 0) (s : Made) (u : SourceUnit) (depth : ℕ) (es : List Event) (g : Made → Result B Refusal)
    → Follows made holds (before (record s { begun = suc s.begun; bytes = s.bytes + u.bytes })) es
    (g (record s { begun = suc s.begun; bytes = s.bytes + u.bytes }))
    → Follows made holds (before s) (Begins u.unit u.bytes depth ∷ es) (on_fine (begin u depth s) g)
follows_begin made holds s u depth es g k = by (nat_lt s.begun 1024) (nat_le depth 64) (nat_le (s.bytes + u.bytes) 1048576) refl refl refl
  where
    by : (a b c : Bool) → nat_lt s.begun 1024 ≡ a → nat_le depth 64 ≡ b → nat_le (s.bytes + u.bytes) 1048576 ≡ c
        → Follows made holds (before s) (Begins u.unit u.bytes depth ∷ es)
        (on_fine (on_fine (demand (a && (b && c)) u.unit Budget) (λ x. Ok (record s { begun = suc s.begun; bytes = s.bytes + u.bytes }))) g)
    by true true true p q r =
        follows_right made holds (before s) (Begins u.unit u.bytes depth) es (g (record s { begun = suc s.begun; bytes = s.bytes + u.bytes }))
        (λ h. ⊎_elim (λ w. let lt = lt_by s.begun 1024 p in omega (arith, lt, w))
        (λ w. ⊎_elim (λ v. let le = le_by depth 64 q in omega (arith, le, v)) (λ v. let le = le_by (s.bytes + u.bytes) 1048576 r in omega (arith, le, v)) w) h)
        k
    by true true false p q r = inl (inr (inr (le_not (s.bytes + u.bytes) 1048576 r)), refl)
    by true false c p q r = inl (inr (inl (le_not depth 64 q)), refl)
    by false b c p q r = inl (inl (lt_not s.begun 1024 p), refl)

-- STEPS

abbrev state : {A : Type 0} → A × Made → Made
state x = x.1

-- so many names
abbrev So : ℕ → List Name × Made → Type 0
So n x = length x.0 ≡ n

follows_also : (n m : ℕ) (t : Before) (a b : List Event) (r : Added) (f : Made → Added) → Follows state (So n) t a r
    → ((s : Made) → Follows state (So m) (before s) b (f s)) → Follows state (So (n + m)) t (a ++ b) (also r f)
follows_also n m t a b r f h g =
    follows_then state (So n) state (So (n + m)) t a b r (λ x. on_fine (f x.1) (λ y. Ok (x.0 ++ y.0, y.1))) h
    (λ x is so. subst (λ t. Follows state (So (n + m)) t b (on_fine (f x.1) (λ y. Ok (x.0 ++ y.0, y.1)))) is (mapped x so (f x.1) (g x.1)))
  where
    mapped : (x : List Name × Made) → length x.0 ≡ n → (y : Added) → Follows state (So m) (before x.1) b y
        → Follows state (So (n + m)) (before x.1) b (on_fine y (λ y. Ok (x.0 ++ y.0, y.1)))
    mapped x so (Ok y) k = let l = length-append x.0 y.0 in let c = k.2 in (k.0, k.1, omega (arith, l, so, c))
    mapped x so (Err q) k = k

follows_turns : (unit : ℕ) (f : ℕ → Made → Added) (events : ℕ → List Event) (count : ℕ → ℕ)
    → ((v : ℕ) (s : Made) → Follows state (So (count v)) (before s) (events v) (f v s)) → (vs : List ℕ) (s : Made)
    → Follows state (So (in_turns count vs)) (before s) (turn_events unit events vs) (turns_made unit f vs s)
follows_turns unit f events count h [] s = (tt, refl, refl)
follows_turns unit f events count h (v ∷ vs) s =
    let s1 : Made = record s { turns = suc s.turns } in
    follows_turn state (So (in_turns count (v ∷ vs))) s unit (events v ++ turn_events unit events vs) (λ t. also (f v t) (turns_made unit f vs))
    (follows_also (count v) (in_turns count vs) (before s1) (events v) (turn_events unit events vs) (f v s1) (turns_made unit f vs) (h v s1)
    (λ q. follows_turns unit f events count h vs q))

module _ (add : Adding) (adds : Adds) (adding : (n : Name) (zs : List ℤ) (s : Made) → Follows state Any (before s) (adds n zs) (add n zs s)) where
  mutual
    follows_step : (unit : ℕ) (env : Environment) (c : Step) (s : Made)
        → Follows state (So (step_children env c)) (before s) (step_events adds unit env c) (made_once add unit env c s)
    follows_step unit env (Add n cs) s = one (add n (map (value env) cs) s) (adding n (map (value env) cs) s)
      where
        one : (r : Result (Name × Made) Refusal) → Follows state Any (before s) (adds n (map (value env) cs)) r
            → Follows state (So 1) (before s) (adds n (map (value env) cs)) (on_fine r (λ x. Ok (x.0 ∷ [], x.1)))
        one (Ok x) k = (k.0, k.1, refl)
        one (Err q) k = k
    follows_step unit env (Loop n low upto high ss) s =
        let vs = turns_between (value env low) upto (value env high) in
        let events = λ (v : ℕ). steps_events adds unit ((n, pos v) ∷ env) ss in
        let made = λ (v : ℕ). steps_made add unit ((n, pos v) ∷ env) ss in
        let count = λ (v : ℕ). steps_children ((n, pos v) ∷ env) ss in
        follows_counts state (So (in_turns count vs)) (before s) (turn_events unit events vs) (is_ranged (value env low) && is_ranged (value env high)) unit
        (value env low ∷ value env high ∷ []) (λ x. turns_made unit made vs s)
        (tests_both (is_ranged (value env low)) (is_ranged (value env high)) (value env low ∷ []) (value env high ∷ []) (tests_one (value env low))
        (tests_one (value env high)))
        (follows_turns unit made events count (λ v q. follows_steps unit ((n, pos v) ∷ env) ss q) vs s)

    follows_steps : (unit : ℕ) (env : Environment) (ss : Steps) (s : Made)
        → Follows state (So (steps_children env ss)) (before s) (steps_events adds unit env ss) (steps_made add unit env ss s)
    follows_steps unit env End s = (tt, refl, refl)
    follows_steps unit env (Then c ss) s =
        follows_also (step_children env c) (steps_children env ss) (before s) (step_events adds unit env c) (steps_events adds unit env ss)
        (made_once add unit env c s) (steps_made add unit env ss) (follows_step unit env c s) (λ q. follows_steps unit env ss q)

  -- children, of which there are some
  closes : (unit n : ℕ) (t : Before) (names : List Name) (m : Made) → before m ≡ t → length names ≡ n
      → Follows state Any t (Closes unit n ∷ []) (on_fine (some_adds unit names) (λ a. Ok (a, m)))
  closes unit n t [] m e h = inl (sym h, refl)
  closes unit n t (x ∷ xs) m e h = (((λ z. absurd (let l : suc (length xs) ≡ n = h in omega (arith, l, z))), tt), e, tt)

  follows_children : (unit : ℕ) (env : Environment) (ss : Steps) (s : Made)
      → Follows state Any (before s) (children_events adds unit env ss) (children_made add unit env ss s)
  follows_children unit env ss s =
      follows_then state (So (steps_children env ss)) state Any (before s) (steps_events adds unit env ss) (Closes unit (steps_children env ss) ∷ [])
      (steps_made add unit env ss s) (λ x. on_fine (some_adds unit x.0) (λ a. Ok (a, x.1))) (follows_steps unit env ss s)
      (λ x is so. closes unit (steps_children env ss) (after_all (before s) (steps_events adds unit env ss)) x.0 x.1 is so)

  follows_body : (unit : ℕ) (env : Environment) (b : Body) (s : Made) → Follows state Any (before s) (body_events adds unit env b) (body_made add unit env b s)
  follows_body unit env (AFilter t) s =
      follows_counts state Any (before s) [] (is_ranged_filter env t) unit (filter_values env t) (λ x. Ok (plain.AFilter (plain_filter env t), s))
      (tests_filter env t) (tt, refl, tt)
  follows_body unit env (APipeline ss) s = by (children_made add unit env ss s) (follows_children unit env ss s)
    where
      by : (r : Result (plain.Adds × Made) Refusal) → Follows state Any (before s) (children_events adds unit env ss) r
          → Follows state Any (before s) (children_events adds unit env ss) (on_fine r (λ x. Ok (plain.APipeline x.0, x.1)))
      by (Ok x) k = k
      by (Err q) k = k
  follows_body unit env (ASplitJoin d ss ws) s =
      let join = λ (c : plain.Adds × Made).
      on_fine (demand (are_ranged_option env ws) unit Range) (λ y. Ok (plain.ASplitJoin (dealing env d) c.0 (option_counts env ws), c.1)) in
      follows_counts state Any (before s) (children_events adds unit env ss ++ Counts unit (option_values env ws) ∷ []) (is_ranged_dealing env d) unit
      (dealing_values env d) (λ x. on_fine (children_made add unit env ss s) join) (tests_dealing env d)
      (follows_then state Any state Any (before s) (children_events adds unit env ss) (Counts unit (option_values env ws) ∷ []) (children_made add unit env ss s)
      join (follows_children unit env ss s)
      (λ c is _. subst (λ t. Follows state Any t (Counts unit (option_values env ws) ∷ []) (join c)) is
      (follows_counts state Any (before c.1) [] (are_ranged_option env ws) unit (option_values env ws)
      (λ y. Ok (plain.ASplitJoin (dealing env d) c.0 (option_counts env ws), c.1)) (tests_options env ws) (tt, refl, tt))))

  follows_make : (u : SourceUnit) (depth : ℕ) (env : Environment) (s : Made)
      → Follows state Any (before s) (make_events adds u depth env) (make add u depth env s)
  follows_make u depth env s =
      let s1 : Made = record s { begun = suc s.begun; bytes = s.bytes + u.bytes } in
      follows_begin state Any s u depth (body_events adds u.unit env u.stream.body) (λ s. on_fine (body_made add u.unit env u.stream.body s) (λ r. Ok (finish u r)))
      (by (body_made add u.unit env u.stream.body s1) (follows_body u.unit env u.stream.body s1))
    where
      by : (r : Result (plain.Body × Made) Refusal)
          → Follows state Any (before (record s { begun = suc s.begun; bytes = s.bytes + u.bytes })) (body_events adds u.unit env u.stream.body) r
          → Follows state Any (before (record s { begun = suc s.begun; bytes = s.bytes + u.bytes })) (body_events adds u.unit env u.stream.body)
          (on_fine r (λ r. Ok (finish u r)))
      by (Ok x) k = k
      by (Err q) k = k

-- INSTANCES

follows_instance : (us : List SourceUnit) (depth : ℕ) (n : Name) (zs : List ℤ) (s : Made)
    → Follows state Any (before s) (instance_events us depth n zs) (instance us depth n zs s)
follows_instance [] depth n zs s = inl (tt, refl)
follows_instance (u ∷ us) depth n zs s =
    by (name_eq u.stream.name n) (λ n zs s. follows_instance us (suc depth) n zs s) (follows_instance us depth n zs s)
  where
    by : (b : Bool) → ((n : Name) (zs : List ℤ) (s : Made) → Follows state Any (before s) (instance_events us (suc depth) n zs) (instance us (suc depth) n zs s))
        → Follows state Any (before s) (instance_events us depth n zs) (instance us depth n zs s)
        → Follows state Any (before s)
        (if b then make_events (instance_events us (suc depth)) u depth (bound u.stream.params zs) else instance_events us depth n zs)
        (if b then make (instance us (suc depth)) u depth (bound u.stream.params zs) s else instance us depth n zs s)
    by true below rest = follows_make (instance us (suc depth)) (instance_events us (suc depth)) below u depth (bound u.stream.params zs) s
    by false below rest = rest

abbrev itself : Made → Made
itself m = m

follows_last : (u : SourceUnit) (us : List SourceUnit) → Follows itself Any nothing (make_events (instance_events us 2) u 1 []) (last_made (u ∷ us))
follows_last u us =
    by (make (instance us 2) u 1 [] nothing_made)
    (follows_make (instance us 2) (instance_events us 2) (λ n zs s. follows_instance us 2 n zs s) u 1 [] nothing_made)
  where
    by : (r : Result (Name × Made) Refusal) → Follows state Any nothing (make_events (instance_events us 2) u 1 []) r
        → Follows itself Any nothing (make_events (instance_events us 2) u 1 []) (on_fine r (λ x. Ok x.1))
    by (Ok x) k = k
    by (Err q) k = k

none_right : (ps : List Name) → has_none ps ≡ true → (ps ≡ [] → ⊥) → ⊥
none_right [] e h = h refl
none_right (p ∷ ps) e h = absurd (true≢false (sym e))

none_wrong : (ps : List Name) → has_none ps ≡ false → ps ≡ [] → ⊥
none_wrong ps e h = true≢false (sym (ap has_none h) ∙ e)

follows_program : (us : List SourceUnit) → Follows itself Any nothing (program_events us) (on_fine (top_judged us) (λ y. last_made us))
follows_program [] = inl (tt, refl)
follows_program (u ∷ us) =
    follows_demand itself Any nothing (Tops u.unit u.stream.params) (make_events (instance_events us 2) u 1 []) (has_none u.stream.params) u.unit Top
    (λ y. last_made (u ∷ us)) refl (none_right u.stream.params) (none_wrong u.stream.params) (λ e. follows_last u us)

-- THE LAWS

module _ (p : ParamProgram) (sizes : List ℕ) (judged : units_judged 1 [] p ≡ no_fault) where
  abbrev us : List SourceUnit
  us = source_units p sizes

  made_is : elaborated_program p sizes ≡ on_fine (top_judged us) (λ y. last_made us)
  made_is = ap (λ (j : Judgement). on_fine j (λ x. on_fine (top_judged us) (λ y. last_made us))) judged

  follows_it : Follows itself Any nothing (program_events us) (elaborated_program p sizes)
  follows_it = subst (Follows itself Any nothing (program_events us)) (sym made_is) (follows_program us)

refused_by : (es : List Event) (y : Result Made Refusal) (r : Refusal) → Follows itself Any nothing es y
    → ((y ≡ Err r) → IsFirstWrong nothing es r) × (IsFirstWrong nothing es r → y ≡ Err r)
refused_by es (Ok m) r k = ((λ e. absurd (cc e)), (λ w. absurd (not_both nothing es r k.0 w)))
refused_by es (Err q) r k = (
  (λ e. let is : q ≡ r = cc e in subst (IsFirstWrong nothing es) is k),
  (λ w. ap Err (first_is nothing es q r k w)),
)

done_by : (es : List Event) (y : Result Made Refusal) → Follows itself Any nothing es y
    → (((m : Made) × (y ≡ Ok m)) → AllRight nothing es) × (AllRight nothing es → (m : Made) × (y ≡ Ok m))
done_by es (Ok m) k = ((λ _. k.0), (λ _. (m, refl)))
done_by es (Err q) k = ((λ x. absurd (cc x.1)), (λ a. absurd (not_both nothing es q a k)))

-- a program is refused exactly where something is wrong, with the first that is
pub making_refusals_are : MakingRefusalsAre
making_refusals_are = λ p sizes r judged. refused_by (program_events (source_units p sizes)) (elaborated_program p sizes) r (follows_it p sizes judged)

-- and it is made exactly where nothing is wrong
pub making_is_done : MakingIsDone
making_is_done = λ p sizes judged. done_by (program_events (source_units p sizes)) (elaborated_program p sizes) (follows_it p sizes judged)
