-- The instances that are made do what the streams do under the values of their arguments.
use Rattle.std.proofs.Common.{◌≡◌, ℕ, zero, suc, ℤ, pos, negsuc, Bool, true, false, Option, Some, None, Ok, Err, Result, ◌+◌, ◌-◌, ◌^◌, ◌<◌, ◌≤◌, List, [], ◌∷◌, ◌++◌, length, map, refl, sym, ap, ◌∙◌}
use Rattle.std.proofs.Common.{subst, arith, length-append, append_assoc, ⊎_elim, nat_lt, nat_le}
use Rattle.std.specs.Prelude.{if◌then◌else◌, ◌&&◌}
use Rattle.std.proofs.lemmas.Bool.{and_parts}
use Rattle.std.proofs.lemmas.List.{append-nil}
use Rattle.river_base.specs.Name.{name_eq}
use Rattle.river_base.specs.Number.{count_of}
use Rattle.river_plan.specs.Forms.{Name}
use Rattle.river_plan.proofs.NameLemmas.{cases_name, name_same}
use Rattle.brooklet_model.specs.ByIndex.{collected}
use Rattle.streamit_model.specs.Meaning.{or_work, runs_in, numbers_from, turns_between}
use Rattle.streamit_text.specs.Tree.{Statement, Declare, Assign, Push, Discard, If, For, Block, Optional, Unwritten, Written}
use Rattle.streamit_text.specs.Tree as source
use Rattle.streamit_model.specs.Meaning.{Works, look, or_same, known_works, piped, branched, branch_count, weights_for, share_of, body_works, all_work, last_of, program_outputs}
use Rattle.streamit_text.specs.Program as plain
use Rattle.params_text.specs.Program.{ParamWork, ParamFilter, Step, Add, Loop, Steps, End, Then, Body, AFilter, APipeline, ASplitJoin}
use Rattle.params_model.specs.Environment.{Environment, bound, value, option_counts, dealing, rated_work, rated_prework, rated}
use Rattle.params_model.specs.Meaning.{Child, Streams, children_each_turn, children_once, children, in_line, side_by_side, works_under, stream_works}
use Rattle.params_model.specs.Plain.{instance_name, plain_filter}
use Rattle.params_model.specs.declared.fault.Fault.{Fault}
use Rattle.params_model.specs.declared.fault.Fault.TheVariants.{Budget, Range}
use Rattle.params_model.specs.declared.fault.Refusal.{Refusal}
use Rattle.params_model.specs.Making.{on_fine, demand, SourceUnit, Made, nothing_made, begin, turn, is_ranged, are_ranged_option}
use Rattle.params_model.specs.Making.{is_ranged_dealing, is_ranged_filter, Adding, Added, also}
use Rattle.params_model.specs.Making.{turns_made, made_once, steps_made, some_adds, children_made, body_made, finish, make, instance}
use Rattle.params_model.specs.Laws.{AllDiffer, SparesOnce, SparesAll, SparesOptional, SparesPrework, SparesFilter, IsFine, AreFine, IsFitStep, AreFitSteps, unit_streams, ElaborationMeans}
use Rattle.params_model.proofs.Values.{Fits, AllFit, bound_fits, values_fit, small}
use Rattle.params_model.proofs.Put.{none_bound, filter_same}
use Rattle.params_model.proofs.InstanceNames.{number_in, number_is}

-- RESULTS THAT ARE THERE

-- a result without a fault
abbrev pub fine : {A : Type 0} → A → Result A Refusal
fine x = Ok x

-- equal results have equal values
pub ok_is : {A : Type 0} (x y : A) → fine x ≡ fine y → x ≡ y
ok_is x y e = cc e

-- where two steps in a row are fine, each of them is
pub ok_parts : {A B : Type 0} (r : Result A Refusal) (f : A → Result B Refusal) (y : B) → on_fine r f ≡ fine y → (x : A) × (r ≡ fine x) × (f x ≡ fine y)
ok_parts (Ok x) f y h = (x, refl, h)
ok_parts (Err e) f y h = absurd (cc h)

-- what is demanded without a fault holds
pub demanded : (b : Bool) (k : ℕ) (e : Fault) (u : Unit {0}) → demand b k e ≡ fine u → b ≡ true
demanded true k e u h = refl
demanded false k e u h = absurd (cc h)

-- WHAT NAMES DO

-- the units are numbered from the one behind k on
abbrev pub Numbered : ℕ → plain.Program → Type 0
Numbered k [] = Unit {0}
Numbered k (u ∷ us) = (number_in u.name ≡ suc k) × Numbered (suc k) us

numbered-append : (k : ℕ) (us vs : plain.Program) → Numbered k us → Numbered (k + length us) vs → Numbered k (us ++ vs)
numbered-append k [] vs h g = subst (λ j. Numbered j vs) (let e : k + 0 ≡ k = omega arith in e) g
numbered-append k (u ∷ us) vs h g =
    (h.0, numbered-append (suc k) us vs h.1 (subst (λ j. Numbered j vs) (let e : k + suc (length us) ≡ suc k + length us = omega arith in e) g))

other_name : (a b : Name) (i j : ℕ) → number_in a ≡ i → number_in b ≡ j → j < i → name_eq a b ≡ false
other_name a b i j e f lt = ⊎_elim
    (λ s. let g = ap number_in s.0 in absurd (omega (arith, e, f, g, lt)))
    (λ d. d.1)
    (cases_name a b)

look_other : {A : Type 0} (e : Name × A) (es : List (Name × A)) (n : Name) → name_eq e.0 n ≡ false → look (e ∷ es) n ≡ look es n
look_other e es n h = ap (λ b. if b then Some e.1 else look es n) h

look_here : {A : Type 0} (e : Name × A) (es : List (Name × A)) (n : Name) → name_eq e.0 n ≡ true → look (e ∷ es) n ≡ Some e.1
look_here e es n h = ap (λ b. if b then Some e.1 else look es n) h

-- later units change nothing for earlier names
work_kept : (us : plain.Program) (k : ℕ) (env : List (Name × Works)) (n : Name) → Numbered k us → number_in n ≤ k
    → known_works (all_work env us) n ≡ known_works env n
work_kept [] k env n h le = refl
work_kept (u ∷ us) k env n h le =
    work_kept us (suc k) ((u.name, body_works env u.body) ∷ env) n h.1 (omega (arith, le))
    ∙ ap or_same (look_other (u.name, body_works env u.body) env n (other_name u.name n (suc k) (number_in n) h.0 refl (omega (arith, le))))

all_work-append : (us vs : plain.Program) (env : List (Name × Works)) → all_work env (us ++ vs) ≡ all_work (all_work env us) vs
all_work-append [] vs env = refl
all_work-append (u ∷ us) vs env = all_work-append us vs ((u.name, body_works env u.body) ∷ env)

-- in these units the name does this
pub record Does (units : plain.Program) (n : Name) (f : Works) : Type 0 where
  pub number : number_in n ≤ length units
  pub same : (xs : List ℤ) → known_works (all_work [] units) n xs ≡ f xs

does_more : (units more : plain.Program) (n : Name) (f : Works) → Does units n f → Numbered (length units) more → Does (units ++ more) n f
does_more units more n f h g = record {
  number = let e = h.number in omega (arith, e, length-append units more);
  same =
      λ xs. ap (λ w. known_works w n xs) (all_work-append units more [])
      ∙ ap (λ w. w xs) (work_kept more (length units) (all_work [] units) n g h.number)
      ∙ h.same xs;
}

-- WHAT WAS MADE

-- t came from s: more units, which are numbered on; at least as many instances were begun as were made
pub record Grew (s t : Made) : Type 0 where
  pub more : plain.Program
  pub units : t.units ≡ s.units ++ more
  pub numbered : Numbered (length s.units) more
  pub begun : s.begun + length more ≤ t.begun
  pub few : s.begun ≤ 1024 → t.begun ≤ 1024

grew_same : (s t : Made) → s.units ≡ t.units → s.begun ≡ t.begun → Grew s t
grew_same s t e f = record {
  more = [];
  units = sym e ∙ sym (append-nil s.units);
  numbered = tt;
  begun = omega (arith, f);
  few = λ h. omega (arith, f, h);
}

grew_then : (s t r : Made) → Grew s t → Grew t r → Grew s r
grew_then s t r g h = record {
  more = g.more ++ h.more;
  units = h.units ∙ ap (λ l. l ++ h.more) g.units ∙ append_assoc s.units g.more h.more;
  numbered = numbered-append (length s.units) g.more h.more g.numbered
      (subst (λ l. Numbered l h.more) (ap length g.units ∙ length-append s.units g.more) h.numbered);
  begun = let a = g.begun in let b = h.begun in omega (arith, a, b, length-append g.more h.more);
  few = λ e. h.few (g.few e);
}

grew_does : (s t : Made) (n : Name) (f : Works) → Grew s t → Does s.units n f → Does t.units n f
grew_does s t n f g h = subst (λ l. Does l n f) (sym g.units) (does_more s.units g.more n f h g.numbered)

-- no more were made than were begun, which are few
pub record IsSmall (s : Made) : Type 0 where
  pub made : length s.units ≤ s.begun
  pub few : s.begun ≤ 1024

-- what comes from few instances is few
pub grew_small : (s t : Made) → Grew s t → IsSmall s → IsSmall t
grew_small s t g h = record {
  made = let a = g.begun in let b = h.made in let l = ap length g.units in omega (arith, a, b, l, length-append s.units g.more);
  few = g.few h.few;
}

-- CHILDREN

abbrev pub AllDo : Streams → plain.Program → List Name → List Child → Type 0
AllDo all units [] [] = Unit {0}
AllDo all units [] (c ∷ cs) = ⊥
AllDo all units (n ∷ ns) [] = ⊥
AllDo all units (n ∷ ns) (c ∷ cs) = Does units n (all c.0 c.1) × AllDo all units ns cs

all_do-append : (all : Streams) (units : plain.Program) (ns ms : List Name) (cs ds : List Child) → AllDo all units ns cs → AllDo all units ms ds
    → AllDo all units (ns ++ ms) (cs ++ ds)
all_do-append all units [] ms [] ds h g = g
all_do-append all units [] ms (c ∷ cs) ds h g = absurd h
all_do-append all units (n ∷ ns) ms [] ds h g = absurd h
all_do-append all units (n ∷ ns) ms (c ∷ cs) ds h g = (h.0, all_do-append all units ns ms cs ds h.1 g)

all_do_more : (all : Streams) (s t : Made) (ns : List Name) (cs : List Child) → Grew s t → AllDo all s.units ns cs → AllDo all t.units ns cs
all_do_more all s t [] [] g h = tt
all_do_more all s t [] (c ∷ cs) g h = absurd h
all_do_more all s t (n ∷ ns) [] g h = absurd h
all_do_more all s t (n ∷ ns) (c ∷ cs) g h = (grew_does s t n (all c.0 c.1) g h.0, all_do_more all s t ns cs g h.1)

-- what an `add` makes does what the stream does under the values
pub record AddsBy (all : Streams) (n : Name) (zs : List ℤ) (s : Made) (x : Name × Made) : Type 0 where
  pub grew : Grew s x.1
  pub does : Does x.1.units x.0 (all n zs)

-- what each `add` of values makes does what the stream does under them
abbrev pub Right : Streams → Adding → Type 0
Right all add = (n : Name) (zs : List ℤ) (s : Made) (x : Name × Made) → AllFit zs → IsSmall s → add n zs s ≡ fine x → AddsBy all n zs s x

pub record ChildrenBy (all : Streams) (cs : List Child) (s : Made) (x : List Name × Made) : Type 0 where
  pub grew : Grew s x.1
  pub all_do : AllDo all x.1.units x.0 cs

children_none : (all : Streams) (s : Made) → ChildrenBy all [] s ([], s)
children_none all s = record { grew = grew_same s s refl refl; all_do = tt }

children_both : (all : Streams) (cs ds : List Child) (s : Made) (x y : List Name × Made) → ChildrenBy all cs s x → ChildrenBy all ds x.1 y
    → ChildrenBy all (cs ++ ds) s (x.0 ++ y.0, y.1)
children_both all cs ds s x y g h = record {
  grew = grew_then s x.1 y.1 g.grew h.grew;
  all_do = all_do-append all y.1.units x.0 y.0 cs ds (all_do_more all x.1 y.1 x.0 cs h.grew g.all_do) h.all_do;
}

-- where steps and then others make something, it is what both make, in order
pub also_parts : (a : Added) (f : Made → Added) (r : List Name × Made) → also a f ≡ fine r
    → (x : List Name × Made) × (y : List Name × Made) × (a ≡ fine x) × (f x.1 ≡ fine y) × (r ≡ (x.0 ++ y.0, y.1))
also_parts a f r h =
    let p = ok_parts a (λ x. on_fine (f x.1) (λ y. fine (x.0 ++ y.0, y.1))) r h in
    let q = ok_parts (f p.0.1) (λ y. fine (p.0.0 ++ y.0, y.1)) r p.2 in
    (p.0, q.0, p.1, q.1, sym (ok_is (p.0.0 ++ q.0.0, q.0.1) r q.2))

children_also : (all : Streams) (cs ds : List Child) (s : Made) (a : Added) (f : Made → Added) (r : List Name × Made)
    → ((x : List Name × Made) → a ≡ fine x → ChildrenBy all cs s x)
    → ((t : Made) (y : List Name × Made) → Grew s t → f t ≡ fine y → ChildrenBy all ds t y)
    → also a f ≡ fine r → ChildrenBy all (cs ++ ds) s r
children_also all cs ds s a f r first later h =
    let p = also_parts a f r h in
    let g = first p.0 p.2 in
    subst (ChildrenBy all (cs ++ ds) s) (sym p.4) (children_both all cs ds s p.0 p.1 g (later p.0.1 p.1 g.grew p.3))

-- each number of the list is at most so much
abbrev pub AllAtMost : ℕ → List ℕ → Type 0
AllAtMost m [] = Unit {0}
AllAtMost m (v ∷ vs) = (v ≤ m) × AllAtMost m vs

-- numbers in turn are at most the last of them
pub numbers_at_most : (m v n : ℕ) → v + n ≤ suc m → AllAtMost m (numbers_from v n)
numbers_at_most m v zero h = tt
numbers_at_most m v (suc n) h = (omega (arith, h), numbers_at_most m (suc v) n (omega (arith, h)))

ranged_is : (z : ℤ) → is_ranged z ≡ true → count_of z ≤ 65536
ranged_is (pos n) h = grind (arith, h)
ranged_is (negsuc n) h = omega arith

one_more : (b : Bool) → (if b then 1 else 0) ≤ 1
one_more true = omega arith
one_more false = omega arith

-- between bounds that are in range every turn is at most 65,536
pub turns_small : (low high : ℤ) (upto : Bool) → is_ranged high ≡ true → is_ranged low ≡ true → AllAtMost 65536 (turns_between low upto high)
turns_small low high upto h l =
    let a = ranged_is high h in
    let b = ranged_is low l in
    let c = one_more upto in
    let k : ℕ = if upto then 1 else 0 in
    numbers_at_most 65536 (count_of low) (count_of high + k - count_of low) (omega (arith, a, b, c))

-- the block of each firing spares the parameters
runs_spare : (env : Environment) (ps : List Name) (t : ParamFilter) → SparesFilter ps t → (j : ℕ) → SparesAll ps (runs_in (rated env t) j).block
runs_spare env ps t h zero = first t.prework h.prework where
  first : (o : Option ParamWork) → SparesPrework ps o → SparesAll ps (or_work (rated_prework env o) (rated_work env t.work)).block
  first None g = h.work
  first (Some w) g = g
runs_spare env ps t h (suc j) = h.work

module _ (all : Streams) (add : Adding) (unit : ℕ) (right : Right all add) where
  -- a turn that is begun keeps the units that were made
  pub turn_grew : (s t : Made) → turn unit s ≡ fine t → Grew s t
  turn_grew s t h =
      let p = ok_parts (demand (nat_lt s.turns 65536) unit Budget) (λ x. fine (record s { turns = suc s.turns })) t h in
      let e = ok_is (record s { turns = suc s.turns }) t p.2 in
      grew_same s t (ap (λ m. m.units) e) (ap (λ m. m.begun) e)

  turns_right : (f : ℕ → Made → Added) (g : ℕ → List Child) (m : ℕ)
      → ((v : ℕ) (s : Made) (r : List Name × Made) → v ≤ m → IsSmall s → f v s ≡ fine r → ChildrenBy all (g v) s r)
      → (vs : List ℕ) (s : Made) (r : List Name × Made) → AllAtMost m vs → IsSmall s → turns_made unit f vs s ≡ fine r
      → ChildrenBy all (children_each_turn g vs) s r
  turns_right f g m one [] s r le small h = subst (ChildrenBy all [] s) (ok_is ([], s) r h) (children_none all s)
  turns_right f g m one (v ∷ vs) s r le small h =
      let p = ok_parts (turn unit s) (λ t. also (f v t) (turns_made unit f vs)) r h in
      let t = p.0 in
      let k = turn_grew s t p.1 in
      let ok = grew_small s t k small in
      let c = children_also all (g v) (children_each_turn g vs) t (f v t) (turns_made unit f vs) r
      (λ x e. one v t x le.0 ok e)
      (λ q y w e. turns_right f g m one vs q y le.1 (grew_small t q w ok) e)
      p.2 in
      record { grew = grew_then s t r.1 k c.grew; all_do = c.all_do }

  mutual
    once_right : (env : Environment) (c : Step) (s : Made) (r : List Name × Made) → Fits env → IsFitStep c → IsSmall s → made_once add unit env c s ≡ fine r
        → ChildrenBy all (children_once env c) s r
    once_right env (Add n cs) s r fits fit small h =
        let p = ok_parts (add n (map (value env) cs) s) (λ x. fine (x.0 ∷ [], x.1)) r h in
        let a = right n (map (value env) cs) s p.0 (values_fit env cs fits fit) small p.1 in
        subst (ChildrenBy all ((n, map (value env) cs) ∷ []) s) (ok_is (p.0.0 ∷ [], p.0.1) r p.2) (record { grew = a.grew; all_do = (a.does, tt) })
    once_right env (Loop n low upto high ss) s r fits fit few h =
        let f = λ (v : ℕ). steps_made add unit ((n, pos v) ∷ env) ss in
        let p = ok_parts (demand (is_ranged (value env low) && is_ranged (value env high)) unit Range)
        (λ x. turns_made unit f (turns_between (value env low) upto (value env high)) s) r h in
        let b = and_parts (is_ranged (value env low)) (is_ranged (value env high)) (demanded _ unit Range p.0 p.1) in
        turns_right f (λ v. children ((n, pos v) ∷ env) ss) 65536
        (λ v t y le ok e. steps_right ((n, pos v) ∷ env) ss t y (small v (omega (arith, le)), fits) fit ok e)
        (turns_between (value env low) upto (value env high)) s r (turns_small (value env low) (value env high) upto b.1 b.0) few p.2

    -- steps make their children, one after another
    pub steps_right : (env : Environment) (ss : Steps) (s : Made) (r : List Name × Made) → Fits env → AreFitSteps ss → IsSmall s
        → steps_made add unit env ss s ≡ fine r
        → ChildrenBy all (children env ss) s r
    steps_right env End s r fits fit small h = subst (ChildrenBy all [] s) (ok_is ([], s) r h) (children_none all s)
    steps_right env (Then c ss) s r fits fit small h =
        children_also all (children_once env c) (children env ss) s (made_once add unit env c s) (steps_made add unit env ss) r
        (λ x e. once_right env c s x fits fit.0 small e)
        (λ t y g e. steps_right env ss t y fits fit.1 (grew_small s t g small) e)
        h

  -- BODIES

  count_is : (units : plain.Program) (ns : List Name) (cs : List Child) → AllDo all units ns cs → length ns ≡ length cs
  count_is units [] [] h = refl
  count_is units [] (c ∷ cs) h = absurd h
  count_is units (n ∷ ns) [] h = absurd h
  count_is units (n ∷ ns) (c ∷ cs) h = ap suc (count_is units ns cs h.1)

  piped_is : (units : plain.Program) (n : Name) (ns : List Name) (cs : List Child) (xs : List ℤ) → AllDo all units (n ∷ ns) cs
      → piped (all_work [] units) n ns xs ≡ in_line all cs xs
  piped_is units n ns [] xs h = absurd h
  piped_is units n [] (c ∷ []) xs h = h.0.same xs
  piped_is units n [] (c ∷ d ∷ cs) xs h = absurd h.1
  piped_is units n (m ∷ ms) (c ∷ cs) xs h =
      ap (λ l. piped (all_work [] units) m ms l) (h.0.same xs) ∙ piped_is units m ms cs (all c.0 c.1 xs) h.1

  branched_is : (units : plain.Program) (n : Name) (ns : List Name) (cs : List Child) (f : ℕ → List ℤ) → AllDo all units (n ∷ ns) cs
      → branched (all_work [] units) n ns f ≡ side_by_side all cs f
  branched_is units n ns [] f h = absurd h
  branched_is units n [] (c ∷ []) f h = ap (λ l. l ∷ []) (h.0.same (f 0))
  branched_is units n [] (c ∷ d ∷ cs) f h = absurd h.1
  branched_is units n (m ∷ ms) (c ∷ cs) f h =
      ap (λ l. l ∷ branched (all_work [] units) m ms (λ p. f (suc p))) (h.0.same (f 0))
      ∙ ap (λ ls. all c.0 c.1 (f 0) ∷ ls) (branched_is units m ms cs (λ p. f (suc p)) h.1)

  pub record BodyBy (env : Environment) (b : Body) (s : Made) (r : plain.Body × Made) : Type 0 where
    pub grew : Grew s r.1
    pub same : (xs : List ℤ) → body_works (all_work [] r.1.units) r.0 xs ≡ works_under all env b xs

  record SomeChildren (cs : List Child) (s : Made) (r : plain.Adds × Made) : Type 0 where
    grew : Grew s r.1
    all_do : AllDo all r.1.units (r.0.first ∷ r.0.others) cs

  names_do : (m : plain.Program) (cs : List Child) (ns : List Name) (a : plain.Adds) → some_adds unit ns ≡ fine a → AllDo all m ns cs
      → AllDo all m (a.first ∷ a.others) cs
  names_do m cs [] a h d = absurd (cc h)
  names_do m cs (n ∷ ns) a h d = subst (λ (b : plain.Adds). AllDo all m (b.first ∷ b.others) cs) (ok_is (record { first = n; others = ns }) a h) d

  some_children : (env : Environment) (ss : Steps) (s : Made) (r : plain.Adds × Made) → Fits env → AreFitSteps ss → IsSmall s
      → children_made add unit env ss s ≡ fine r
      → SomeChildren (children env ss) s r
  some_children env ss s r fits fit small h =
      let p = ok_parts (steps_made add unit env ss s) (λ x. on_fine (some_adds unit x.0) (λ a. fine (a, x.1))) r h in
      let q = ok_parts (some_adds unit p.0.0) (λ a. fine (a, p.0.1)) r p.2 in
      let c = steps_right env ss s p.0 fits fit small p.1 in
      let e = ok_is (q.0, p.0.1) r q.2 in
      subst (SomeChildren (children env ss) s) e (record {
        grew = c.grew;
        all_do = names_do p.0.1.units (children env ss) p.0.0 q.0 q.1 c.all_do;
      })

  split_is : (d : plain.Dealing) (ws : Option (List ℕ)) (units : plain.Program) (a : plain.Adds) (cs : List Child) (xs : List ℤ)
      → AllDo all units (a.first ∷ a.others) cs
      → body_works (all_work [] units) (plain.ASplitJoin d a ws) xs ≡ collected (weights_for ws (length cs))
      (side_by_side all cs (λ p. share_of d (length cs) p xs))
  split_is d ws units a cs xs h =
      let n = branch_count a in
      let e : n ≡ length cs = count_is units (a.first ∷ a.others) cs h in
      ap (collected (weights_for ws n)) (branched_is units a.first a.others cs (λ p. share_of d n p xs) h)
      ∙ ap (λ (k : ℕ). collected (weights_for ws k) (side_by_side all cs (λ p. share_of d k p xs))) e

  body_right : (ps : List Name) (zs : List ℤ) (b : Body) (s : Made) (r : plain.Body × Made) → AllFit zs → IsFine ps b → IsSmall s
      → body_made add unit (bound ps zs) b s ≡ fine r → BodyBy (bound ps zs) b s r
  body_right ps zs (AFilter t) s r fits ok small h =
      let env = bound ps zs in
      let made : plain.Body × Made = (plain.AFilter (plain_filter env t), s) in
      let p = ok_parts (demand (is_ranged_filter env t) unit Range) (λ x. fine made) r h in
      subst (BodyBy env (AFilter t) s) (ok_is made r p.2) (record {
        grew = grew_same s s refl refl;
        same = filter_same env (bound_fits ps zs fits) ps (none_bound ps zs) (rated env t) ok.fields ok.init (runs_spare env ps t ok);
      })
  body_right ps zs (APipeline ss) s r fits ok small h =
      let env = bound ps zs in
      let p = ok_parts (children_made add unit env ss s) (λ x. fine (plain.APipeline x.0, x.1)) r h in
      let c = some_children env ss s p.0 (bound_fits ps zs fits) ok small p.1 in
      subst (BodyBy env (APipeline ss) s) (ok_is (plain.APipeline p.0.0, p.0.1) r p.2) (record {
        grew = c.grew;
        same = λ xs. piped_is p.0.1.units p.0.0.first p.0.0.others (children env ss) xs c.all_do;
      })
  body_right ps zs (ASplitJoin d ss ws) s r fits ok small h =
      let env = bound ps zs in
      let made : plain.Adds × Made → plain.Body × Made = λ c. (plain.ASplitJoin (dealing env d) c.0 (option_counts env ws), c.1) in
      let f2 = λ (c : plain.Adds × Made). on_fine (demand (are_ranged_option env ws) unit Range) (λ y. fine (made c)) in
      let p = ok_parts (demand (is_ranged_dealing env d) unit Range) (λ x. on_fine (children_made add unit env ss s) f2) r h in
      let q = ok_parts (children_made add unit env ss s) f2 r p.2 in
      let w = ok_parts (demand (are_ranged_option env ws) unit Range) (λ y. fine (made q.0)) r q.2 in
      let c = some_children env ss s q.0 (bound_fits ps zs fits) ok small q.1 in
      subst (BodyBy env (ASplitJoin d ss ws) s) (ok_is (made q.0) r w.2) (record {
        grew = c.grew;
        same = λ xs. split_is (dealing env d) (option_counts env ws) q.0.1.units q.0.0 (children env ss) xs c.all_do;
      })

-- AN INSTANCE

-- an instance that is begun is counted, fewer than 1,024 were before, and no unit is made yet
pub begin_parts : (u : SourceUnit) (depth : ℕ) (s t : Made) → begin u depth s ≡ fine t → (s.begun < 1024) × (s.units ≡ t.units) × (t.begun ≡ suc s.begun)
begin_parts u depth s t h =
    let few = nat_lt s.begun 1024 in
    let rest = nat_le depth 64 && nat_le (s.bytes + u.bytes) 1048576 in
    let next : Made = record s { begun = suc s.begun; bytes = s.bytes + u.bytes } in
    let p = ok_parts (demand (few && rest) u.unit Budget) (λ x. fine next) t h in
    let b = and_parts few rest (demanded (few && rest) u.unit Budget p.0 p.1) in
    let e = ok_is next t p.2 in
    (below s.begun b.0, ap (λ m. m.units) e, sym (ap (λ m. m.begun) e))
  where
    below : (k : ℕ) → nat_lt k 1024 ≡ true → k < 1024
    below k h = grind (arith, h)

-- an instance is the last unit, and does this
pub record MadeBy (f : Works) (s : Made) (x : Name × Made) : Type 0 where
  pub before : plain.Program
  pub body : plain.Body
  pub units : x.1.units ≡ before ++ record { name = x.0; body = body } ∷ []
  pub same : (xs : List ℤ) → body_works (all_work [] before) body xs ≡ f xs
  pub grew : Grew s x.1
  pub number : number_in x.0 ≡ suc (length before)

-- the stream that is declared last is the newest
pub all_last : (before : plain.Program) (u : plain.UnitForm)
    → all_work [] (before ++ u ∷ []) ≡ (u.name, body_works (all_work [] before) u.body) ∷ all_work [] before
all_last before u = all_work-append before (u ∷ []) []

made_does : (f : Works) (s : Made) (x : Name × Made) → MadeBy f s x → Does x.1.units x.0 f
made_does f s x m =
    let u : plain.UnitForm = record { name = x.0; body = m.body } in
    subst (λ l. Does l x.0 f) (sym m.units) (record {
      number = let e = m.number in omega (arith, e, length-append m.before (u ∷ []));
      same =
          λ xs. ap (λ w. known_works w x.0 xs) (all_last m.before u)
          ∙ ap (λ o. or_same o xs) (look_here (x.0, body_works (all_work [] m.before) m.body) (all_work [] m.before) x.0 (name_same x.0))
          ∙ m.same xs;
    })

module _ (all : Streams) (add : Adding) (right : Right all add) where
  -- an instance under values does what its stream does under these values
  pub make_right : (u : SourceUnit) (depth : ℕ) (ps : List Name) (zs : List ℤ) (s : Made) (x : Name × Made) → AllFit zs → IsFine ps u.stream.body → IsSmall s
      → make add u depth (bound ps zs) s ≡ fine x → MadeBy (works_under all (bound ps zs) u.stream.body) s x
  make_right u depth ps zs s x fits ok small h =
      let env = bound ps zs in
      let b = u.stream.body in
      let end = λ (r : plain.Body × Made). fine (finish u r) in
      let p = ok_parts (begin u depth s) (λ t. on_fine (body_made add u.unit env b t) end) x h in
      let t = p.0 in
      let g = begin_parts u depth s t p.1 in
      let ok_t : IsSmall t = (let a = small.made in let l = ap length g.1 in record { made = omega (arith, a, l, g.2); few = omega (arith, g.0, g.2) }) in
      let q = ok_parts (body_made add u.unit env b t) end x p.2 in
      let c = body_right all add u.unit right ps zs b t q.0 fits ok ok_t q.1 in
      let ok_r = grew_small t q.0.1 c.grew ok_t in
      let k = length q.0.1.units in
      let name = instance_name u.stream.name (suc k) in
      let new : plain.UnitForm = record { name = name; body = q.0.0 } in
      let small_k : suc k < 2 ^ 64 = (let a = ok_r.made in let b = ok_r.few in omega (arith, a, b)) in
      let number : number_in name ≡ suc k = number_is u.stream.name (suc k) small_k in
      let all_units : q.0.1.units ≡ s.units ++ c.grew.more = c.grew.units ∙ ap (λ l. l ++ c.grew.more) (sym g.1) in
      let count : k ≡ length s.units + length c.grew.more = ap length all_units ∙ length-append s.units c.grew.more in
      subst (MadeBy (works_under all env b) s) (ok_is (finish u q.0) x q.2) (record {
        before = q.0.1.units;
        body = q.0.0;
        units = refl;
        same = c.same;
        number = number;
        grew = record {
          more = c.grew.more ++ new ∷ [];
          units = ap (λ l. l ++ new ∷ []) all_units ∙ append_assoc s.units c.grew.more (new ∷ []);
          numbered = numbered-append (length s.units) c.grew.more (new ∷ []) (subst (λ l. Numbered l c.grew.more) (sym (ap length g.1)) c.grew.numbered)
              (number ∙ ap suc count, tt);
          begun = let a = c.grew.begun in omega (arith, a, g.2, length-append c.grew.more (new ∷ []));
          few = λ e. c.grew.few ok_t.few;
        };
      })

either_right : (u : SourceUnit) (us : List SourceUnit) (depth : ℕ) (n : Name) (zs : List ℤ) (s : Made) (x : Name × Made) → AllFit zs
    → IsFine u.stream.params u.stream.body → IsSmall s
    → Right (stream_works (unit_streams us)) (instance us (suc depth)) → Right (stream_works (unit_streams us)) (instance us depth)
    → (b : Bool) → name_eq u.stream.name n ≡ b → instance (u ∷ us) depth n zs s ≡ fine x → AddsBy (stream_works (unit_streams (u ∷ us))) n zs s x
either_right u us depth n zs s x fits ok small below beside b e h = go b e
  where
    here : Bool → Result (Name × Made) Refusal
    here b = if b then make (instance us (suc depth)) u depth (bound u.stream.params zs) s else instance us depth n zs s

    does : Bool → List ℤ → List ℤ
    does b xs = if b then works_under (stream_works (unit_streams us)) (bound u.stream.params zs) u.stream.body xs else stream_works (unit_streams us) n zs xs

    go : (b : Bool) → name_eq u.stream.name n ≡ b → AddsBy (stream_works (unit_streams (u ∷ us))) n zs s x
    go true e =
        let m = make_right (stream_works (unit_streams us)) (instance us (suc depth)) below u depth u.stream.params zs s x fits ok small
        (sym (ap here e) ∙ h) in
        let d = made_does (works_under (stream_works (unit_streams us)) (bound u.stream.params zs) u.stream.body) s x m in
        record { grew = m.grew; does = record { number = d.number; same = λ xs. d.same xs ∙ sym (ap (λ b. does b xs) e) } }
    go false e =
        let a = beside n zs s x fits small (sym (ap here e) ∙ h) in
        record { grew = a.grew; does = record { number = a.does.number; same = λ xs. a.does.same xs ∙ sym (ap (λ b. does b xs) e) } }

-- so does what an `add` of these streams makes
pub instance_right : (us : List SourceUnit) (depth : ℕ) → AreFine us → Right (stream_works (unit_streams us)) (instance us depth)
instance_right [] depth ok n zs s x fits small h = absurd (cc h)
instance_right (u ∷ us) depth ok n zs s x fits small h =
    either_right u us depth n zs s x fits ok.0 small (instance_right us (suc depth) ok.1) (instance_right us depth ok.1) (name_eq u.stream.name n) refl h

-- THE PROGRAM

none : (ns : List Name) → AllDiffer [] ns
none [] = tt
none (n ∷ ns) = (tt, none ns)

mutual
  none_once : (c : Statement) → SparesOnce [] c
  none_once (Declare n t) = tt
  none_once (Assign n t) = tt
  none_once (Push t) = tt
  none_once Discard = tt
  none_once (If t a b) = (none_all a, none_optional b)
  none_once (For n low upto high b) = (tt, none_all b)

  none_all : (b : Block) → SparesAll [] b
  none_all source.End = tt
  none_all (source.Then c b) = (none_once c, none_all b)

  none_optional : (b : Optional) → SparesOptional [] b
  none_optional Unwritten = tt
  none_optional (Written b) = none_all b

none_prework : (o : Option ParamWork) → SparesPrework [] o
none_prework None = tt
none_prework (Some w) = none_all w.block

-- the plain program that is made means what the program with parameters means
pub elaboration_means : ElaborationMeans
elaboration_means [] m xs ok h = absurd (cc h)
elaboration_means (u ∷ us) m xs ok h =
    let all = stream_works (unit_streams us) in
    let p = ok_parts (make (instance us 2) u 1 [] nothing_made) (λ x. fine x.1) m h in
    let b = make_right all (instance us 2) (instance_right us 2 ok.1) u 1 [] [] nothing_made p.0 tt (top u.stream.body ok.0)
    (record { made = omega arith; few = omega arith }) p.1 in
    let new : plain.UnitForm = record { name = p.0.0; body = b.body } in
    ap (λ (r : Made). program_outputs r.units xs) (sym (ok_is p.0.1 m p.2))
    ∙ ap (λ l. program_outputs l xs) b.units
    ∙ ap (λ w. or_same (last_of w) xs) (all_last b.before new)
    ∙ b.same xs
  where
    -- without parameters every filter spares them
    top : (b : Body) → IsFine u.stream.params b → IsFine [] b
    top (AFilter t) g = record { fields = none t.fields; init = none_optional t.init; prework = none_prework t.prework; work = none_all t.work.block }
    top (APipeline ss) g = g
    top (ASplitJoin d ss ws) g = g
