-- What is made of a program with parameters can be written out.
use Rattle.std.proofs.Common.{◌≡◌, ℕ, suc, ℤ, pos, Bool, true, false, Option, Some, None, Ok, Result, ◌<◌, ◌≤◌, List, [], ◌∷◌, ◌++◌, length, map, reverse, refl, sym, ap, ◌∙◌, subst, arith, nat_lt}
use Rattle.std.specs.Prelude.{if◌then◌else◌, ◌&&◌}
use Rattle.std.proofs.lemmas.Bool.{and_parts}
use Rattle.river_base.proofs.Lists.{reverse-cons}
use Rattle.river_base.specs.Name.{name_eq}
use Rattle.river_plan.specs.Forms.{Name}
use Rattle.streamit_text.specs.Tree.{Expression}
use Rattle.streamit_model.specs.Meaning.{turns_between}
use Rattle.streamit_text.specs.Program as plain
use Rattle.streamit_model.specs.Meaning.{program_outputs}
use Rattle.streamit_text.specs.Grammar.{IsSome}
use Rattle.params_text.specs.Program.{Step, Add, Loop, Steps, End, Then, Dealing, Copies, Turns, Body, AFilter, APipeline, ASplitJoin}
use Rattle.params_model.specs.Environment.{Environment, bound, value, counts_in, option_counts, dealing}
use Rattle.params_model.specs.Meaning.{Streams, stream_works, last_works}
use Rattle.params_model.specs.Plain.{instance_name, plain_filter}
use Rattle.params_model.specs.declared.fault.Fault.TheVariants.{Budget, Range}
use Rattle.params_model.specs.declared.fault.Refusal.{Refusal}
use Rattle.params_model.specs.Making.{on_fine, demand, SourceUnit, Made, nothing_made, begin, turn, is_ranged, are_ranged, are_ranged_option}
use Rattle.params_model.specs.Making.{is_ranged_dealing, is_ranged_filter, Adding, Added, also}
use Rattle.params_model.specs.Making.{turns_made, made_once, steps_made, some_adds, children_made, body_made, finish, make, instance, last_made}
use Rattle.params_model.specs.Laws.{IsFine, AreFine, IsFitStep, AreFitSteps, unit_streams}
use Rattle.params_model.proofs.Values.{Fits, AllFit, bound_fits, values_fit, small}
use Rattle.params_model.proofs.Instances.{fine, ok_is, ok_parts, demanded, also_parts, AllAtMost, turns_small, IsSmall, grew_small, Right, begin_parts, make_right, instance_right, elaboration_means}
use Rattle.params_text.specs.Told.{IsOwnName, AreOwnNames, AreToldAdds, AreToldNumbers, AreToldWeights, IsToldDealing, IsToldBody, IsToldProgram}
use Rattle.params_model.specs.Written.{IsWrittenBody, IsWrittenUnit, IsWrittenProgram, AreWritten}
use Rattle.params_model.specs.Judged.{units_judged, top_judged, numbered_from, source_units, tail_of}
use Rattle.params_text.specs.Program.{ParamProgram}
use Rattle.params_model.proofs.Accepted.{fine_reverse, units_fine, streams_are, map-reverse}
use Rattle.params_model.specs.Laws.{MadeStands, ElaboratedStands}
use Rattle.params_model.proofs.Names.{instance_own}
use Rattle.params_model.proofs.Puts.{filter_told, ranged_count}
use Rattle.params_text.proofs.Texts.{text_stands}

told-append : (us vs : plain.Program) → IsToldProgram us → IsToldProgram vs → IsToldProgram (us ++ vs)
told-append [] vs h g = g
told-append (u ∷ us) vs h g = (h.0, told-append us vs h.1 g)

own-append : (ns ms : List Name) → AreOwnNames ns → AreOwnNames ms → AreOwnNames (ns ++ ms)
own-append [] ms h g = g
own-append (n ∷ ns) ms h g = (h.0, own-append ns ms h.1 g)

-- all units that were made can be written out, and they are few
pub record IsFit (s : Made) : Type 0 where
  pub told : IsToldProgram s.units
  pub few : IsSmall s

pub record NameFit (x : Name × Made) : Type 0 where
  pub own : IsOwnName x.0
  pub fit : IsFit x.1

pub record NamesFit (x : List Name × Made) : Type 0 where
  pub own : AreOwnNames x.0
  pub fit : IsFit x.1

abbrev pub Fitting : Adding → Type 0
Fitting add = (n : Name) (zs : List ℤ) (s : Made) (x : Name × Made) → AllFit zs → IsFit s → add n zs s ≡ fine x → NameFit x

also_fit : (a : Added) (f : Made → Added) (r : List Name × Made) → ((x : List Name × Made) → a ≡ fine x → NamesFit x)
    → ((t : Made) (y : List Name × Made) → IsFit t → f t ≡ fine y → NamesFit y) → also a f ≡ fine r → NamesFit r
also_fit a f r first later h =
    let p = also_parts a f r h in
    let g = first p.0 p.2 in
    let k = later p.0.1 p.1 g.fit p.3 in
    subst NamesFit (sym p.4) (record { own = own-append p.0.0 p.1.0 g.own k.own; fit = k.fit })

module _ (add : Adding) (unit : ℕ) (fitting : Fitting add) where
  turn_fit : (s t : Made) → IsFit s → turn unit s ≡ fine t → IsFit t
  turn_fit s t g h =
      let p = ok_parts (demand (nat_lt s.turns 65536) unit Budget) (λ x. fine (record s { turns = suc s.turns })) t h in
      let e = ok_is (record s { turns = suc s.turns }) t p.2 in
      subst IsFit e (record { told = g.told; few = record { made = g.few.made; few = g.few.few } })

  turns_fit : (f : ℕ → Made → Added) (m : ℕ) → ((v : ℕ) (s : Made) (r : List Name × Made) → v ≤ m → IsFit s → f v s ≡ fine r → NamesFit r)
      → (vs : List ℕ) (s : Made) (r : List Name × Made) → AllAtMost m vs → IsFit s → turns_made unit f vs s ≡ fine r → NamesFit r
  turns_fit f m one [] s r le g h = subst NamesFit (ok_is ([], s) r h) (record { own = tt; fit = g })
  turns_fit f m one (v ∷ vs) s r le g h =
      let p = ok_parts (turn unit s) (λ t. also (f v t) (turns_made unit f vs)) r h in
      let k = turn_fit s p.0 g p.1 in
      also_fit (f v p.0) (turns_made unit f vs) r (λ x e. one v p.0 x le.0 k e) (λ t y w e. turns_fit f m one vs t y le.1 w e) p.2

  mutual
    once_fit : (env : Environment) (c : Step) (s : Made) (r : List Name × Made) → Fits env → IsFitStep c → IsFit s → made_once add unit env c s ≡ fine r
        → NamesFit r
    once_fit env (Add n cs) s r fits fit g h =
        let p = ok_parts (add n (map (value env) cs) s) (λ x. fine (x.0 ∷ [], x.1)) r h in
        let a = fitting n (map (value env) cs) s p.0 (values_fit env cs fits fit) g p.1 in
        subst NamesFit (ok_is (p.0.0 ∷ [], p.0.1) r p.2) (record { own = (a.own, tt); fit = a.fit })
    once_fit env (Loop n low upto high ss) s r fits fit g h =
        let f = λ (v : ℕ). steps_made add unit ((n, pos v) ∷ env) ss in
        let p = ok_parts (demand (is_ranged (value env low) && is_ranged (value env high)) unit Range)
        (λ x. turns_made unit f (turns_between (value env low) upto (value env high)) s) r h in
        let b = and_parts (is_ranged (value env low)) (is_ranged (value env high)) (demanded _ unit Range p.0 p.1) in
        turns_fit f 65536
        (λ v t y le ok e. steps_fit ((n, pos v) ∷ env) ss t y (small v (omega (arith, le)), fits) fit ok e)
        (turns_between (value env low) upto (value env high)) s r (turns_small (value env low) (value env high) upto b.1 b.0) g p.2

    steps_fit : (env : Environment) (ss : Steps) (s : Made) (r : List Name × Made) → Fits env → AreFitSteps ss → IsFit s
        → steps_made add unit env ss s ≡ fine r → NamesFit r
    steps_fit env End s r fits fit g h = subst NamesFit (ok_is ([], s) r h) (record { own = tt; fit = g })
    steps_fit env (Then c ss) s r fits fit g h =
        also_fit (made_once add unit env c s) (steps_made add unit env ss) r (λ x e. once_fit env c s x fits fit.0 g e)
        (λ t y k e. steps_fit env ss t y fits fit.1 k e) h

  record AddsFit (r : plain.Adds × Made) : Type 0 where
    told : AreToldAdds r.0
    fit : IsFit r.1

  adds_told : (ns : List Name) (a : plain.Adds) → some_adds unit ns ≡ fine a → AreOwnNames ns → AreToldAdds a
  adds_told [] a h g = absurd (cc h)
  adds_told (n ∷ ns) a h g = subst AreToldAdds (ok_is (record { first = n; others = ns }) a h) g

  children_fit : (env : Environment) (ss : Steps) (s : Made) (r : plain.Adds × Made) → Fits env → AreFitSteps ss → IsFit s
      → children_made add unit env ss s ≡ fine r → AddsFit r
  children_fit env ss s r fits fit g h =
      let p = ok_parts (steps_made add unit env ss s) (λ x. on_fine (some_adds unit x.0) (λ a. fine (a, x.1))) r h in
      let q = ok_parts (some_adds unit p.0.0) (λ a. fine (a, p.0.1)) r p.2 in
      let c = steps_fit env ss s p.0 fits fit g p.1 in
      subst AddsFit (ok_is (q.0, p.0.1) r q.2) (record { told = adds_told p.0.0 q.0 q.1 c.own; fit = c.fit })

  counts_told : (env : Environment) (cs : List Expression) → are_ranged env cs ≡ true → AreToldNumbers (counts_in env cs)
  counts_told env [] h = tt
  counts_told env (c ∷ cs) h =
      let p = and_parts (is_ranged (value env c)) (are_ranged env cs) h in
      (let e = ranged_count [] [] tt (value env c) p.0 in omega (arith, e), counts_told env cs p.1)

  weights_told : (env : Environment) (ws : Option (List Expression)) → are_ranged_option env ws ≡ true → AreToldWeights (option_counts env ws)
  weights_told env None h = tt
  weights_told env (Some cs) h = counts_told env cs h

  dealing_told : (env : Environment) (d : Dealing) → is_ranged_dealing env d ≡ true → IsToldDealing (dealing env d)
  dealing_told env Copies h = tt
  dealing_told env (Turns ws) h = weights_told env ws h

  record BodyFit (r : plain.Body × Made) : Type 0 where
    told : IsToldBody r.0
    fit : IsFit r.1

  body_fit : (ps : List Name) (zs : List ℤ) (b : Body) (s : Made) (r : plain.Body × Made) → AllFit zs → IsFine ps b → IsWrittenBody ps b → IsFit s
      → body_made add unit (bound ps zs) b s ≡ fine r → BodyFit r
  body_fit ps zs (AFilter t) s r fits ok w g h =
      let env = bound ps zs in
      let made : plain.Body × Made = (plain.AFilter (plain_filter env t), s) in
      let p = ok_parts (demand (is_ranged_filter env t) unit Range) (λ x. fine made) r h in
      subst BodyFit (ok_is made r p.2) (record { told = filter_told ps zs fits t w (demanded (is_ranged_filter env t) unit Range p.0 p.1); fit = g })
  body_fit ps zs (APipeline ss) s r fits ok w g h =
      let env = bound ps zs in
      let p = ok_parts (children_made add unit env ss s) (λ x. fine (plain.APipeline x.0, x.1)) r h in
      let c = children_fit env ss s p.0 (bound_fits ps zs fits) ok g p.1 in
      subst BodyFit (ok_is (plain.APipeline p.0.0, p.0.1) r p.2) (record { told = c.told; fit = c.fit })
  body_fit ps zs (ASplitJoin d ss ws) s r fits ok w g h =
      let env = bound ps zs in
      let made : plain.Adds × Made → plain.Body × Made = λ c. (plain.ASplitJoin (dealing env d) c.0 (option_counts env ws), c.1) in
      let f2 = λ (c : plain.Adds × Made). on_fine (demand (are_ranged_option env ws) unit Range) (λ y. fine (made c)) in
      let p = ok_parts (demand (is_ranged_dealing env d) unit Range) (λ x. on_fine (children_made add unit env ss s) f2) r h in
      let q = ok_parts (children_made add unit env ss s) f2 r p.2 in
      let v = ok_parts (demand (are_ranged_option env ws) unit Range) (λ y. fine (made q.0)) r q.2 in
      let c = children_fit env ss s q.0 (bound_fits ps zs fits) ok g q.1 in
      subst BodyFit (ok_is (made q.0) r v.2) (record {
        told = (
          dealing_told env d (demanded (is_ranged_dealing env d) unit Range p.0 p.1),
          c.told,
          weights_told env ws (demanded (are_ranged_option env ws) unit Range v.0 v.1),
        );
        fit = c.fit;
      })

-- AN INSTANCE

module _ (all : Streams) (add : Adding) (right : Right all add) (fitting : Fitting add) where
  make_fit : (u : SourceUnit) (depth : ℕ) (ps : List Name) (zs : List ℤ) (s : Made) (x : Name × Made) → AllFit zs → IsFine ps u.stream.body
      → IsWrittenUnit u.stream
      → IsWrittenBody ps u.stream.body → IsFit s → make add u depth (bound ps zs) s ≡ fine x → NameFit x
  make_fit u depth ps zs s x fits ok w wb g h =
      let env = bound ps zs in
      let b = u.stream.body in
      let end = λ (r : plain.Body × Made). fine (finish u r) in
      let p = ok_parts (begin u depth s) (λ t. on_fine (body_made add u.unit env b t) end) x h in
      let t = p.0 in
      let d = begin_parts u depth s t p.1 in
      let few_t : IsSmall t = (let a = g.few.made in let l = ap length d.1 in record { made = omega (arith, a, l, d.2); few = omega (arith, d.0, d.2) }) in
      let q = ok_parts (body_made add u.unit env b t) end x p.2 in
      let c = body_fit add u.unit fitting ps zs b t q.0 fits ok wb (record { told = subst IsToldProgram d.1 g.told; few = few_t }) q.1 in
      let k = length q.0.1.units in
      let name = instance_name u.stream.name (suc k) in
      let new : plain.UnitForm = record { name = name; body = q.0.0 } in
      let small_k : suc k < 10000 = (let a = c.fit.few.made in let b = c.fit.few.few in omega (arith, a, b)) in
      let own : IsOwnName name = instance_own u.stream.name (suc k) w.name w.short small_k in
      let e = ok_is (finish u q.0) x q.2 in
      let m = make_right all add right u depth ps zs s x fits ok g.few h in
      record {
        own = subst (λ (y : Name × Made). IsOwnName y.0) e own;
        fit = record {
          told = subst (λ (y : Name × Made). IsToldProgram y.1.units) e (told-append q.0.1.units (new ∷ []) c.fit.told ((own, c.told), tt));
          few = grew_small s x.1 m.grew g.few;
        };
      }

either_fit : (u : SourceUnit) (us : List SourceUnit) (depth : ℕ) (n : Name) (zs : List ℤ) (s : Made) (x : Name × Made) → AllFit zs
    → IsFine u.stream.params u.stream.body
    → IsWrittenUnit u.stream → IsFit s → Right (stream_works (unit_streams us)) (instance us (suc depth)) → Fitting (instance us (suc depth))
    → Fitting (instance us depth)
    → (b : Bool) → name_eq u.stream.name n ≡ b → instance (u ∷ us) depth n zs s ≡ fine x → NameFit x
either_fit u us depth n zs s x fits ok w g right below beside b e h = go b e
  where
    here : Bool → Result (Name × Made) Refusal
    here b = if b then make (instance us (suc depth)) u depth (bound u.stream.params zs) s else instance us depth n zs s

    go : (b : Bool) → name_eq u.stream.name n ≡ b → NameFit x
    go true e =
        make_fit (stream_works (unit_streams us)) (instance us (suc depth)) right below u depth u.stream.params zs s x fits ok w w.body g (sym (ap here e) ∙ h)
    go false e = beside n zs s x fits g (sym (ap here e) ∙ h)

instance_fit : (us : List SourceUnit) (depth : ℕ) → AreFine us → AreWritten us → Fitting (instance us depth)
instance_fit [] depth ok w n zs s x fits g h = absurd (cc h)
instance_fit (u ∷ us) depth ok w n zs s x fits g h =
    either_fit u us depth n zs s x fits ok.0 w.0 g (instance_right us (suc depth) ok.1) (instance_fit us (suc depth) ok.1 w.1) (instance_fit us depth ok.1 w.1)
    (name_eq u.stream.name n) refl h

-- THE PROGRAM

some_append : (us : plain.Program) (u : plain.UnitForm) → IsSome (us ++ u ∷ [])
some_append [] u = tt
some_append (v ∷ us) u = tt

-- what is made has a unit, and can be told as a text
pub made_told : (us : List SourceUnit) (m : Made) → AreFine us → AreWritten us → last_made us ≡ Ok m → IsSome m.units × IsToldProgram m.units
made_told [] m ok w h = absurd (cc h)
made_told (u ∷ us) m ok w h =
    let all = stream_works (unit_streams us) in
    let p = ok_parts (make (instance us 2) u 1 [] nothing_made) (λ x. fine x.1) m h in
    let few : IsSmall nothing_made = record { made = omega arith; few = omega arith } in
    let e = ok_is p.0.1 m p.2 in
    let f = make_fit all (instance us 2) (instance_right us 2 ok.1) (instance_fit us 2 ok.1 w.1) u 1 u.stream.params [] nothing_made p.0 tt ok.0 w.0 w.0.body
    (record { told = tt; few = few }) (top u.stream.params p.1) in
    let b = make_right all (instance us 2) (instance_right us 2 ok.1) u 1 u.stream.params [] nothing_made p.0 tt ok.0 few (top u.stream.params p.1) in (
      subst (λ (r : Made). IsSome r.units) e (subst IsSome (sym b.units) (some_append b.before (record { name = p.0.0; body = b.body }))),
      subst (λ (r : Made). IsToldProgram r.units) e f.fit.told,
    )
  where
    none : (ps : List Name) → bound ps [] ≡ []
    none [] = refl
    none (p ∷ ps) = refl

    top : (ps : List Name) {x : Name × Made} → make (instance us 2) u 1 [] nothing_made ≡ fine x → make (instance us 2) u 1 (bound ps []) nothing_made ≡ fine x
    top ps k = ap (λ env. make (instance us 2) u 1 env nothing_made) (none ps) ∙ k

-- the text that is written out stands for the program
pub made_stands : MadeStands
made_stands us m ok w h =
    let t = made_told us m ok w h in
    let s = text_stands m.units t.0 t.1 in
    (s.0, λ q xs k. ap (λ p. program_outputs p xs) (s.1 q k) ∙ elaboration_means us m xs ok h)

written_append : (us vs : List SourceUnit) → AreWritten us → AreWritten vs → AreWritten (us ++ vs)
written_append [] vs h g = g
written_append (u ∷ us) vs h g = (h.0, written_append us vs h.1 g)

written_reverse : (us : List SourceUnit) → AreWritten us → AreWritten (reverse us)
written_reverse [] h = tt
written_reverse (u ∷ us) h = subst AreWritten (sym (reverse-cons u us)) (written_append (reverse us) (u ∷ []) (written_reverse us h.1) (h.0, tt))

units_written : (k : ℕ) (p : ParamProgram) (sizes : List ℕ) → IsWrittenProgram p → AreWritten (numbered_from k p sizes)
units_written k [] sizes h = tt
units_written k (u ∷ us) sizes h = (h.0, units_written (suc k) us (tail_of sizes) h.1)

-- the text of what is made stands for it, and each program that it stands for means the same
pub elaborated_stands : ElaboratedStands
elaborated_stands p sizes m fit w h =
    let us = source_units p sizes in
    let a = ok_parts (units_judged 1 [] p) (λ x. on_fine (top_judged us) (λ y. last_made us)) m h in
    let b = ok_parts (top_judged us) (λ y. last_made us) m a.2 in
    let s = made_stands us m (fine_reverse (numbered_from 1 p sizes) (units_fine 1 [] p sizes a.0 fit a.1))
    (written_reverse (numbered_from 1 p sizes) (units_written 1 p sizes w)) b.2 in (
      s.0,
      λ q xs k. s.1 q xs k ∙ ap (λ l. last_works l xs) (map-reverse (numbered_from 1 p sizes) ∙ ap reverse (streams_are 1 p sizes)),
    )
