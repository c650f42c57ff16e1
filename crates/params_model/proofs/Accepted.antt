-- Programs that are accepted: no filter declares or assigns a parameter.
use Rattle.std.proofs.Common.{◌≡◌, ℕ, suc, Bool, true, false, not, ◌||◌, Option, Some, None, Ok, Err, List, [], ◌∷◌, ◌++◌, length, reverse, refl, sym, ap, ◌∙◌, subst}
use Rattle.std.proofs.lemmas.List.{reverse-append, map-append}
use Rattle.river_base.proofs.Lists.{reverse-cons}
use Rattle.river_base.specs.Name.{name_eq}
use Rattle.river_plan.specs.Forms.{Name}
use Rattle.streamit_text.specs.Tree.{Statement, Declare, Assign, Push, Discard, If, For, Block, Optional, Unwritten, Written}
use Rattle.streamit_text.specs.Tree as block
use Rattle.params_text.specs.Params.{is_one_of}
use Rattle.params_text.specs.Program.{ParamWork, ParamFilter, Body, AFilter, APipeline, ASplitJoin, ParamProgram}
use Rattle.params_model.specs.Meaning.{last_works}
use Rattle.params_model.specs.declared.fault.Fault.{Fault}
use Rattle.params_model.specs.declared.fault.Fault.TheVariants.{NameTwice, NotConstant}
use Rattle.params_model.specs.Making.{on_fine, demand, SourceUnit, last_made}
use Rattle.params_model.specs.Judged.{Judgement, judged_then, new_names, other_names, statement_judged, block_judged, optional_judged, rates_judged, work_judged, prework_judged, filter_judged, Above, body_judged, unit_judged, units_judged, top_judged, numbered_from, source_units, tail_of}
use Rattle.params_model.specs.Laws.{Differs, AllDiffer, SparesOnce, SparesAll, SparesOptional, SparesPrework, SparesFilter, IsFine, AreFine, unit_streams, IsFitBody, IsFitProgram, ElaboratedMeans}
use Rattle.params_model.proofs.Instances.{fine, ok_parts, demanded, elaboration_means}

both : (a b : Judgement) (u : Unit {0}) → judged_then a b ≡ fine u → (a ≡ fine tt) × (b ≡ fine u)
both (Ok x) b u h = (refl, h)
both (Err e) b u h = absurd (cc h)

neither : (a b : Bool) → not (a || b) ≡ true → (a ≡ false) × (not b ≡ true)
neither true b h = absurd (cc h)
neither false b h = (refl, h)

differs : (ps : List Name) (n : Name) → not (is_one_of ps n) ≡ true → Differs ps n
differs [] n h = tt
differs (p ∷ ps) n h = let r = neither (name_eq p n) (is_one_of ps n) h in (r.0, differs ps n r.1)

differs_by : (ps : List Name) (n : Name) (unit : ℕ) (e : Fault) (u : Unit {0}) → demand (not (is_one_of ps n)) unit e ≡ fine u → Differs ps n
differs_by ps n unit e u h = differs ps n (demanded (not (is_one_of ps n)) unit e u h)

fields_differ : (unit : ℕ) (ps ns : List Name) (u : Unit {0}) → other_names unit ps ns ≡ fine u → AllDiffer ps ns
fields_differ unit ps [] u h = tt
fields_differ unit ps (n ∷ ns) u h =
    let p = both (demand (not (is_one_of ps n)) unit NameTwice) (other_names unit ps ns) u h in
    (differs_by ps n unit NameTwice tt p.0, fields_differ unit ps ns u p.1)

mutual
  once_spares : (unit : ℕ) (ps : List Name) (c : Statement) (u : Unit {0}) → statement_judged unit ps c ≡ fine u → SparesOnce ps c
  once_spares unit ps (Declare n t) u h = differs_by ps n unit NameTwice u h
  once_spares unit ps (Assign n t) u h = differs_by ps n unit NotConstant u h
  once_spares unit ps (Push t) u h = tt
  once_spares unit ps Discard u h = tt
  once_spares unit ps (If t a b) u h =
      let p = both (block_judged unit ps a) (optional_judged unit ps b) u h in
      (all_spares unit ps a tt p.0, optional_spares unit ps b u p.1)
  once_spares unit ps (For n low upto high b) u h =
      let p = both (demand (not (is_one_of ps n)) unit NameTwice) (block_judged unit ps b) u h in
      (differs_by ps n unit NameTwice tt p.0, all_spares unit ps b u p.1)

  all_spares : (unit : ℕ) (ps : List Name) (b : Block) (u : Unit {0}) → block_judged unit ps b ≡ fine u → SparesAll ps b
  all_spares unit ps block.End u h = tt
  all_spares unit ps (block.Then c b) u h =
      let p = both (statement_judged unit ps c) (block_judged unit ps b) u h in
      (once_spares unit ps c tt p.0, all_spares unit ps b u p.1)

  optional_spares : (unit : ℕ) (ps : List Name) (b : Optional) (u : Unit {0}) → optional_judged unit ps b ≡ fine u → SparesOptional ps b
  optional_spares unit ps Unwritten u h = tt
  optional_spares unit ps (Written b) u h = all_spares unit ps b u h

work_spares : (unit : ℕ) (ps : List Name) (w : ParamWork) (u : Unit {0}) → work_judged unit ps w ≡ fine u → SparesAll ps w.block
work_spares unit ps w u h = all_spares unit ps w.block u (both (rates_judged unit ps w) (block_judged unit ps w.block) u h).1

prework_spares : (unit : ℕ) (ps : List Name) (o : Option ParamWork) (u : Unit {0}) → prework_judged unit ps o ≡ fine u → SparesPrework ps o
prework_spares unit ps None u h = tt
prework_spares unit ps (Some w) u h = work_spares unit ps w u h

filter_spares : (unit : ℕ) (ps : List Name) (t : ParamFilter) (u : Unit {0}) → filter_judged unit ps t ≡ fine u → SparesFilter ps t
filter_spares unit ps t u h =
    let p = both (other_names unit ps t.fields) _ u h in
    let q = both (optional_judged unit ps t.init) _ u p.1 in
    let r = both (prework_judged unit ps t.prework) (work_judged unit ps t.work) u q.1 in
    record {
      fields = fields_differ unit ps t.fields tt p.0;
      init = optional_spares unit ps t.init tt q.0;
      prework = prework_spares unit ps t.prework tt r.0;
      work = work_spares unit ps t.work u r.1;
    }

body_fine : (unit : ℕ) (above : Above) (ps : List Name) (b : Body) (u : Unit {0}) → IsFitBody b → body_judged unit above ps b ≡ fine u → IsFine ps b
body_fine unit above ps (AFilter t) u fit h = filter_spares unit ps t u h
body_fine unit above ps (APipeline ss) u fit h = fit
body_fine unit above ps (ASplitJoin d ss ws) u fit h = fit

-- units that are judged without a fault are fine, numbered from the same number on
pub units_fine : (k : ℕ) (above : Above) (p : ParamProgram) (sizes : List ℕ) (u : Unit {0}) → IsFitProgram p → units_judged k above p ≡ fine u
    → AreFine (numbered_from k p sizes)
units_fine k above [] sizes u fit h = tt
units_fine k above (d ∷ ds) sizes u fit h =
    let p = both (unit_judged k above d) (units_judged (suc k) ((d.name, length d.params) ∷ above) ds) u h in
    let q = both (demand _ k NameTwice) _ tt p.0 in
    let r = both (new_names k [] d.params) (body_judged k above d.params d.body) tt q.1 in
    (body_fine k above d.params d.body tt fit.0 r.1, units_fine (suc k) ((d.name, length d.params) ∷ above) ds (tail_of sizes) u fit.1 p.1)

fine_append : (us vs : List SourceUnit) → AreFine us → AreFine vs → AreFine (us ++ vs)
fine_append [] vs h g = g
fine_append (u ∷ us) vs h g = (h.0, fine_append us vs h.1 g)

-- the streams of turned units are their streams, turned
pub map-reverse : (us : List SourceUnit) → unit_streams (reverse us) ≡ reverse (unit_streams us)
map-reverse [] = refl
map-reverse (u ∷ us) =
    ap unit_streams (reverse-append (u ∷ []) us) ∙ map-append (λ u. u.stream) (reverse us) (u ∷ []) ∙ ap (λ l. l ++ u.stream ∷ []) (map-reverse us)
    ∙ sym (reverse-append (u.stream ∷ []) (unit_streams us))

-- fine units are fine when turned
pub fine_reverse : (us : List SourceUnit) → AreFine us → AreFine (reverse us)
fine_reverse [] h = tt
fine_reverse (u ∷ us) h = subst AreFine (sym (reverse-cons u us)) (fine_append (reverse us) (u ∷ []) (fine_reverse us h.1) (h.0, tt))

-- the streams of a numbered program are the program
pub streams_are : (k : ℕ) (p : ParamProgram) (sizes : List ℕ) → unit_streams (numbered_from k p sizes) ≡ p
streams_are k [] sizes = refl
streams_are k (u ∷ us) sizes = ap (λ l. u ∷ l) (streams_are (suc k) us (tail_of sizes))

-- what is elaborated of a program means what the program means
pub elaborated_means : ElaboratedMeans
elaborated_means p sizes m xs fit h =
    let us = source_units p sizes in
    let a = ok_parts (units_judged 1 [] p) (λ x. on_fine (top_judged us) (λ y. last_made us)) m h in
    let b = ok_parts (top_judged us) (λ y. last_made us) m a.2 in
    elaboration_means us m xs (fine_reverse (numbered_from 1 p sizes) (units_fine 1 [] p sizes a.0 fit a.1)) b.2
    ∙ ap (λ l. last_works l xs) (map-reverse (numbered_from 1 p sizes) ∙ ap reverse (streams_are 1 p sizes))
