-- What a text means is what is made of it, compiled.
use Rattle.std.proofs.Common.{◌≡◌, ℕ, ℤ, List, [], ◌∷◌, Result, Ok, Err, refl, sym, ap, ◌∙◌, subst, pos}
use Rattle.std.specs.Prelude.{map}
use Rattle.text_forms.specs.declared.text_fault.TextFault.TheVariants as text_fault
use Rattle.river_plan.specs.Forms.{PlanForm}
use Rattle.streamit_text.specs.Program as plain
use Rattle.streamit_model.specs.Laws.{as_items}
use Rattle.streamit_model.specs.Meaning.{program_outputs}
use Rattle.streamit_front.specs.Laws.{Has as HasPlain}
use Rattle.streamit_front.specs.Meaning as streamit
use Rattle.streamit_front.specs.declared.fault.StreamitFault.{StreamitFault}
use Rattle.streamit_front.specs.declared.fault.StreamitFault.TheVariants as inner
use Rattle.streamit_front.proofs.Fronts.{means_what_it_has as plain_means_what_it_has, plans_mean as plain_plans_mean, compiled-readable as plain-readable}
use Rattle.streamit_front.proofs.Accepting.{plans_in_turn as plain_plans_in_turn}
use Rattle.streamit_front.proofs.Printable.{plans_are_printable as plain_plans_are_printable}
use Rattle.streamit_build.specs.Readable.{AreReadable}
use Rattle.params_text.specs.Program.{ParamProgram}
use Rattle.params_text.specs.Toks.{plain_text}
use Rattle.params_model.specs.Meaning.{params_outputs}
use Rattle.params_model.proofs.MadeStands.{elaborated_stands}
use Rattle.params_model.proofs.Readable.{texts_are_written}
use Rattle.params_front.specs.Laws.{HasMade, Has, MeansWhatItHas, PlainMeans, PlansMean, PlansInTurn, PlansArePrintable}
use Rattle.params_front.specs.Meaning.{Elaboration, Accepted, elaboration, unit_in, source_unit, or_inner, then_compiled, compiled, WritesPlainText, Plans, Refused}
use Rattle.params_front.specs.Sizes.{sizes_of}
use Rattle.params_front.specs.declared.fault.ParamFault.{ParamFault}
use Rattle.params_front.specs.declared.fault.ParamFault.TheVariants.{Text, UnknownName, NameTwice, Arity, NotConstant, Top, Range, Empty, Budget, Inner}
use Rattle.params_front.proofs.Fronts.{elaboration_has}

abbrev plain_accepted : Accepted → streamit.Accepted
plain_accepted a = record { program = a.program; stream = a.stream }

-- ---- WHAT IS MADE OF A TEXT THAT IS ACCEPTED

-- what is made, and its plain text is accepted
pub record Parts (text : List ℕ) (a : Accepted) : Type 0 where
  pub made : Elaboration
  pub is : elaboration text ≡ Ok made
  pub tree : made.tree ≡ a.tree
  pub plain : streamit.compiled (plain_text made.made.units) ≡ Ok (plain_accepted a)

-- a text that is accepted has both
pub accepted-parts : (text : List ℕ) (a : Accepted) → compiled text ≡ Ok a → Parts text a
unfolding compiled
accepted-parts text a h = by (elaboration text) refl h where
  same : (x y : Accepted) → ◌≡◌ {A = Result Accepted ParamFault} (Ok x) (Ok y) → x ≡ y
  same x y h = cc

  inner-parts : (e : Elaboration) → elaboration text ≡ Ok e → (r : Result streamit.Accepted StreamitFault) → streamit.compiled (plain_text e.made.units) ≡ r
      → or_inner e r ≡ Ok a → Parts text a
  inner-parts e is (Ok b) j h =
      let s = same (record { tree = e.tree; program = b.program; stream = b.stream }) a h in
      record { made = e; is = is; tree = ap (λ (x : Accepted). x.tree) s; plain = j ∙ ap (λ (x : Accepted). Ok (plain_accepted x)) s }
  inner-parts e is (Err f) j h = absurd (cc h)

  by : (r : Result Elaboration ParamFault) → elaboration text ≡ r → then_compiled r ≡ Ok a → Parts text a
  by (Ok e) is h = inner-parts e is (streamit.compiled (plain_text e.made.units)) refl h
  by (Err f) is h = absurd (cc h)

-- the plain program is as the grammar sees to
pub compiled-readable : (text : List ℕ) (a : Accepted) → compiled text ≡ Ok a → AreReadable a.program
compiled-readable text a h =
    let p = accepted-parts text a h in
    plain-readable (plain_text p.made.made.units) (plain_accepted a) p.plain

-- the law: plain programs mean what their programs mean
pub plain_means : PlainMeans
plain_means text a xs h =
    let p = accepted-parts text a h in
    let m : HasMade text (Ok p.made) = (elaboration_has text (Ok p.made)).0 p.is in
    let w = texts_are_written text p.made.tree m.0 in
    let s = elaborated_stands p.made.tree (sizes_of m.0.marks) p.made.made w.0 w.1 m.1 in
    let t : HasPlain (plain_text p.made.made.units) (Ok (plain_accepted a)) =
    (plain_means_what_it_has (plain_text p.made.made.units) (Ok (plain_accepted a))).0 p.plain in
    s.1 a.program xs t.2 ∙ ap (λ (q : ParamProgram). params_outputs q xs) p.tree

-- the law: plans mean what their programs mean
pub plans_mean : PlansMean
plans_mean text a xs h =
    let p = accepted-parts text a h in
    let q = plain_plans_mean (plain_text p.made.made.units) (plain_accepted a) xs p.plain in
    (q.0, q.1 ∙ ap (λ (ys : List ℤ). record { outs = as_items ys ∷ []; tables = [] }) (plain_means text a xs h))

-- the law: plans declare in the order of first use
pub plans_in_turn : PlansInTurn
plans_in_turn text a h =
    let p = accepted-parts text a h in
    plain_plans_in_turn (plain_text p.made.made.units) (plain_accepted a) p.plain

-- the law: plans are within the bounds of River text
pub plans_are_printable : PlansArePrintable
plans_are_printable text a h =
    let p = accepted-parts text a h in
    plain_plans_are_printable (plain_text p.made.made.units) (plain_accepted a) p.plain

-- ---- THE LAW OF WHAT A TEXT MEANS

-- where nothing is made, that is told
nothing-has : (text : List ℕ) (f : ParamFault) → HasMade text (Err f) → Has text (Err f)
nothing-has text (Text refusal) h = h
nothing-has text (UnknownName unit) h = h
nothing-has text (NameTwice unit) h = h
nothing-has text (Arity unit) h = h
nothing-has text (NotConstant unit) h = h
nothing-has text (Top unit) h = h
nothing-has text (Range unit) h = h
nothing-has text (Empty unit) h = h
nothing-has text (Budget unit) h = h
nothing-has text (Inner unit fault) h = absurd h

means-has : (text : List ℕ) → Has text (compiled text)
unfolding compiled
means-has text = by (elaboration text) refl where
  inner-has : (e : Elaboration) → HasMade text (Ok e) → (r : Result streamit.Accepted StreamitFault) → HasPlain (plain_text e.made.units) r
      → Has text (or_inner e r)
  inner-has e m (Ok a) h = (e.made, m, h)
  inner-has e m (Err f) h = (e, m, h, refl)

  by : (r : Result Elaboration ParamFault) → elaboration text ≡ r → Has text (then_compiled r)
  by (Ok e) is =
      let plain = plain_text e.made.units in
      inner-has e ((elaboration_has text (Ok e)).0 is) (streamit.compiled plain) ((plain_means_what_it_has plain (streamit.compiled plain)).0 refl)
  by (Err f) is = nothing-has text f ((elaboration_has text (Err f)).0 is)

nothing-means : (text : List ℕ) (f : ParamFault) → HasMade text (Err f) → compiled text ≡ Err f
unfolding compiled
nothing-means text f h = ap then_compiled ((elaboration_has text (Err f)).1 h)

made-means : (text : List ℕ) (e : Elaboration) (r : Result streamit.Accepted StreamitFault) → HasMade text (Ok e) → HasPlain (plain_text e.made.units) r
    → compiled text ≡ or_inner e r
unfolding compiled
made-means text e r m h = ap then_compiled ((elaboration_has text (Ok e)).1 m) ∙ ap (or_inner e) ((plain_means_what_it_has (plain_text e.made.units) r).1 h)

has-means : (text : List ℕ) (meant : Result Accepted ParamFault) → Has text meant → compiled text ≡ meant
has-means text (Ok a) (m, made, h) = made-means text (record { tree = a.tree; made = m }) (Ok (plain_accepted a)) made h
has-means text (Err (Inner unit fault)) (e, made, h, is) = made-means text e (Err fault) made h ∙ ap (λ k. Err (Inner k fault)) (sym is)
has-means text (Err (Text refusal)) h = nothing-means text (Text refusal) h
has-means text (Err (UnknownName unit)) h = nothing-means text (UnknownName unit) h
has-means text (Err (NameTwice unit)) h = nothing-means text (NameTwice unit) h
has-means text (Err (Arity unit)) h = nothing-means text (Arity unit) h
has-means text (Err (NotConstant unit)) h = nothing-means text (NotConstant unit) h
has-means text (Err (Top unit)) h = nothing-means text (Top unit) h
has-means text (Err (Range unit)) h = nothing-means text (Range unit) h
has-means text (Err (Empty unit)) h = nothing-means text (Empty unit) h
has-means text (Err (Budget unit)) h = nothing-means text (Budget unit) h

-- the law: what a text means
pub means_what_it_has : MeansWhatItHas
means_what_it_has text meant = (λ e. subst (Has text) e (means-has text), has-means text meant)

-- ---- WHAT THE FRONT ANSWERS

-- the plain text is refused, and so is the text
pub inner-refused : (r : Result streamit.Accepted StreamitFault) (fault : StreamitFault) (unit : ℕ) (from : List ℤ) → (fault ≡ inner.Text text_fault.NoMemory → ⊥)
    → streamit.Refused r fault → ((units : List ℕ) → from ≡ map pos units → unit ≡ source_unit units (unit_in fault))
    → (e : Elaboration) → from ≡ map pos e.made.from → Refused (or_inner e r) (Inner unit fault)
inner-refused r fault unit from some told source e are = ap (or_inner e) (by fault some told)
    ∙ ap (λ k. Err (Inner k fault)) (sym (source e.made.from are)) where
      by : (f : StreamitFault) → (f ≡ inner.Text text_fault.NoMemory → ⊥) → streamit.Refused r f → r ≡ Err f
      by (inner.Text (text_fault.BadByte at)) s h = h
      by (inner.Text (text_fault.BigNumber at)) s h = h
      by (inner.Text (text_fault.Syntax unit)) s h = h
      by (inner.Text text_fault.NoMemory) s h = absurd (s refl)
      by (inner.UnknownName n) s h = h
      by (inner.NameTwice n) s h = h
      by (inner.Rates n declared counted) s h = h
      by (inner.PeekRange n index peek) s h = h
      by (inner.NotConstant n) s h = h
      by (inner.BranchRates n) s h = h
      by (inner.Limit n) s h = h
      by (inner.Weights n) s h = h

pub ruleset inners = (inner-refused)

-- the plan of the plain text is that of the text
pub made-plans : (text : List ℕ) (tree : ParamProgram) (plain_bytes : List ℕ) (from : List ℤ) (q : plain.Program) (plan : PlanForm)
    → WritesPlainText (elaboration text) tree plain_bytes from → streamit.Plans (streamit.compiled plain_bytes) q plan → Plans (compiled text) tree q plan
unfolding compiled
made-plans text tree plain_bytes from q plan (m, is, same, units) (s, accepted, made) =
    let e : Elaboration = record { tree = tree; made = m } in
    (s, ap then_compiled is ∙ ap (or_inner e) (ap streamit.compiled (sym same) ∙ accepted), made)

-- and so it gives what the text's program gives
pub plans-give : (text : List ℕ) (tree : ParamProgram) (q : plain.Program) (plan : PlanForm) → Plans (compiled text) tree q plan
    → (xs : List ℤ) → program_outputs q xs ≡ params_outputs tree xs
plans-give text tree q plan (s, is, made) xs = plain_means text (record { tree = tree; program = q; stream = s }) xs is

-- what is told where nothing is made
pub made-refused : (text : List ℕ) (f : ParamFault) → Refused (elaboration text) f → Refused (compiled text) f
unfolding compiled
made-refused text (Text (text_fault.BadByte at)) h = ap then_compiled h
made-refused text (Text (text_fault.BigNumber at)) h = ap then_compiled h
made-refused text (Text (text_fault.Syntax unit)) h = ap then_compiled h
made-refused text (Text text_fault.NoMemory) h = tt
made-refused text (UnknownName unit) h = ap then_compiled h
made-refused text (NameTwice unit) h = ap then_compiled h
made-refused text (Arity unit) h = ap then_compiled h
made-refused text (NotConstant unit) h = ap then_compiled h
made-refused text (Top unit) h = ap then_compiled h
made-refused text (Range unit) h = ap then_compiled h
made-refused text (Empty unit) h = ap then_compiled h
made-refused text (Budget unit) h = ap then_compiled h
made-refused text (Inner unit fault) h = ap then_compiled h

-- and where the plain text is refused
pub plain-refused : (text : List ℕ) (tree : ParamProgram) (plain_bytes : List ℕ) (from : List ℤ) (f : ParamFault)
    → WritesPlainText (elaboration text) tree plain_bytes from
    → ((e : Elaboration) → from ≡ map pos e.made.from → Refused (or_inner e (streamit.compiled plain_bytes)) f) → Refused (compiled text) f
unfolding compiled
plain-refused text tree plain_bytes from f (m, is, same, units) told =
    let e : Elaboration = record { tree = tree; made = m } in
    subst (λ (r : Result Accepted ParamFault). Refused r f) (sym (ap then_compiled is ∙ ap (λ l. or_inner e (streamit.compiled l)) (sym same))) (told e units)

pub ruleset compilings = (made-plans, plans-give, made-refused, plain-refused)
