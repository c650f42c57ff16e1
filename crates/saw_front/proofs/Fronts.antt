-- What a text of Sawzall means is what it has in the grammar, and what the front answers.
use Rattle.std.proofs.Common.{◌≡◌, ℕ, List, Result, Ok, Err, refl, sym, ap, ◌∙◌, subst}
use Rattle.text_tokens.specs.Cut.{units_of}
use Rattle.text_tokens.specs.Tok.{toks}
use Rattle.text_forms.specs.declared.text_fault.TextFault.{TextFault}
use Rattle.text_forms.specs.declared.text_fault.TextFault.TheVariants.{BadByte, BigNumber, Syntax, NoMemory}
use Rattle.work_code.specs.Steps.{Steps}
use Rattle.river_plan.specs.Forms.{PlanForm}
use Rattle.saw_model.specs.declared.fault.Fault as model
use Rattle.saw_model.specs.declared.fault.Fault.TheVariants as model_fault
use Rattle.saw_model.specs.declared.fault.Refusal.{Refusal}
use Rattle.saw_model.specs.Elaborate.{At}
use Rattle.saw_model.specs.Faults.{IsFaultOf}
use Rattle.saw_model.specs.Judged.{judged}
use Rattle.saw_model.specs.Shallow.{AreShallowUnits}
use Rattle.saw_model.proofs.Means.{translation_means}
use Rattle.saw_model.proofs.Refused.{refused_at_first}
use Rattle.saw_model.proofs.Valid.{plans_are_valid}
use Rattle.saw_text.specs.Faults.{HasFault, Refuses}
use Rattle.saw_text.specs.Grammar.{IsText}
use Rattle.saw_text.specs.Reading as reading
use Rattle.saw_text.specs.Tree.{UnitForm, program_of}
use Rattle.saw_text.specs.declared.tree.SawProgram.{SawProgram}
use Rattle.saw_text.proofs.Texts.{text-read, text-reads, text-faulty, faulty-told}
use Rattle.saw_front.specs.declared.fault.SawFault.{SawFault}
use Rattle.saw_front.specs.declared.fault.SawFault.TheVariants.{Text, UnknownName, NameTwice, Shape, Limit}
use Rattle.saw_front.specs.Laws.{HasProgramFault, Has, MeansWhatItHas, PlansMean}
use Rattle.saw_front.specs.Meaning.{Accepted, program_in, fault_at, or_fault, accepted, then_judged, compiled, Plans, Refused}
use Rattle.saw_front.specs.Planning.{PlansBy}
use Rattle.saw_front.specs.Valued.{AreValuedUnits}
use Rattle.saw_front.proofs.Readable.{units-fine}

-- ---- FROM THE GRAMMAR

-- a text that stands for units means what judging says
stands-means : (text : List ℕ) (us : List UnitForm) → IsText text us → compiled text ≡ accepted us
unfolding compiled
stands-means text us t = ap then_judged (text-reads text us t)

-- one that is not read means why
text-means : (text : List ℕ) (fault : TextFault) → HasFault text fault → compiled text ≡ Err (Text fault)
unfolding compiled
text-means text fault h = ap then_judged (faulty-told text fault h)

fault-means : (text : List ℕ) (fault : SawFault) → HasProgramFault text fault → compiled text ≡ Err fault
fault-means text fault (us, e, t, j, is) = stands-means text us t ∙ ap (or_fault us) ((refused_at_first us e).1 j) ∙ ap Err (sym is)

has-means : (text : List ℕ) (meant : Result Accepted SawFault) → Has text meant → compiled text ≡ meant
has-means text (Ok a) (t, j) = stands-means text a.units t ∙ ap (or_fault a.units) j
has-means text (Err (Text fault)) h = text-means text fault h
has-means text (Err (UnknownName unit)) h = fault-means text (UnknownName unit) h
has-means text (Err (NameTwice unit)) h = fault-means text (NameTwice unit) h
has-means text (Err (Shape unit)) h = fault-means text (Shape unit) h
has-means text (Err (Limit unit)) h = fault-means text (Limit unit) h

-- ---- TO THE GRAMMAR

fault-has : (text : List ℕ) (us : List UnitForm) (e : Refusal) → IsText text us → judged us ≡ Err e → Has text (Err (fault_at e.unit e.fault))
fault-has text us e t j = by e.fault refl where
  first : IsFaultOf us e.unit e.fault
  first = (refused_at_first us e).0 j

  by : (f : model.Fault) → e.fault ≡ f → Has text (Err (fault_at e.unit f))
  by model_fault.UnknownName is = (us, e, t, first, ap (fault_at e.unit) (sym is))
  by model_fault.NameTwice is = (us, e, t, first, ap (fault_at e.unit) (sym is))
  by model_fault.Shape is = (us, e, t, first, ap (fault_at e.unit) (sym is))
  by model_fault.Limit is = (us, e, t, first, ap (fault_at e.unit) (sym is))

accepted-has : (text : List ℕ) (us : List UnitForm) → IsText text us → Has text (accepted us)
accepted-has text us t = by (judged us) refl where
  by : (r : Result (Steps × At) Refusal) → judged us ≡ r → Has text (or_fault us r)
  by (Ok read) j = (t, j)
  by (Err e) j = fault-has text us e t j

means-has : (text : List ℕ) → Has text (compiled text)
unfolding compiled
means-has text = by (reading.program_in text) refl where
  by : (r : Result (List UnitForm) TextFault) → reading.program_in text ≡ r → Has text (then_judged r)
  by (Ok us) e = accepted-has text us (text-read text us e)
  by (Err fault) e = text-faulty text fault e

-- the law: what a text means is what it has in the grammar
pub means_what_it_has : MeansWhatItHas
means_what_it_has text meant = (λ e. subst (Has text) e (means-has text), has-means text meant)

-- what the grammar sees to
text-valued : (text : List ℕ) (us : List UnitForm) → IsText text us → AreValuedUnits us
text-valued text us t = (units-fine us (units_of (toks t.marks)) t.formed).0

text-shallow : (text : List ℕ) (us : List UnitForm) → IsText text us → AreShallowUnits us
text-shallow text us t = (units-fine us (units_of (toks t.marks)) t.formed).1

-- the law: plans mean what their programs mean
pub plans_mean : PlansMean
plans_mean text a records e =
    let h : Has text (Ok a) = subst (Has text) e (means-has text) in
    (plans_are_valid (program_in a) a.read (text-shallow text a.units h.0) h.1, translation_means (program_in a) a.read records h.1)

-- a program that is accepted is as the grammar and the judge see to
pub compiled-valued : (text : List ℕ) (a : Accepted) → compiled text ≡ Ok a → AreValuedUnits (program_in a)
compiled-valued text a e =
    let h : Has text (Ok a) = subst (Has text) e (means-has text) in
    text-valued text a.units h.0

-- and the judge reads it as its meaning says
pub compiled-judged : (text : List ℕ) (a : Accepted) → compiled text ≡ Ok a → judged (program_in a) ≡ Ok a.read
compiled-judged text a e =
    let h : Has text (Ok a) = subst (Has text) e (means-has text) in
    h.1

-- ---- WHAT THE FRONT ANSWERS

-- a program that was read is planned and told as its text is
pub read-planned : (text : List ℕ) (p : SawProgram) (plan : PlanForm) → IsText text (program_of p) → Plans (accepted (program_of p)) (program_of p) plan
    → Plans (compiled text) (program_of p) plan
read-planned text p plan t h = (h.0, stands-means text (program_of p) t ∙ h.1, h.2)

pub read-refused : (text : List ℕ) (p : SawProgram) (fault : SawFault) → IsText text (program_of p) → Refused (accepted (program_of p)) fault
    → Refused (compiled text) fault
read-refused text p fault t h = subst (λ (r : Result Accepted SawFault). Refused r fault) (sym (stands-means text (program_of p) t)) h

pub read-valued : (text : List ℕ) (p : SawProgram) → IsText text (program_of p) → AreValuedUnits (program_of p)
read-valued text p t = text-valued text (program_of p) t

pub read-shallow : (text : List ℕ) (p : SawProgram) → IsText text (program_of p) → AreShallowUnits (program_of p)
read-shallow text p t = text-shallow text (program_of p) t

-- a text that is not read has no plan, for this
pub text-refused : (text : List ℕ) (fault : TextFault) → Refuses text fault → Refused (compiled text) (Text fault)
text-refused text (BadByte at) h = text-means text (BadByte at) h.0
text-refused text (BigNumber at) h = text-means text (BigNumber at) h.0
text-refused text (Syntax unit) h = text-means text (Syntax unit) h.0
text-refused text NoMemory h = tt

pub ruleset fronts = (read-planned, read-refused, read-valued, read-shallow, text-refused)

-- the plan that was made of units is that of the program
pub plan-plans : (us : List UnitForm) (plan : PlanForm) → PlansBy (λ (q : PlanForm). q) (Ok plan) us (judged us) → Plans (accepted us) us plan
plan-plans us plan h = (h.0, ap (or_fault us) h.1, h.2)

pub ruleset plans = (plan-plans)
