-- What a River text means is what it has in the grammar, and what the front answers.
use Rattle.std.proofs.Common.{◌≡◌, ℕ, List, Option, Some, None, Result, Ok, Err, refl, sym, ap, ◌∙◌, subst}
use Rattle.river_plan.specs.Forms.{PlanForm}
use Rattle.river_plan.specs.Told.{fault_of, first_fault_found, IsTold}
use Rattle.river_plan.specs.Valid.{FirstFault, IsPlan}
use Rattle.river_plan.specs.declared.fault.PlanFault.{PlanFault}
use Rattle.river_plan.specs.declared.fault.PlanFault.TheVariants as plan
use Rattle.river_plan.proofs.JudgeLemmas.{fault_of-is}
use Rattle.river_plan.proofs.ValidLaw.{no_fault-valid, valid-no_fault}
use Rattle.text_forms.specs.declared.text_fault.TextFault.{TextFault}
use Rattle.text_forms.specs.declared.text_fault.TextFault.TheVariants.{BadByte, BigNumber, Syntax, NoMemory}
use Rattle.river_text.specs.Faults.{HasFault, Refuses}
use Rattle.river_text.specs.Laws.{Has, MeansWhatItHas}
use Rattle.river_text.specs.Meaning.{plan_in, checked, or_fault, then_checked, from_plan, Refused}
use Rattle.river_text.specs.Plans.{IsText, TextForm}
use Rattle.river_text.specs.ReadPlans.{lists_in}
use Rattle.river_text.specs.declared.river_fault.RiverFault.{RiverFault}
use Rattle.river_text.specs.declared.river_fault.RiverFault.TheVariants.{Text, Plan}
use Rattle.river_text.proofs.Texts.{text-read, text-reads, text-faulty, faulty-told}

-- ---- FROM THE GRAMMAR

-- a text that stands for lists means what their check says
pub stands-means : (text : List ℕ) (p : TextForm) → IsText text p → plan_in text ≡ checked p
unfolding plan_in
stands-means text p t = ap then_checked (text-reads text p t)

-- one that is not read means the fault that it has
faulty-means : (text : List ℕ) (fault : TextFault) → HasFault text fault → plan_in text ≡ Err (Text fault)
unfolding plan_in
faulty-means text fault h = ap then_checked (faulty-told text fault h)

valid-checked : (p : TextForm) → IsPlan p.plan → checked p ≡ Ok p
unfolding checked
valid-checked p valid = ap (or_fault p) (fault_of-is p.plan None (valid-no_fault p.plan valid))

fault-checked : (p : TextForm) (fault : PlanFault) → FirstFault p.plan (Some fault) → checked p ≡ Err (Plan fault)
unfolding checked
fault-checked p fault first = ap (or_fault p) (fault_of-is p.plan (Some fault) first)

has-means : (text : List ℕ) (meant : Result TextForm RiverFault) → Has text meant → plan_in text ≡ meant
has-means text (Ok p) h = stands-means text p h.0 ∙ valid-checked p h.1
has-means text (Err (Text fault)) h = faulty-means text fault h
has-means text (Err (Plan fault)) h = stands-means text h.0 h.1 ∙ fault-checked h.0 fault h.2

-- ---- TO THE GRAMMAR

checked-has : (text : List ℕ) (p : TextForm) → IsText text p → Has text (checked p)
unfolding checked
checked-has text p t = by (fault_of p.plan) (first_fault_found p.plan).1 where
  by : (o : Option PlanFault) → FirstFault p.plan o → Has text (or_fault p o)
  by None none = (t, no_fault-valid p.plan none)
  by (Some fault) first = (p, t, first)

means-has : (text : List ℕ) → Has text (plan_in text)
unfolding plan_in
means-has text = by (lists_in text) refl where
  by : (r : Result TextForm TextFault) → lists_in text ≡ r → Has text (then_checked r)
  by (Ok p) e = checked-has text p (text-read text p e)
  by (Err fault) e = text-faulty text fault e

-- the law: what is read is the grammar
pub means_what_it_has : MeansWhatItHas
means_what_it_has text meant = (λ e. subst (Has text) e (means-has text), has-means text meant)

-- ---- WHAT THE FRONT ANSWERS

-- a text that is not read has no plan, for this reason
pub unread-means : (text : List ℕ) (fault : TextFault) → Refuses text fault → Refused (plan_in text) (Text fault)
unread-means text (BadByte at) h = faulty-means text (BadByte at) h.0
unread-means text (BigNumber at) h = faulty-means text (BigNumber at) h.0
unread-means text (Syntax unit) h = faulty-means text (Syntax unit) h.0
unread-means text NoMemory h = tt

-- the lists of a text are checked
pub valid-means : (text : List ℕ) (t : TextForm) (q : PlanForm) → IsText text t → IsTold t.plan (Ok q) → plan_in text ≡ Ok (record { plan = q; caps = t.caps })
unfolding checked
valid-means text t q is told =
    stands-means text t is ∙ ap (or_fault t) told.1 ∙ ap (λ (p : PlanForm). Ok (record { plan = p; caps = t.caps })) (sym told.0)

told-means : (text : List ℕ) (t : TextForm) (fault : PlanFault) → IsText text t → fault_of t.plan ≡ Some fault → plan_in text ≡ Err (Plan fault)
unfolding checked
told-means text t fault is told = stands-means text t is ∙ ap (or_fault t) told

pub unfit-means : (text : List ℕ) (t : TextForm) (fault : PlanFault) → IsText text t → IsTold t.plan (Err fault) → Refused (plan_in text) (from_plan fault)
unfit-means text t (plan.P1 n) is told = told-means text t (plan.P1 n) is told
unfit-means text t (plan.P2 n) is told = told-means text t (plan.P2 n) is told
unfit-means text t (plan.P3 n) is told = told-means text t (plan.P3 n) is told
unfit-means text t (plan.P4 n) is told = told-means text t (plan.P4 n) is told
unfit-means text t (plan.P5 n) is told = told-means text t (plan.P5 n) is told
unfit-means text t (plan.P6 n) is told = told-means text t (plan.P6 n) is told
unfit-means text t (plan.P7 n) is told = told-means text t (plan.P7 n) is told
unfit-means text t (plan.P8 l n) is told = told-means text t (plan.P8 l n) is told
unfit-means text t (plan.P9 n) is told = told-means text t (plan.P9 n) is told
unfit-means text t plan.NoMemory is told = tt

pub ruleset fronts = (unread-means, valid-means, unfit-means)
