-- What a text of CQL means is what it has in the grammar, and what the front answers.
use Rattle.std.proofs.Common.{◌≡◌, ℕ, List, Option, Some, None, Result, Ok, Err, refl, sym, ap, ◌∙◌, subst, arith, [], ◌∷◌, length, ◌≤◌}
use Rattle.text_tokens.specs.Cut.{units_of}
use Rattle.text_tokens.specs.Tok.{Tok, toks}
use Rattle.text_tokens.proofs.Counts.{tokens-few, units-few}
use Rattle.text_forms.specs.declared.text_fault.TextFault.{TextFault}
use Rattle.text_forms.specs.declared.text_fault.TextFault.TheVariants.{BadByte, BigNumber, Syntax, NoMemory}
use Rattle.river_plan.specs.Forms.{PlanForm}
use Rattle.cql_model.specs.Judged.{refusal_of, AreSpoken, HaveShortNames}
use Rattle.cql_model.specs.declared.fault.Fault as model
use Rattle.cql_model.specs.declared.fault.Fault.TheVariants as model_fault
use Rattle.cql_model.specs.declared.fault.Refusal.{Refusal}
use Rattle.cql_model.specs.Plan.{plan_of}
use Rattle.cql_text.specs.Faults.{HasFault, Refuses}
use Rattle.cql_text.specs.Grammar.{IsText, AreUnits}
use Rattle.cql_text.specs.Reading.{program_in}
use Rattle.cql_text.specs.Tree.{UnitForm}
use Rattle.cql_front.proofs.Spoken.{spoken, shortened}
use Rattle.cql_text.proofs.Texts.{text-read, text-reads, text-faulty, faulty-told}
use Rattle.cql_model.proofs.Accepted.{accepted_are_valid, accepted_mean}
use Rattle.cql_model.proofs.Judged.{refusals_are, accepted_are, unit_low}
use Rattle.cql_front.specs.declared.fault.CqlFault.{CqlFault}
use Rattle.cql_front.specs.declared.fault.CqlFault.TheVariants.{Text, UnknownStream, UnknownField, AmbiguousField, NameTwice, Limit}
use Rattle.cql_front.specs.Laws.{HasRefusal, Has, MeansWhatItHas, PlansMean}
use Rattle.cql_front.specs.Meaning.{fault_at, unless_refused, accepted, then_judged, compiled, Plans, Refused}

-- ---- FROM THE GRAMMAR

-- a text that stands for a program means what judging says
stands-means : (text : List ℕ) (p : List UnitForm) → IsText text p → compiled text ≡ accepted p
unfolding compiled
stands-means text p t = ap then_judged (text-reads text p t)

-- one that is not read means the fault that it has
faulty-means : (text : List ℕ) (fault : TextFault) → HasFault text fault → compiled text ≡ Err (Text fault)
unfolding compiled
faulty-means text fault h = ap then_judged (faulty-told text fault h)

fault-means : (text : List ℕ) (fault : CqlFault) → HasRefusal text fault → compiled text ≡ Err fault
fault-means text fault h = stands-means text h.program h.stands ∙ ap (unless_refused h.program) ((refusals_are h.program h.refusal).1 h.refused) ∙ ap Err (sym h.is)

has-means : (text : List ℕ) (meant : Result (List UnitForm) CqlFault) → Has text meant → compiled text ≡ meant
has-means text (Ok p) h = stands-means text p h.0 ∙ ap (unless_refused p) ((accepted_are p).1 h.1)
has-means text (Err (Text fault)) h = faulty-means text fault h
has-means text (Err (UnknownStream unit)) h = fault-means text (UnknownStream unit) h
has-means text (Err (UnknownField unit)) h = fault-means text (UnknownField unit) h
has-means text (Err (AmbiguousField unit)) h = fault-means text (AmbiguousField unit) h
has-means text (Err (NameTwice unit)) h = fault-means text (NameTwice unit) h
has-means text (Err (Limit unit)) h = fault-means text (Limit unit) h

-- ---- TO THE GRAMMAR

fault-has : (text : List ℕ) (p : List UnitForm) (r : Refusal) → IsText text p → refusal_of p ≡ Some r → Has text (Err (fault_at r.unit r.fault))
fault-has text p r t j = by r.fault refl where
  has : (f : model.Fault) → r.fault ≡ f → HasRefusal text (fault_at r.unit f)
  has f is = record { program = p; refusal = r; stands = t; refused = (refusals_are p r).0 j; is = ap (fault_at r.unit) (sym is) }

  by : (f : model.Fault) → r.fault ≡ f → Has text (Err (fault_at r.unit f))
  by model_fault.UnknownStream is = has model_fault.UnknownStream is
  by model_fault.UnknownField is = has model_fault.UnknownField is
  by model_fault.AmbiguousField is = has model_fault.AmbiguousField is
  by model_fault.NameTwice is = has model_fault.NameTwice is
  by model_fault.Limit is = has model_fault.Limit is

accepted-has : (text : List ℕ) (p : List UnitForm) → IsText text p → Has text (accepted p)
accepted-has text p t = by (refusal_of p) refl where
  by : (o : Option Refusal) → refusal_of p ≡ o → Has text (unless_refused p o)
  by None j = (t, (accepted_are p).0 j)
  by (Some r) j = fault-has text p r t j

means-has : (text : List ℕ) → Has text (compiled text)
unfolding compiled
means-has text = by (program_in text) refl where
  by : (r : Result (List UnitForm) TextFault) → program_in text ≡ r → Has text (then_judged r)
  by (Ok p) e = accepted-has text p (text-read text p e)
  by (Err fault) e = text-faulty text fault e

-- the law: a text means what it has
pub means_what_it_has : MeansWhatItHas
means_what_it_has text meant = ((λ e. subst (Has text) e (means-has text)), has-means text meant)

-- the law: the plan of a text's program is valid, and means what the program means
pub plans_mean : PlansMean
plans_mean text p e =
    let h : Has text (Ok p) = subst (Has text) e (means-has text) in
    let s = spoken p (units_of (toks h.0.marks)) h.0.formed in
    (accepted_are_valid p s h.1, λ files are. accepted_mean p files s h.1 are)

-- ---- WHAT THE FRONT ANSWERS

-- a program that was read is planned and refused as its text is
pub read-planned : (text : List ℕ) (p : List UnitForm) (plan : PlanForm) → IsText text p → Plans (accepted p) p plan → Plans (compiled text) p plan
read-planned text p plan t h = record { accepted = stands-means text p t ∙ h.accepted; planned = h.planned }

-- a program that is refused is refused as its text is
pub read-refused : (text : List ℕ) (p : List UnitForm) (fault : CqlFault) → IsText text p → Refused (accepted p) fault → Refused (compiled text) fault
read-refused text p fault t h = subst (λ (r : Result (List UnitForm) CqlFault). Refused r fault) (sym (stands-means text p t)) h

-- what was read has what the grammar gives
pub read-spoken : (text : List ℕ) (p : List UnitForm) → IsText text p → AreSpoken p
read-spoken text p t = spoken p (units_of (toks t.marks)) t.formed

-- and its names are short
pub read-short : (text : List ℕ) (p : List UnitForm) → IsText text p → HaveShortNames p
read-short text p t = shortened p (units_of (toks t.marks)) t.formed

parts-many : (p : List UnitForm) (units : List (List Tok)) → AreUnits p units → length p ≡ length units
parts-many [] [] h = refl
parts-many [] (u ∷ us) h = absurd h
parts-many (p ∷ ps) [] h = absurd h
parts-many (p ∷ ps) (u ∷ us) h = let m = parts-many ps us h.1 in omega (arith, m)

-- a program has no more units than its text has bytes
pub read-few : (text : List ℕ) (p : List UnitForm) → IsText text p → length p ≤ length text
read-few text p t =
    let m = parts-many p (units_of (toks t.marks)) t.formed in
    let f = units-few t.marks in
    let b = tokens-few text t.marks t.lexed in
    omega (arith, m, f, b)

-- a text that is not read means the fault that is told
pub read-faulty : (text : List ℕ) (fault : TextFault) → Refuses text fault → Refused (compiled text) (Text fault)
read-faulty text (BadByte at) h = faulty-means text (BadByte at) h.0
read-faulty text (BigNumber at) h = faulty-means text (BigNumber at) h.0
read-faulty text (Syntax unit) h = faulty-means text (Syntax unit) h.0
read-faulty text NoMemory h = tt

pub ruleset fronts = (read-planned, read-refused, read-spoken, read-short, read-faulty)

-- a program that is not refused is the one that is meant, and this is its plan
pub planned-plans : (p : List UnitForm) (plan : PlanForm) → refusal_of p ≡ None → plan ≡ plan_of p → Plans (accepted p) p plan
planned-plans p plan e is = record { accepted = ap (unless_refused p) e; planned = is }

-- the unit of a refusal is one of the program
pub planned-low : (p : List UnitForm) (r : Refusal) → refusal_of p ≡ Some r → r.unit ≤ length p
planned-low p r e = unit_low p r e

-- a program that is refused means the fault
pub planned-refused : (p : List UnitForm) (r : Refusal) → refusal_of p ≡ Some r → accepted p ≡ Err (fault_at r.unit r.fault)
planned-refused p r e = ap (unless_refused p) e

pub ruleset plans = (planned-plans, planned-refused)
