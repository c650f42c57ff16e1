-- What a text of StreamIt means is what it has in the grammar, and what the front answers.
use Rattle.std.proofs.Common.{◌≡◌, ℕ, suc, ◌<◌, ◌≤◌, List, [], ◌∷◌, length, Result, Ok, Err, refl, sym, ap, ◌∙◌, subst}
use Rattle.std.proofs.Common.{arith}
use Rattle.text_tokens.specs.Cut.{units_of as cut_units}
use Rattle.text_tokens.specs.Tok.{Tok, toks}
use Rattle.river_plan.specs.Forms.{PlanForm}
use Rattle.streamit_model.specs.declared.fault.Fault as model
use Rattle.streamit_model.specs.declared.fault.Fault.TheVariants as model_fault
use Rattle.streamit_model.specs.Unrolled.{Stream}
use Rattle.streamit_text.specs.Program.{Program}
use Rattle.streamit_model.specs.Shallow.{AreShallowUnits}
use Rattle.streamit_model.specs.Judged.{Streamed, on_fine, in_unit, unit_of, all_streams, few_operators, judged}
use Rattle.streamit_model.specs.declared.fault.Refusal.{Refusal}
use Rattle.streamit_model.specs.Faults.{IsFaultOf}
use Rattle.streamit_model.proofs.Programs.{programs_mean}
use Rattle.streamit_model.proofs.Refused.{refusals_are}
use Rattle.streamit_build.specs.Readable.{AreReadable}
use Rattle.streamit_build.specs.Planned.{PlansBy}
use Rattle.streamit_text.specs.Grammar.{AreUnits, IsText, IsSome}
use Rattle.streamit_text.specs.Reading as reading
use Rattle.streamit_text.specs.Faults as faults
use Rattle.text_forms.specs.declared.text_fault.TextFault.{TextFault}
use Rattle.text_forms.specs.declared.text_fault.TextFault.TheVariants.{BadByte, BigNumber, Syntax, NoMemory}
use Rattle.text_tokens.proofs.Counts.{tokens-few, units-few}
use Rattle.streamit_text.proofs.Texts.{text-read, text-reads, text-faulty, faulty-told}
use Rattle.streamit_front.specs.declared.fault.StreamitFault.{StreamitFault}
use Rattle.streamit_front.specs.declared.fault.StreamitFault.TheVariants.{Text, UnknownName, NameTwice, Rates, PeekRange, NotConstant, BranchRates, Limit}
use Rattle.streamit_front.specs.declared.fault.StreamitFault.TheVariants.{Weights}
use Rattle.streamit_front.specs.Laws.{HasProgramFault, Has, MeansWhatItHas, PlansMean}
use Rattle.streamit_front.specs.Meaning.{Accepted, fault_at, or_fault, accepted, then_judged, compiled, Plans, Refused}
use Rattle.streamit_front.proofs.Readable.{units-fine}

-- ---- FROM THE GRAMMAR

-- a text that stands for a program means what judging says
pub stands-means : (text : List ℕ) (p : Program) → IsText text p → compiled text ≡ accepted p
unfolding compiled
stands-means text p t = ap then_judged (text-reads text p t)

-- one that is not read means the fault that it has
faulty-means : (text : List ℕ) (fault : TextFault) → faults.HasFault text fault → compiled text ≡ Err (Text fault)
unfolding compiled
faulty-means text fault h = ap then_judged (faulty-told text fault h)

fault-means : (text : List ℕ) (fault : StreamitFault) → HasProgramFault text fault → compiled text ≡ Err fault
fault-means text fault (p, unit, f, t, first, is) = stands-means text p t ∙ ap (or_fault p) ((refusals_are p unit f).1 first) ∙ ap Err (sym is)

has-means : (text : List ℕ) (meant : Result Accepted StreamitFault) → Has text meant → compiled text ≡ meant
has-means text (Ok a) (name, others, t, j) = stands-means text a.program t ∙ ap (or_fault a.program) j
has-means text (Err (Text fault)) h = faulty-means text fault h
has-means text (Err (UnknownName unit)) h = fault-means text (UnknownName unit) h
has-means text (Err (NameTwice unit)) h = fault-means text (NameTwice unit) h
has-means text (Err (Rates unit declared counted)) h = fault-means text (Rates unit declared counted) h
has-means text (Err (PeekRange unit index peek)) h = fault-means text (PeekRange unit index peek) h
has-means text (Err (NotConstant unit)) h = fault-means text (NotConstant unit) h
has-means text (Err (BranchRates unit)) h = fault-means text (BranchRates unit) h
has-means text (Err (Limit unit)) h = fault-means text (Limit unit) h
has-means text (Err (Weights unit)) h = fault-means text (Weights unit) h

-- ---- TO THE GRAMMAR

-- a program has a stream
abbrev pub HasStream : Streamed → Type 0
HasStream [] = ⊥
HasStream (e ∷ others) = Unit {0}

-- a program that is accepted has one
abbrev pub AllHave : Result Streamed Refusal → Type 0
AllHave (Ok known) = HasStream known
AllHave (Err e) = Unit {0}

streams-have : (k : ℕ) (known : Streamed) (p : Program) → HasStream known → AllHave (all_streams k known p)
streams-have k known [] h = h
streams-have k known (u ∷ us) h = by (unit_of known u) (λ s. streams-have (suc k) ((u.name, s) ∷ known) us tt) where
  by : (r : Result Stream model.Fault) → ((s : Stream) → AllHave (all_streams (suc k) ((u.name, s) ∷ known) us))
      → AllHave (in_unit k r (λ s. all_streams (suc k) ((u.name, s) ∷ known) us))
  by (Ok s) more = more s
  by (Err f) more = tt

first-have : (p : Program) → IsSome p → AllHave (all_streams 1 [] p)
first-have [] some = absurd some
first-have (u ∷ us) some = by (unit_of [] u) where
  by : (r : Result Stream model.Fault) → AllHave (in_unit 1 r (λ s. all_streams 2 ((u.name, s) ∷ []) us))
  by (Ok s) = streams-have 2 ((u.name, s) ∷ []) us tt
  by (Err f) = tt

-- judging a program of a unit or more gives a stream, or a fault
pub judged-have : (p : Program) → IsSome p → AllHave (judged p)
judged-have p some = by (all_streams 1 [] p) (first-have p some) where
  limited : (k : ℕ) (known : Streamed) (r : Result (Unit {0}) model.Fault) → HasStream known → AllHave (in_unit k r (λ u. Ok known))
  limited k known (Ok u) h = h
  limited k known (Err f) h = tt

  by : (r : Result Streamed Refusal) → AllHave r → AllHave (on_fine r (λ known. in_unit (length p) (few_operators known) (λ u. Ok known)))
  by (Ok known) h = limited (length p) known (few_operators known) h
  by (Err e) h = tt

fault-has : (text : List ℕ) (p : Program) (e : Refusal) → IsText text p → judged p ≡ Err e → Has text (Err (fault_at e.unit e.fault))
fault-has text p e t j = by e.fault ((refusals_are p e.unit e.fault).0 j) where
  by : (f : model.Fault) → IsFaultOf p e.unit f → Has text (Err (fault_at e.unit f))
  by model_fault.UnknownName first = (p, e.unit, model_fault.UnknownName, t, first, refl)
  by model_fault.NameTwice first = (p, e.unit, model_fault.NameTwice, t, first, refl)
  by (model_fault.Rates declared counted) first = (p, e.unit, model_fault.Rates declared counted, t, first, refl)
  by (model_fault.PeekRange index peek) first = (p, e.unit, model_fault.PeekRange index peek, t, first, refl)
  by model_fault.NotConstant first = (p, e.unit, model_fault.NotConstant, t, first, refl)
  by model_fault.BranchRates first = (p, e.unit, model_fault.BranchRates, t, first, refl)
  by model_fault.Limit first = (p, e.unit, model_fault.Limit, t, first, refl)
  by model_fault.Weights first = (p, e.unit, model_fault.Weights, t, first, refl)

accepted-has : (text : List ℕ) (p : Program) → IsText text p → Has text (accepted p)
accepted-has text p t = by (judged p) refl (judged-have p t.some) where
  by : (r : Result Streamed Refusal) → judged p ≡ r → AllHave r → Has text (or_fault p r)
  by (Ok []) j h = absurd h
  by (Ok (newest ∷ others)) j h = (newest.0, others, t, j)
  by (Err e) j h = fault-has text p e t j

means-has : (text : List ℕ) → Has text (compiled text)
unfolding compiled
means-has text = by (reading.program_in text) refl where
  by : (r : Result Program TextFault) → reading.program_in text ≡ r → Has text (then_judged r)
  by (Ok p) e = accepted-has text p (text-read text p e)
  by (Err fault) e = text-faulty text fault e

-- the law: what a text means is what it has in the grammar
pub means_what_it_has : MeansWhatItHas
means_what_it_has text meant = (λ e. subst (Has text) e (means-has text), has-means text meant)

-- the law: plans mean what their programs mean
pub plans_mean : PlansMean
plans_mean text a xs e =
    let h : Has text (Ok a) = subst (Has text) e (means-has text) in
    programs_mean a.program h.0 a.stream h.1 xs (units-fine a.program (cut_units (toks h.2.marks)) h.2.formed).1 h.3

-- a program that is accepted is as the grammar sees to
pub compiled-readable : (text : List ℕ) (a : Accepted) → compiled text ≡ Ok a → AreReadable a.program
compiled-readable text a e =
    let h : Has text (Ok a) = subst (Has text) e (means-has text) in
    (units-fine a.program (cut_units (toks h.2.marks)) h.2.formed).0

-- ---- WHAT THE FRONT ANSWERS

-- a program that was read is planned and told as its text is
pub read-planned : (text : List ℕ) (p : Program) (plan : PlanForm) → IsText text p → Plans (accepted p) p plan → Plans (compiled text) p plan
read-planned text p plan e h = (h.0, stands-means text p e ∙ h.1, h.2)

-- a program that is refused is refused as its text is
pub read-refused : (text : List ℕ) (p : Program) (fault : StreamitFault) → IsText text p → Refused (accepted p) fault → Refused (compiled text) fault
read-refused text p fault e h = subst (λ (r : Result Accepted StreamitFault). Refused r fault) (sym (stands-means text p e)) h

-- what was read is as the grammar sees to
pub read-readable : (text : List ℕ) (p : Program) → IsText text p → AreReadable p
read-readable text p e = (units-fine p (cut_units (toks e.marks)) e.formed).0

-- and not too deep
pub read-shallow : (text : List ℕ) (p : Program) → IsText text p → AreShallowUnits p
read-shallow text p e = (units-fine p (cut_units (toks e.marks)) e.formed).1

-- it has a unit
pub read-some : (text : List ℕ) (p : Program) → IsText text p → 0 < length p
read-some text p e = by p e.some where
  by : (us : Program) → IsSome us → 0 < length us
  by [] h = absurd h
  by (u ∷ us) h = omega arith

-- a text that is not read means the fault that is told
pub read-faulty : (text : List ℕ) (fault : TextFault) → faults.Refuses text fault → Refused (compiled text) (Text fault)
read-faulty text (BadByte at) h = faulty-means text (BadByte at) h.0
read-faulty text (BigNumber at) h = faulty-means text (BigNumber at) h.0
read-faulty text (Syntax unit) h = faulty-means text (Syntax unit) h.0
read-faulty text NoMemory h = tt

-- a program has as many declarations as its text has units
formed-few : (p : Program) (units : List (List Tok)) → AreUnits p units → length p ≡ length units
formed-few [] [] h = refl
formed-few [] (u ∷ us) h = absurd h
formed-few (d ∷ ds) [] h = absurd h
formed-few (d ∷ ds) (u ∷ us) h = ap suc (formed-few ds us h.1)

-- a text has no more declarations than bytes
pub read-few : (text : List ℕ) (p : Program) → IsText text p → length p ≤ length text
read-few text p e =
    let same = formed-few p (cut_units (toks e.marks)) e.formed in
    let few = units-few e.marks in
    let marks = tokens-few text e.marks e.lexed in
    omega (arith, same, few, marks)

pub ruleset fronts = (read-planned, read-refused, read-readable, read-shallow, read-faulty)

-- the plan that was made of judged units is the program's
pub planned-plans : (p : Program) (plan : PlanForm) → PlansBy (λ q. q) (Ok plan) (judged p) → Plans (accepted p) p plan
planned-plans p plan h = (h.1, ap (or_fault p) h.3, h.4)

pub ruleset plans = (planned-plans)
