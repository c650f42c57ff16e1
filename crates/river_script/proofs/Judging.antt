-- What the steps of a script answer, by the conditions of each.
use Rattle.std.proofs.Common.{◌≡◌, ◌↔◌, ℕ, suc, ◌+◌, List, [], ◌∷◌, ◌++◌, length, refl, sym, ap, ◌∙◌, subst, arith}
use Rattle.std.specs.Prelude.{Result, Ok, Err}
use Rattle.river_plan.specs.Forms.{PlanForm}
use Rattle.river_plan.specs.Valid.{IsPlan}
use Rattle.plan_edits.specs.declared.unfit.Unfit.{Unfit}
use Rattle.plan_edits.specs.Judged.{IsFirstToFail, IsJudgedBy}
use Rattle.rw_local.proofs.FuseJudged.{fusion_is_judged}
use Rattle.rw_local.proofs.HoistJudged.{hoisting_is_judged}
use Rattle.rw_fission.proofs.FissionJudged.{fission_is_judged}
use Rattle.river_script.specs.Judged.{StepFails, StepMakes, Accepts, StepsLeadTo, JudgesSteps, ScriptIsJudged}
use Rattle.river_script.specs.Script.{StepForm, fusing, hoisting, splitting, after_step, then_all, script_from}
use Rattle.river_script.proofs.Steps.{step_keeps}

step_judged : (p : PlanForm) (s : StepForm) (made : Result PlanForm Unfit) → IsPlan p
    → (after_step p s ≡ made) ↔ IsJudgedBy (StepFails p s) (StepMakes p s) made
step_judged p (fusing q) made v = fusion_is_judged p q made v
step_judged p (hoisting l) made v = hoisting_is_judged p l made v
step_judged p (splitting l n) made v = fission_is_judged p l n made v

-- the same where the first step has number n
record Refused (n : ℕ) (p : PlanForm) (ss : List StepForm) (step : ℕ) (why : Unfit) : Type 0 where
  done : List StepForm
  here : StepForm
  others : List StepForm
  steps : ss ≡ done ++ here ∷ others
  number : step ≡ length done + n
  last : PlanForm
  leads : StepsLeadTo p done last
  fails : IsFirstToFail (StepFails last here) why

abbrev Judged : ℕ → PlanForm → List StepForm → Result PlanForm (ℕ × Unfit) → Type 0
Judged n p ss (Ok q) = StepsLeadTo p ss q
Judged n p ss (Err f) = Refused n p ss f.0 f.1

-- TO THE CONDITIONS

later : (n : ℕ) (p p' : PlanForm) (s : StepForm) (ss : List StepForm) (r : Result PlanForm (ℕ × Unfit)) → Accepts p s p' → Judged (suc n) p' ss r
    → Judged n p (s ∷ ss) r
later n p p' s ss (Ok q) a j = (p', a, j)
later n p p' s ss (Err f) a j =
    let k = j.number in
    record {
      done = s ∷ j.done;
      here = j.here;
      others = j.others;
      steps = ap (λ l. s ∷ l) j.steps;
      number = omega (arith, k);
      last = j.last;
      leads = (p', a, j.leads);
      fails = j.fails;
    }

one_step : (n : ℕ) (p : PlanForm) (s : StepForm) (ss : List StepForm) (r : Result PlanForm Unfit) → IsPlan p → after_step p s ≡ r
    → ((p' : PlanForm) → IsPlan p' → Judged (suc n) p' ss (script_from (suc n) p' ss))
    → Judged n p (s ∷ ss) (then_all n r (λ q. script_from (suc n) q ss))
one_step n p s ss (Ok p') v e more =
    later n p p' s ss (script_from (suc n) p' ss) ((step_judged p s (Ok p') v).0 e) (more p' (step_keeps p p' s v e).0)
one_step n p s ss (Err f) v e more = record {
  done = [];
  here = s;
  others = ss;
  steps = refl;
  number = omega arith;
  last = p;
  leads = refl;
  fails = (step_judged p s (Err f) v).0 e;
}

all_steps : (n : ℕ) (p : PlanForm) (ss : List StepForm) → IsPlan p → Judged n p ss (script_from n p ss)
all_steps n p [] v = refl
all_steps n p (s ∷ ss) v = one_step n p s ss (after_step p s) v refl (λ p' w. all_steps (suc n) p' ss w)

-- BACK

accepted_is : (p p' : PlanForm) (s : StepForm) → IsPlan p → Accepts p s p' → after_step p s ≡ Ok p'
accepted_is p p' s v a = (step_judged p s (Ok p') v).1 a

leads_is : (n : ℕ) (p q : PlanForm) (ss : List StepForm) → IsPlan p → StepsLeadTo p ss q → script_from n p ss ≡ Ok q
leads_is n p q [] v h = ap (λ x. Ok x) h
leads_is n p q (s ∷ ss) v h =
    let e = accepted_is p h.0 s v h.1 in
    ap (λ r. then_all n r (λ x. script_from (suc n) x ss)) e ∙ leads_is (suc n) h.0 q ss (step_keeps p h.0 s v e).0 h.2

refused_is : (n : ℕ) (p last : PlanForm) (done : List StepForm) (here : StepForm) (others : List StepForm) (step : ℕ) (why : Unfit) → IsPlan p
    → step ≡ length done + n
    → StepsLeadTo p done last
    → IsFirstToFail (StepFails last here) why
    → script_from n p (done ++ here ∷ others) ≡ Err (step, why)
refused_is n p last [] here others step why v k h f =
    let e : after_step p here ≡ Err why = (step_judged p here (Err why) v).1 (subst (λ x. IsFirstToFail (StepFails x here) why) (sym h) f) in
    let same : n ≡ step = omega (arith, k) in
    ap (λ r. then_all n r (λ x. script_from (suc n) x others)) e ∙ ap (λ m. Err (m, why)) same
refused_is n p last (s ∷ done) here others step why v k h f =
    let e = accepted_is p h.0 s v h.1 in
    ap (λ r. then_all n r (λ x. script_from (suc n) x (done ++ here ∷ others))) e
    ∙ refused_is (suc n) h.0 last done here others step why (step_keeps p h.0 s v e).0 (omega (arith, k)) h.2 f

-- steps give what their conditions say
pub script_is_judged : ScriptIsJudged
script_is_judged p ss made v = ((λ e. to made (subst (Judged 1 p ss) e (all_steps 1 p ss v))), back made)
  where
    to : (made : Result PlanForm (ℕ × Unfit)) → Judged 1 p ss made → JudgesSteps p ss made
    to (Ok q) j = j
    to (Err f) j = record {
      done = j.done;
      here = j.here;
      others = j.others;
      steps = j.steps;
      number = j.number;
      last = j.last;
      leads = j.leads;
      fails = j.fails;
    }

    back : (made : Result PlanForm (ℕ × Unfit)) → JudgesSteps p ss made → script_from 1 p ss ≡ made
    back (Ok q) j = leads_is 1 p q ss v j
    back (Err f) j = ap (script_from 1 p) j.steps ∙ refused_is 1 p j.last j.done j.here j.others f.0 f.1 v j.number j.leads j.fails
