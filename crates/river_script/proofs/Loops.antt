-- The loop of a script.
use Rattle.std.proofs.Common.{◌≡◌, ℕ, suc, ◌+◌, ◌<◌, ◌≤◌, List, length, drop, get_or, sym, ap, ◌∙◌, arith, map}
use Rattle.std.specs.Prelude.{Ok, Err}
use Rattle.std.proofs.lemmas.List.{drop_all}
use Rattle.river_base.proofs.Lists.{drop_next}
use Rattle.river_plan.specs.Forms.{PlanForm}
use Rattle.plan_edits.specs.declared.unfit.Unfit.{Unfit}
use Rattle.plan_edits.specs.declared.unfit.Unfit.TheVariants.{U1, U2, U3, U4, U5, H1, H2, H3, H4, N1, N2, N3, N4, N5, NoMemory}
use Rattle.plan_edits.specs.Answered.{IsAnswered}
use Rattle.river_script.specs.declared.step.Step.{Step}
use Rattle.river_script.specs.Script.{after_step, then_all, script_from, script_of}
use Rattle.river_script.specs.Steps.{step_form}
use Rattle.river_script.specs.Meaning.{IsEnded, from_step}

-- so far the plan is now, and the steps from i on are left
abbrev pub SoFar : PlanForm → List Step → ℕ → PlanForm → Type 0
SoFar p steps i now = script_of p (map step_form steps) ≡ script_from (i + 1) now (map step_form (drop i steps))

one_step : (p : PlanForm) (steps : List Step) (i : ℕ) (now : PlanForm) (s : Step) → i < length steps → s ≡ get_or steps i s → SoFar p steps i now
    → script_of p (map step_form steps) ≡ then_all (i + 1) (after_step now (step_form s))
    (λ q. script_from (suc (i + 1)) q (map step_form (drop (i + 1) steps)))
one_step p steps i now s lt e h = h ∙ ap (λ l. script_from (i + 1) now (map step_form l)) (drop_next steps i s lt e)

-- one step more
pub script_next : (p : PlanForm) (steps : List Step) (i : ℕ) (now next : PlanForm) (s : Step) → i < length steps → s ≡ get_or steps i s → SoFar p steps i now
    → after_step now (step_form s) ≡ Ok next → SoFar p steps (i + 1) next
script_next p steps i now next s lt e h k =
    let n : suc (i + 1) ≡ i + 1 + 1 = omega arith in
    one_step p steps i now s lt e h ∙ ap (λ r. then_all (i + 1) r (λ q. script_from (suc (i + 1)) q (map step_form (drop (i + 1) steps)))) k
    ∙ ap (λ m. script_from m next (map step_form (drop (i + 1) steps))) n

-- no step is left
pub script_end : (p : PlanForm) (steps : List Step) (i : ℕ) (now : PlanForm) → length steps ≤ i → SoFar p steps i now
    → script_of p (map step_form steps) ≡ Ok now
script_end p steps i now ge h = h ∙ ap (λ l. script_from (i + 1) now (map step_form l)) (drop_all i steps ge)

script_at : (p : PlanForm) (steps : List Step) (i : ℕ) (now : PlanForm) (s : Step) (f : Unfit) → i < length steps → s ≡ get_or steps i s → SoFar p steps i now
    → after_step now (step_form s) ≡ Err f → script_of p (map step_form steps) ≡ Err (i + 1, f)
script_at p steps i now s f lt e h k =
    one_step p steps i now s lt e h ∙ ap (λ r. then_all (i + 1) r (λ q. script_from (suc (i + 1)) q (map step_form (drop (i + 1) steps)))) k

-- this step is the first that fails
pub script_fails : (p : PlanForm) (steps : List Step) (i n : ℕ) (now : PlanForm) (s : Step) (f : Unfit) → n ≡ i + 1 → i < length steps → s ≡ get_or steps i s
    → SoFar p steps i now → IsAnswered (after_step now (step_form s)) (Err f) → IsEnded p (map step_form steps) (Err (from_step n f))
script_fails p steps i n now s U1 m lt e h k = script_at p steps i now s U1 lt e h k ∙ ap (λ j. Err (j, U1)) (sym m)
script_fails p steps i n now s U2 m lt e h k = script_at p steps i now s U2 lt e h k ∙ ap (λ j. Err (j, U2)) (sym m)
script_fails p steps i n now s U3 m lt e h k = script_at p steps i now s U3 lt e h k ∙ ap (λ j. Err (j, U3)) (sym m)
script_fails p steps i n now s U4 m lt e h k = script_at p steps i now s U4 lt e h k ∙ ap (λ j. Err (j, U4)) (sym m)
script_fails p steps i n now s U5 m lt e h k = script_at p steps i now s U5 lt e h k ∙ ap (λ j. Err (j, U5)) (sym m)
script_fails p steps i n now s H1 m lt e h k = script_at p steps i now s H1 lt e h k ∙ ap (λ j. Err (j, H1)) (sym m)
script_fails p steps i n now s H2 m lt e h k = script_at p steps i now s H2 lt e h k ∙ ap (λ j. Err (j, H2)) (sym m)
script_fails p steps i n now s H3 m lt e h k = script_at p steps i now s H3 lt e h k ∙ ap (λ j. Err (j, H3)) (sym m)
script_fails p steps i n now s H4 m lt e h k = script_at p steps i now s H4 lt e h k ∙ ap (λ j. Err (j, H4)) (sym m)
script_fails p steps i n now s N1 m lt e h k = script_at p steps i now s N1 lt e h k ∙ ap (λ j. Err (j, N1)) (sym m)
script_fails p steps i n now s N2 m lt e h k = script_at p steps i now s N2 lt e h k ∙ ap (λ j. Err (j, N2)) (sym m)
script_fails p steps i n now s N3 m lt e h k = script_at p steps i now s N3 lt e h k ∙ ap (λ j. Err (j, N3)) (sym m)
script_fails p steps i n now s N4 m lt e h k = script_at p steps i now s N4 lt e h k ∙ ap (λ j. Err (j, N4)) (sym m)
script_fails p steps i n now s N5 m lt e h k = script_at p steps i now s N5 lt e h k ∙ ap (λ j. Err (j, N5)) (sym m)
script_fails p steps i n now s NoMemory m lt e h k = tt
