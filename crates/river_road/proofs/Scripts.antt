-- The script of a command.
use Rattle.std.proofs.Common.{◌≡◌, ℕ, List, refl, sym, ap, ◌∙◌, subst}
use Rattle.std.specs.Prelude.{Option, Some, None, Result, Ok, Err}
use Rattle.river_outside.specs.Held.{Held}
use Rattle.river_outside.specs.Order.{Order, Fetch, Comes}
use Rattle.river_outside.specs.Decides.{Stops}
use Rattle.river_outside.specs.Passes.{past, RefusesPoint, StandsFor, AnswersAs, PassesAs}
use Rattle.river_outside.specs.declared.stop.Stop.{Stop}
use Rattle.river_outside.proofs.Comes.{Comes-same, Comes-on}
use Rattle.river_outside.proofs.Passes.{past-refused}
use Rattle.river_outside.proofs.Turns.{Stops-later}
use Rattle.river_plan.specs.Forms.{PlanForm, decl_names, table_names}
use Rattle.river_plan.specs.Valid.{IsPlan}
use Rattle.river_script.specs.Meaning.{rewritten}
use Rattle.river_script.proofs.Fronts.{makes_what_it_has}
use Rattle.river_script.proofs.Steps.{script_means}
use Rattle.river_road.specs.Contents.{AreContents}
use Rattle.river_road.specs.Inputs.{all_items}
use Rattle.river_road.specs.Limits.{most_script}
use Rattle.river_road.specs.Points.{of_script, with_plan}
use Rattle.river_road.specs.Source.{SourceProgram, IsPlanned}
use Rattle.river_plan.specs.declared.caps.Cap.{Cap}
use Rattle.river_road.specs.Text.{large_script}
use Rattle.river_road.proofs.Items.{contents-typed}

-- the plan that a script makes means what the program means
pub made-stands : (caps : List Cap) (source : SourceProgram) (p made : PlanForm) (text : List ℕ) → IsPlan p → IsPlanned caps source p
    → rewritten p text ≡ Ok made
    → StandsFor (IsPlanned caps) (with_plan source (rewritten source.plan text)) made
made-stands caps source p made text v of e =
    let h = (makes_what_it_has p text (Ok made)).0 e in
    let k = script_means p made h.0 v h.2 in
    let is = of.plan in
    subst (λ r. StandsFor (IsPlanned caps) (with_plan source r) made) (sym (ap (λ q. rewritten q text) (sym is.plan) ∙ e)) (record {
      plan = record {
        plan = refl;
        inputs = k.1.inputs ∙ is.inputs;
        outputs = ap decl_names k.1.outputs ∙ is.outputs;
        tables = ap table_names k.1.tables ∙ is.tables;
        means =
            λ files a. let b = subst (λ ds. AreContents ds files) k.1.inputs a in k.2 (all_items files) (contents-typed p.inputs files b) ∙ is.means files b;
      };
      caps_are = of.caps_are;
      fit = of.fit;
    })

-- what is found, and stands for what the call gives, is handed on
pub as_passed : {A B : Type 0} (stands : A → B → Type 0) (found : Result A (List ℕ)) (y : B) (held : Option Held) → StandsFor stands found y
    → (x : A) × stands x y × ((next : A → Order) → Comes (past found next) held (next x))
as_passed stands (Ok x) y held told = (x, told, λ next. Comes-same (next x) held)
as_passed stands (Err t) y held told = absurd told

module _ (caps : List Cap) (file : List ℕ) (source : SourceProgram) (text : List ℕ) (held : Option Held) where
  -- it was fetched and applied
  pub script-comes : (plan : PlanForm) → ((next : List ℕ → Order) → Comes (Fetch file most_script large_script next) held (next text))
      → StandsFor (IsPlanned caps) (with_plan source (rewritten source.plan text)) plan
      → (later : SourceProgram) × IsPlanned caps later plan × ((next : SourceProgram → Order) → Comes (of_script (Some file) source next) held (next later))
  unfolding of_script
  script-comes plan here told =
      let s = as_passed (IsPlanned caps) (with_plan source (rewritten source.plan text)) plan held told in (
        s.0,
        s.1,
        λ next. Comes-on (Fetch file most_script large_script (λ t. past (with_plan source (rewritten source.plan t)) next))
            (past (with_plan source (rewritten source.plan text)) next) (next s.0) held (here (λ t. past (with_plan source (rewritten source.plan t)) next))
            (s.2 next),
      )

  -- it is refused
  pub script-refused : (early late : Type 0) → (late → early) → (s : Stop)
      → ((next : List ℕ → Order) → Comes (Fetch file most_script large_script next) held (next text))
      → RefusesPoint (with_plan source (rewritten source.plan text)) s
      → (next : SourceProgram → Order) → Stops (Some (of_script (Some file) source next)) held early s
  unfolding of_script
  script-refused early late sooner s here told next =
      Stops-later (Fetch file most_script large_script (λ t. past (with_plan source (rewritten source.plan t)) next))
      (past (with_plan source (rewritten source.plan text)) next) held early late sooner s
      (here (λ t. past (with_plan source (rewritten source.plan t)) next))
      (past-refused (with_plan source (rewritten source.plan text)) s held late told next)

  -- it was fetched, and applied or refused
  pub script-passes : (rose : Type 0) (result : Result PlanForm Stop)
      → ((next : List ℕ → Order) → Comes (Fetch file most_script large_script next) held (next text))
      → AnswersAs (IsPlanned caps) (with_plan source (rewritten source.plan text)) result
      → PassesAs (IsPlanned caps) (of_script (Some file) source) held rose result
  script-passes rose (Ok plan) here told = script-comes plan here told
  script-passes rose (Err s) here told = script-refused rose rose (λ r. r) s here told

-- it cannot be fetched
pub fetch-stops : (file : List ℕ) (source : SourceProgram) (held : Option Held) (rose : Type 0) (s : Stop)
    → ((next : List ℕ → Order) → Stops (Some (Fetch file most_script large_script next)) held rose s)
    → (next : SourceProgram → Order) → Stops (Some (of_script (Some file) source next)) held rose s
unfolding of_script
fetch-stops file source held rose s stops next = stops (λ t. past (with_plan source (rewritten source.plan t)) next)

-- there is none, so that the plan is that of the program
pub none-passes : (caps : List Cap) (source : SourceProgram) (plan : PlanForm) (held : Option Held) (rose : Type 0) → IsPlanned caps source plan
    → PassesAs (IsPlanned caps) (of_script None source) held rose (Ok plan)
unfolding of_script
none-passes caps source plan held rose is = (source, is, λ next. Comes-same (next source) held)
