-- What was compiled of a StreamIt program stands for what its text means.
use Rattle.std.proofs.Common.{◌≡◌, ℕ, List, [], ◌∷◌, refl, sym, ap, ◌∙◌, subst}
use Rattle.std.specs.Prelude.{Result, Ok}
use Rattle.std.proofs.lemmas.List.Elements.{All-nil}
use Rattle.river_outside.specs.Passes.{StandsFor}
use Rattle.river_plan.specs.Caps.{IsCap}
use Rattle.river_plan.specs.Forms.{PlanForm}
use Rattle.river_plan.specs.declared.caps.Cap.{Cap}
use Rattle.brooklet_model.specs.Meaning.{meaning}
use Rattle.streamit_model.specs.Plan.{plan_of}
use Rattle.streamit_front.specs.Meaning.{Accepted, compiled, Plans}
use Rattle.streamit_front.specs.Words.{streamit_words}
use Rattle.streamit_front.specs.declared.fault.StreamitFault.{StreamitFault}
use Rattle.streamit_text.specs.Program as streamit_tree
use Rattle.streamit_text.specs.declared.program.StreamitProgram.{StreamitProgram}
use Rattle.streamit_front.proofs.Fronts.{compiled-readable, plans_mean}
use Rattle.river_road.specs.Contents.{AreContents}
use Rattle.river_road.specs.Inputs.{all_items}
use Rattle.river_road.specs.Source.{source_or_refused, IsPlanOf, IsCompiled}
use Rattle.river_langs.specs.Sources.{streamit_source, values, IsStreamit}
use Rattle.river_road.specs.declared.content.FileContent.{FileContent}
use Rattle.river_road.specs.declared.content.FileContent.TheVariants.{Rows as Plain, Timed}
use Rattle.river_langs.proofs.Single.{values-are}

program_means : (text : List ℕ) (a : Accepted) → compiled text ≡ Ok a → (files : List FileContent) → AreContents (plan_of a.stream).inputs files
    → meaning (plan_of a.stream) (all_items files) ≡ (streamit_source a).means files
program_means text a e [] t = absurd t
program_means text a e (f ∷ g ∷ more) t = absurd t.1
program_means text a e (Timed es ∷ []) t = absurd t.0
program_means text a e (Plain r ∷ []) t = ap (λ l. meaning (plan_of a.stream) (l ∷ [])) (values-are r t.0) ∙ (plans_mean text a (values (Plain r ∷ [])) e).1

program_plan : (text : List ℕ) (a : Accepted) → compiled text ≡ Ok a → IsPlanOf (streamit_source a) (plan_of a.stream)
program_plan text a e = record { plan = refl; inputs = refl; outputs = refl; tables = refl; means = program_means text a e }

-- the plan that was compiled is the program's, and so is the tree
pub streamit-compiled : (text : List ℕ) (t : StreamitProgram) (plan : PlanForm) → Plans (compiled text) (streamit_tree.unit_forms t.units.items) plan
    → StandsFor (IsCompiled (λ s t. IsStreamit s (streamit_tree.unit_forms t.units.items)))
    (source_or_refused streamit_source streamit_words (compiled text)) (record { plan = plan; caps = []; program = t })
streamit-compiled text t plan (s, is, made) =
    let a : Accepted = record { program = streamit_tree.unit_forms t.units.items; stream = s } in
    subst (λ (r : Result Accepted StreamitFault). StandsFor (IsCompiled (λ s t. IsStreamit s (streamit_tree.unit_forms t.units.items)))
    (source_or_refused streamit_source streamit_words r) (record { plan = plan; caps = []; program = t })) (sym is)
    (record {
      planned = record {
        plan = subst (IsPlanOf (streamit_source a)) (sym made) (program_plan text a is);
        caps_are = refl;
        fit =
            All-nil (λ (c : Cap). IsCap c.most);
      };
      program = record { readable = compiled-readable text a is; means = λ files. refl };
    })
