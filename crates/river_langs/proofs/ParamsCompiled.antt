-- What was compiled of a StreamIt program with parameters stands for what its text means.
use Rattle.std.proofs.Common.{◌≡◌, ℕ, ℤ, List, [], ◌∷◌, refl, sym, ap, ◌∙◌, subst}
use Rattle.std.specs.Prelude.{Result, Ok}
use Rattle.std.proofs.lemmas.List.Elements.{All-nil}
use Rattle.river_outside.specs.Passes.{StandsFor}
use Rattle.river_plan.specs.Caps.{IsCap}
use Rattle.river_plan.specs.Forms.{PlanForm}
use Rattle.river_plan.specs.declared.caps.Cap.{Cap}
use Rattle.brooklet_model.specs.Meaning.{meaning}
use Rattle.streamit_model.specs.Plan.{plan_of}
use Rattle.streamit_model.specs.Laws.{as_items}
use Rattle.streamit_text.specs.Program as streamit_tree
use Rattle.streamit_text.specs.declared.program.StreamitProgram.{StreamitProgram}
use Rattle.params_text.specs.Program as params_tree
use Rattle.params_front.specs.Meaning as params
use Rattle.params_front.specs.Words.{params_words}
use Rattle.params_front.specs.declared.fault.ParamFault.{ParamFault}
use Rattle.params_front.proofs.Compiling.{compiled-readable as params-readable, plain_means, plans_mean as params_plans_mean}
use Rattle.river_road.specs.Contents.{AreContents}
use Rattle.river_road.specs.Inputs.{all_items}
use Rattle.river_road.specs.Source.{source_or_refused, IsPlanOf, IsCompiled}
use Rattle.river_langs.specs.Sources.{params_source, values, IsStreamit}
use Rattle.river_road.specs.declared.content.FileContent.{FileContent}
use Rattle.river_road.specs.declared.content.FileContent.TheVariants.{Rows as Plain, Timed}
use Rattle.river_langs.proofs.Single.{values-are}

params_mean : (text : List ℕ) (a : params.Accepted) → params.compiled text ≡ Ok a → (files : List FileContent) → AreContents (plan_of a.stream).inputs files
    → meaning (plan_of a.stream) (all_items files) ≡ (params_source a).means files
params_mean text a e [] t = absurd t
params_mean text a e (f ∷ g ∷ more) t = absurd t.1
params_mean text a e (Timed es ∷ []) t = absurd t.0
params_mean text a e (Plain r ∷ []) t =
    ap (λ l. meaning (plan_of a.stream) (l ∷ [])) (values-are r t.0) ∙ (params_plans_mean text a (values (Plain r ∷ [])) e).1

-- the plan that was compiled is the program's, and the plain program means what the program means
pub params-compiled : (text : List ℕ) (tree : params_tree.ParamProgram) (t : StreamitProgram) (plan : PlanForm)
    → params.Plans (params.compiled text) tree (streamit_tree.unit_forms t.units.items) plan
    → StandsFor (IsCompiled (λ s t. IsStreamit s (streamit_tree.unit_forms t.units.items)))
    (source_or_refused params_source params_words (params.compiled text)) (record { plan = plan; caps = []; program = t })
params-compiled text tree t plan (s, is, made) =
    let a : params.Accepted = record { tree = tree; program = streamit_tree.unit_forms t.units.items; stream = s } in
    subst (λ (r : Result params.Accepted ParamFault). StandsFor (IsCompiled (λ s t. IsStreamit s (streamit_tree.unit_forms t.units.items)))
    (source_or_refused params_source params_words r) (record { plan = plan; caps = []; program = t })) (sym is)
    (record {
      planned = record {
        plan = subst (IsPlanOf (params_source a)) (sym made)
            (record { plan = refl; inputs = refl; outputs = refl; tables = refl; means = params_mean text a is });
        caps_are = refl;
        fit =
            All-nil (λ (c : Cap). IsCap c.most);
      };
      program = record {
        readable = params-readable text a is;
        means = λ files. ap (λ (ys : List ℤ). record { outs = as_items ys ∷ []; tables = [] }) (sym (plain_means text a (values files) is));
      };
    })
