-- What is printed of a run is what the program means.
use Rattle.std.proofs.Common.{◌≡◌, ℕ, ℤ, List, ◌++◌, Bool, ap, ◌∙◌}
use Rattle.std.specs.Prelude.{Result, Ok, Err, IfOk, pos, map}
use Rattle.csv_streams.specs.Outcome.{outputs_text, tables_text, firings_text, asked_counts, printed_outcome}
use Rattle.river_base.specs.declared.item.Item as item
use Rattle.river_base.specs.declared.memory.NoMemory.{NoMemory}
use Rattle.river_plan.specs.Forms.{PlanForm, table_names, labels}
use Rattle.brooklet_model.specs.Histories.{firings}
use Rattle.brooklet_model.specs.Meaning.{Results, meaning}
use Rattle.river_road.specs.Contents.{AreContents}
use Rattle.river_road.specs.Supplied.{Supplied, IsGathered, printed_for}
use Rattle.river_road.specs.Inputs.{all_items}
use Rattle.river_road.specs.Source.{SourceProgram, IsPlanOf, printed}
use Rattle.river_road.specs.declared.content.FileContent.{FileContent}
use Rattle.river_road.specs.declared.gathered.Gathered.{Gathered}

-- what the plan prints is what the program prints
output-printed : (source : SourceProgram) (plan : PlanForm) (counted : Bool) (all : List FileContent) → IsPlanOf source plan → AreContents plan.inputs all
    → printed_outcome plan (meaning plan (all_items all)).outs (meaning plan (all_items all)).tables
    (asked_counts counted (map pos (firings plan (all_items all)))) ≡ printed source counted all
output-printed source plan counted all is typed =
    ap (λ n. outputs_text n (meaning plan (all_items all)).outs ++
    (tables_text (table_names plan.tables) (meaning plan (all_items all)).tables ++ fired plan)) is.outputs
    ∙ ap (λ n. outputs_text source.outputs (meaning plan (all_items all)).outs ++ (tables_text n (meaning plan (all_items all)).tables ++ fired plan)) is.tables
    ∙ ap (λ (m : Results). outputs_text source.outputs m.outs ++ (tables_text source.tables m.tables ++ fired plan)) (is.means all typed)
    ∙ ap (λ q. outputs_text source.outputs (source.means all).outs ++ (tables_text source.tables (source.means all).tables ++ fired q)) is.plan
  where
    fired : PlanForm → List ℕ
    fired q = firings_text (labels q.ops) (asked_counts counted (map pos (firings q (all_items all))))

-- what is printed of a run is what the program means
pub run-says : (g : Gathered) (counted : Bool) (outs : List (List item.Item)) (tables : List (List (List ℤ))) (counts : List ℤ)
    (result : Result (List ℕ) NoMemory)
    → IfOk result (λ text. text ≡ printed_outcome g.plan outs tables (asked_counts counted counts)) → outs ≡ (meaning g.plan g.inputs).outs
    → tables ≡ (meaning g.plan g.inputs).tables → counts ≡ map pos (firings g.plan g.inputs)
    → IfOk result (λ text. (s : Supplied) → IsGathered s g → text ≡ printed_for counted s)
run-says g counted outs tables counts (Ok text) says outs_is tables_is counts_is = λ s is.
    says ∙ (λ i. printed_outcome g.plan (outs_is i) (tables_is i) (asked_counts counted (counts_is i)))
    ∙ ap
    (λ (l : List (List item.Item)). printed_outcome g.plan (meaning g.plan l).outs (meaning g.plan l).tables (asked_counts counted (map pos (firings g.plan l))))
    is.items
    ∙ output-printed s.source g.plan counted s.files is.planned.plan is.contents
run-says g counted outs tables counts (Err e) says outs_is tables_is counts_is = tt
