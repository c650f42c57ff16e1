-- What is printed of the slow meaning of a program.
use Rattle.std.proofs.Common.{◌≡◌, ℕ, List, ◌++◌, map, length, false, sym, ap, ◌∙◌}
use Rattle.std.proofs.lemmas.List.{length-map}
use Rattle.kern_tables.specs.Tables.{tab}
use Rattle.kern_tables.specs.Kept.{rows_of}
use Rattle.csv_streams.specs.Outcome.{outputs_text, tables_text, firings_text, asked_counts, printed_outcome}
use Rattle.river_plan.specs.Forms.{PlanForm, decl_names, labels}
use Rattle.brooklet_model.specs.Histories.{hist, all_adds}
use Rattle.brooklet_model.specs.Meaning.{Results, meaning}
use Rattle.brooklet_step.specs.declared.outcome.Outcome.{Outcome}
use Rattle.river_road.specs.Contents.{AreContents}
use Rattle.river_road.specs.Inputs.{all_items}
use Rattle.river_road.specs.Source.{SourceProgram, IsPlanOf, IsCompiled, HasSource, GivesResults, printed}
use Rattle.river_road.specs.declared.content.FileContent.{FileContent}
use Rattle.river_road.specs.declared.language.Compiled.{Compiled}
use Rattle.std.specs.Prelude.{Result, Ok, Err, IfOk}
use Rattle.river_base.specs.declared.memory.NoMemory.{NoMemory}

-- what the program means is what the plan's printed text asks for
pub mean-printed : (source : SourceProgram) (p : PlanForm) (all : List FileContent) (o : Outcome) → IsPlanOf source p → GivesResults o (source.means all)
    → printed_outcome p o.outs (map rows_of o.tables) (asked_counts false o.counts) ≡ printed source false all
mean-printed source p all o is gives = λ i.
    outputs_text (is.outputs i) (gives.outs i) ++
    (tables_text (is.tables i) (gives.tables i) ++ firings_text (labels (is.plan i).ops) (asked_counts false o.counts))

-- what is printed is what the program means
pub mean-says : {P : Type 0} (stands : SourceProgram → P → Type 0) (c : Compiled P) (all : List FileContent) (o : Outcome) (result : Result (List ℕ) NoMemory)
    → IfOk result (λ text. text ≡ printed_outcome c.plan o.outs (map rows_of o.tables) (asked_counts false o.counts))
    → ((source : SourceProgram) → IsCompiled stands source c → GivesResults o (source.means all))
    → IfOk result (λ text. (source : SourceProgram) → IsCompiled stands source c → text ≡ printed source false all)
mean-says stands c all o (Ok text) says gives = λ source is. says ∙ mean-printed source c.plan all o is.planned.plan (gives source is)
mean-says stands c all o (Err e) says gives = tt

module _ {P : Type 0} (stands : SourceProgram → P → Type 0) (c : Compiled P) (all : List FileContent) (o : Outcome) (typed : AreContents c.plan.inputs all)
    (known : HasSource stands c) (gives : (source : SourceProgram) → IsCompiled stands source c → GivesResults o (source.means all)) where
  same : (known.0).means all ≡ meaning c.plan (all_items all)
  same = sym (known.1.planned.plan.means all typed)

  -- there is a history for each output, and there are rows for each table of the plan
  pub given-outs : length o.outs ≡ length c.plan.outputs
  given-outs =
      ap length (gives known.0 known.1).outs ∙ ap (λ (r : Results). length r.outs) same
      ∙ length-map (decl_names c.plan.outputs) (hist c.plan (all_items all)) ∙ length-map c.plan.outputs (λ d. d.name)

  -- there are rows for each table of the plan
  pub given-tables : length o.tables ≡ length c.plan.tables
  given-tables =
      sym (length-map o.tables rows_of) ∙ ap length (gives known.0 known.1).tables ∙ ap (λ (r : Results). length r.tables) same
      ∙ length-map c.plan.tables (λ t. tab t.kind (all_adds c.plan (all_items all) t.name))
