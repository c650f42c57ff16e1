use Rattle.std.proofs.Common.{◌∙◌, map, ap, length}
use Rattle.std.proofs.lemmas.List.{length-map}
use Rattle.kern_tables.specs.Kept.{kept_of, rows_of}
use Rattle.river_plan.specs.Forms.{decl_names}
use Rattle.brooklet_model.specs.Histories.{hist, all_adds}
use Rattle.brooklet_step.specs.declared.outcome.Outcome.{Outcome}
use Rattle.river_road.proofs.Outputs.{run-says}
use Rattle.river_road.proofs.Supplied.{ready-fits, ready-capped}
use Rattle.river_cli.proofs.runs.run_by_tasks.Goals as goal

pub run_live-requires-clause-fits : goal.run_live-requires-clause-fits
run_live-requires-clause-fits g c = λ _ _. ready-fits c.args.gathered c.requires.ready

pub run_live-requires-clause-caps : goal.run_live-requires-clause-caps
run_live-requires-clause-caps g c = λ _ _. ready-capped c.args.gathered c.requires.ready

pub print_outcome-requires-clause-outs : goal.print_outcome-requires-clause-outs
print_outcome-requires-clause-outs g c =
    ap (λ (o : Outcome). length o.outs) c.outcome.ensures ∙ ap length c.in_ok-ran.ensures.ran.outs
    ∙ length-map (decl_names c.args.gathered.plan.outputs) (hist c.args.gathered.plan c.args.gathered.inputs)
    ∙ length-map c.args.gathered.plan.outputs (λ d. d.name)

pub print_outcome-requires-clause-tables : goal.print_outcome-requires-clause-tables
print_outcome-requires-clause-tables g c =
    ap (λ (o : Outcome). length o.tables) c.outcome.ensures ∙ ap length c.in_ok-ran.ensures.ran.tables
    ∙ length-map c.args.gathered.plan.tables (λ t. kept_of t.kind (all_adds c.args.gathered.plan c.args.gathered.inputs t.name))

pub returns : goal.returns
returns g c =
    let ran = c.in_ok-ran.ran.outcome in
    run-says c.args.gathered c.args.counted ran.outs (map rows_of ran.tables) ran.counts c.print_outcome.result
    (rw c.outcome.ensures at c.print_outcome.ensures) c.in_ok-ran.ensures.ran.outs c.in_ok-ran.ensures.ran.rows c.in_ok-ran.ensures.ran.counts
