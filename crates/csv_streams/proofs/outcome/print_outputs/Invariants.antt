use Rattle.std.proofs.Common.{◌≡◌, ◌++◌, drop}
use Rattle.river_plan.specs.Forms.{decl_names}
use Rattle.csv_streams.specs.Outcome.{outputs_text}
use Rattle.csv_streams.proofs.outcome.print_outputs.Given as goal

abbrev pub invariant-loop-place : goal.invariant-loop-place
invariant-loop-place l =
    l.to ++ outputs_text (decl_names (drop l.place l.decls)) (drop l.place l.outs) ≡ l.initial.to ++ outputs_text (decl_names l.decls) l.outs
