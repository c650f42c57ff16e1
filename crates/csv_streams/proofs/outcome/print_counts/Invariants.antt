use Rattle.std.proofs.Common.{◌≡◌, ◌++◌, drop}
use Rattle.river_plan.specs.Forms.{labels, op_forms}
use Rattle.csv_streams.specs.Outcome.{count_lines}
use Rattle.csv_streams.proofs.outcome.print_counts.Given as goal

abbrev pub invariant-loop-place : goal.invariant-loop-place
invariant-loop-place l =
    l.to ++ count_lines (labels (op_forms (drop l.place l.ops))) (drop l.place l.counts) ≡ l.initial.to ++ count_lines (labels (op_forms l.ops)) l.counts
