use Rattle.std.proofs.Common.{◌≡◌, ◌++◌, drop}
use Rattle.csv_streams.specs.Outcome.{more_values}
use Rattle.csv_streams.proofs.outcome.print_more.Given as goal

abbrev pub invariant-loop-value : goal.invariant-loop-value
invariant-loop-value l = l.to ++ more_values (drop l.value-index l.values) ≡ l.initial.to ++ more_values l.values
