use Rattle.std.proofs.Common.{◌≡◌}
use Rattle.river_road.specs.Inputs.{timed_files}
use Rattle.river_langs.proofs.records.timed_files_of.Given as goal

abbrev pub invariant-loop-file : goal.invariant-loop-file
invariant-loop-file l = l.all ≡ timed_files l.yielded
