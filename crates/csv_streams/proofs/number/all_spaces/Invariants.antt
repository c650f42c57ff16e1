use Rattle.std.proofs.Common.{◌≡◌, drop}
use Rattle.std.specs.List.{list_all}
use Rattle.csv_streams.specs.Number.{is_space}
use Rattle.csv_streams.proofs.number.all_spaces.Given as goal

abbrev pub invariant-loop-c : goal.invariant-loop-c
invariant-loop-c l = list_all is_space (drop l.c-index l.text) ≡ list_all is_space l.text
