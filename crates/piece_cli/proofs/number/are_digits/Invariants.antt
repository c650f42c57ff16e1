use Rattle.std.proofs.Common.{◌≡◌, drop}
use Rattle.std.specs.List.{list_all}
use Rattle.river_base.specs.Name.{is_digit}
use Rattle.piece_cli.proofs.number.are_digits.Given as goal

abbrev pub invariant-loop-c : goal.invariant-loop-c
invariant-loop-c l = list_all is_digit (drop l.c-index l.word) ≡ list_all is_digit l.word
