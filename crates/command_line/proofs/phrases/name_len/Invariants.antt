use Rattle.std.proofs.Common.{◌≡◌, ◌≤◌, ◌-◌, ◌++◌, length, drop, take}
use Rattle.command_line.specs.Words.{name_part, rest_part}
use Rattle.command_line.proofs.phrases.name_len.Given as goal

abbrev pub invariant-loop-at : goal.invariant-loop-at
invariant-loop-at l = record {
  within : l.at ≤ length l.word;
  name : take l.at l.word ++ name_part (drop l.at l.word) ≡ name_part l.word;
  rest : rest_part (drop l.at l.word) ≡ rest_part l.word;
}

abbrev pub decreases-loop-at : goal.decreases-loop-at
decreases-loop-at l = length l.word - l.at
