use Rattle.std.proofs.Common.{◌≡◌, length, true}
use Rattle.command_line.specs.Phrases.{phrases, are_apart, with_phrases}
use Rattle.command_line.proofs.ReadOn.{on_by}
use Rattle.command_line.proofs.phrases.read_all.Given as goal

abbrev pub invariant-loop-rest : goal.invariant-loop-rest
invariant-loop-rest l = record {
  apart : are_apart l.said ≡ true;
  read : on_by l.said l.command (phrases 0 l.rest) ≡ with_phrases l.initial.command (phrases 0 l.words);
}

abbrev pub decreases-loop-rest : goal.decreases-loop-rest
decreases-loop-rest l = length l.rest
