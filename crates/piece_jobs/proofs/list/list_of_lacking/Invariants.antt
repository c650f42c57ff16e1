use Rattle.std.proofs.Common.{◌≡◌, ◌++◌, ◌+◌, drop}
use Rattle.piece_jobs.specs.Jobs.{list_text, lacking}
use Rattle.piece_jobs.proofs.list.list_of_lacking.Given as goal

abbrev pub invariant-loop-place : goal.invariant-loop-place
invariant-loop-place l = record {
  same : l.text ++ list_text l.turn (lacking (l.place + 1) (drop l.place l.found)) ≡ list_text l.turn (lacking 1 l.found);
}
