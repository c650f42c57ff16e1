use Rattle.std.proofs.Common.{take}
use Rattle.std.specs.List.{AllByRecursion}
use Rattle.piece_jobs.specs.Verdict.{IsDone}
use Rattle.piece_jobs.proofs.verdict.first_refused.Given as goal

abbrev pub invariant-loop-place : goal.invariant-loop-place
invariant-loop-place l = record {
  all : AllByRecursion IsDone (take l.place l.found);
}
