use Rattle.std.proofs.Common.{take}
use Rattle.std.specs.List.{AllByRecursion}
use Rattle.piece_jobs.specs.Verdict.{IsThere}
use Rattle.piece_jobs.proofs.verdict.first_lacking.Given as goal

abbrev pub invariant-loop-place : goal.invariant-loop-place
invariant-loop-place l = record {
  all : AllByRecursion IsThere (take l.place l.found);
}
