use Rattle.std.proofs.Common.{◌≡◌, ◌≤◌, length}
use Rattle.piece_jobs.proofs.Loops.{FoundSo}
use Rattle.piece_jobs.proofs.looking.look.Given as goal

abbrev pub invariant-loop-job : goal.invariant-loop-job
invariant-loop-job g l = record {
  held : g.J.JobFiles.held l.files ≡ g.J.JobFiles.held l.initial.files;
  later : g.J.JobFiles.faults l.initial.files ≤ g.J.JobFiles.faults l.files;
  many : length l.found ≡ l.job;
  so : FoundSo (g.J.JobFiles.held l.initial.files) l.turns l.found;
}
