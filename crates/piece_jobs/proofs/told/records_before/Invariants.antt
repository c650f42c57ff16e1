use Rattle.std.proofs.Common.{◌≡◌, ◌≤◌}
use Rattle.piece_jobs.proofs.Tells.{CountedSo}
use Rattle.piece_jobs.proofs.told.records_before.Given as goal

abbrev pub invariant-loop-job : goal.invariant-loop-job
invariant-loop-job g l = record {
  held : g.J.JobFiles.held l.files ≡ g.J.JobFiles.held l.initial.files;
  later : g.J.JobFiles.faults l.initial.files ≤ g.J.JobFiles.faults l.files;
  so : CountedSo (g.J.JobFiles.held l.initial.files) l.job l.count;
}
