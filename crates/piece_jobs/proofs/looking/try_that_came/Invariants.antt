use Rattle.std.proofs.Common.{◌≡◌, ◌≤◌}
use Rattle.piece_jobs.proofs.Loops.{NoneSo}
use Rattle.piece_jobs.proofs.looking.try_that_came.Given as goal

abbrev pub invariant-loop-before : goal.invariant-loop-before
invariant-loop-before g l = record {
  held : g.J.JobFiles.held l.files ≡ g.J.JobFiles.held l.initial.files;
  later : g.J.JobFiles.faults l.initial.files ≤ g.J.JobFiles.faults l.files;
  none : NoneSo (g.J.JobFiles.held l.initial.files) l.before l.job;
}
