use Rattle.std.proofs.Common.{◌≡◌, ◌≤◌}
use Rattle.piece_jobs.proofs.Merges.{AddedSo}
use Rattle.piece_jobs.proofs.finish.add_outs.Given as goal

abbrev pub invariant-loop-place : goal.invariant-loop-place
invariant-loop-place g l = record {
  held : g.J.JobFiles.held l.files ≡ g.J.JobFiles.held l.initial.files;
  later : g.J.JobFiles.faults l.initial.files ≤ g.J.JobFiles.faults l.files;
  tables : l.to.tables ≡ l.initial.to.tables;
  so : AddedSo (g.J.JobFiles.held l.initial.files) l.found l.place l.initial.to l.to;
}
