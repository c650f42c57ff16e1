use Rattle.std.proofs.Common.{◌≤◌}
use Rattle.piece_begin.specs.Laid.{WordsLaid}
use Rattle.piece_begin.proofs.putting.put_words.Given as goal

abbrev pub invariant-loop-before : goal.invariant-loop-before
invariant-loop-before g l = record {
  later : g.J.JobFiles.faults l.initial.files ≤ g.J.JobFiles.faults l.files;
  so : WordsLaid l.header l.before (g.J.JobFiles.held l.initial.files) (g.J.JobFiles.held l.files);
}
