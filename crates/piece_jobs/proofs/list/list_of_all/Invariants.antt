use Rattle.std.proofs.Common.{◌≡◌, ◌++◌, ◌+◌, ◌-◌}
use Rattle.piece_jobs.specs.Jobs.{list_text, numbers_from}
use Rattle.piece_jobs.proofs.list.list_of_all.Given as goal

abbrev pub invariant-loop-job : goal.invariant-loop-job
invariant-loop-job l = record {
  same : l.text ++ list_text 1 (numbers_from (l.job + 1) (l.jobs - l.job)) ≡ list_text 1 (numbers_from 1 l.jobs);
}
