use Rattle.std.proofs.Common.{rules, append_assoc}
use Rattle.std.proofs.lemmas.Result.{on_ok_weaker}
use Rattle.csv_streams.proofs.outcome.print_all.Goals as goal

-- the counts are asked for
pub returns-then-counts : goal.returns-then-counts
returns-then-counts c = on_ok_weaker c.print_firings.result (λ all. search (rules, all, append_assoc)) c.print_firings.ensures
