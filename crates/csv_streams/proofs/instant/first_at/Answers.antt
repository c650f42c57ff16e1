use Rattle.std.proofs.Common.{rules, of_calls, int_lt}
use Rattle.std.proofs.lemmas.Fn.{always_returns_same}
use Rattle.csv_streams.proofs.Spreading.{stamp, below_in_front}
use Rattle.csv_streams.proofs.instant.first_at.Goals as goal

pub returns-clause-first : goal.returns-clause-first
returns-clause-first c =
    c.partition_point.ensures.partitioned (λ e. int_lt (stamp e) c.args.at) (always_returns_same _ _ _ (λ a r f k. search (rules, of_calls)))
    (below_in_front c.args.rows.now c.args.at c.requires.sorted)
