use Rattle.std.proofs.Common.{rules, of_calls, sym, int_le}
use Rattle.std.proofs.lemmas.Fn.{always_returns_same}
use Rattle.csv_streams.proofs.Spreading.{up_to_in_front}
use Rattle.slow_cql.specs.Kept.{Entry}
use Rattle.slow_cql.proofs.Windows.{passes_front}
use Rattle.slow_cql.proofs.window.up_to.Goals as goal

pub returns-clause-rows : goal.returns-clause-rows
returns-clause-rows c =
    let es = c.args.entries.now in
    let at = c.args.at in
    let end = c.partition_point-end.ensures.partitioned (λ (e : Entry). int_le e.0 at) (always_returns_same _ _ _ (λ a r f k. search (rules, of_calls)))
    (up_to_in_front es at c.requires) in
    sym (passes_front (λ e. int_le e.0 at) es c.partition_point-end.result c.partition_point-end.ensures.bound end)
