use Rattle.csv_streams.proofs.Ascents.{ascend_from}
use Rattle.csv_streams.proofs.outcome.is_ascending.Goals as goal

pub returns : goal.returns
returns c sorted = ascend_from c.args.rows.now c.is_sorted.result c.is_sorted.ensures.cases sorted
