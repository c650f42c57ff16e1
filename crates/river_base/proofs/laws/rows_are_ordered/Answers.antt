use Rattle.river_base.specs.Row.{row_total}
use Rattle.river_base.proofs.Rows.{exact_rows}
use Rattle.river_base.proofs.OrderLemmas.{first_difference, prefix_first}
use Rattle.river_base.proofs.laws.rows_are_ordered.Goals as goal

pub returns : goal.returns
returns c = record { total = row_total; exact = exact_rows; first_difference = first_difference; prefix_first = prefix_first }
