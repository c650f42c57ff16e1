use Rattle.river_base.proofs.Rows.{in_order-IsPermutation, in_order_ascends, in_order_bag}
use Rattle.river_base.proofs.laws.order_depends_on_bag.Goals as goal

pub returns : goal.returns
returns c = record { ascends = in_order_ascends; same_bag = in_order_bag; of_bag = in_order-IsPermutation }
