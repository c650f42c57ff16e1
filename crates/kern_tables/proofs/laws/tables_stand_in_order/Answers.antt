use Rattle.kern_tables.proofs.Apart.{tables_stand_in_order}
use Rattle.kern_tables.proofs.laws.tables_stand_in_order.Goals as goal

pub returns : goal.returns
returns c = tables_stand_in_order
