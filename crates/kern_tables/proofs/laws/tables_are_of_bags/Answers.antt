use Rattle.kern_tables.proofs.Tabs.{tables_are_of_bags}
use Rattle.kern_tables.proofs.laws.tables_are_of_bags.Goals as goal

pub returns : goal.returns
returns c = tables_are_of_bags
