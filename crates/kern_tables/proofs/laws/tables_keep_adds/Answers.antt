use Rattle.kern_tables.proofs.Tabs.{tables_keep_adds}
use Rattle.kern_tables.proofs.laws.tables_keep_adds.Goals as goal

pub returns : goal.returns
returns c = tables_keep_adds
