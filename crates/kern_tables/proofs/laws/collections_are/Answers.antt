use Rattle.kern_tables.proofs.Tabs.{collections_are}
use Rattle.kern_tables.proofs.laws.collections_are.Goals as goal

pub returns : goal.returns
returns c = collections_are
