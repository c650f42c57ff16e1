use Rattle.kern_changes.proofs.Turning.{width_turned}
use Rattle.kern_changes.proofs.keyed.KeyedContent.width.Goals as goal

pub returns : goal.returns
returns c = width_turned c.self.inside.column c.self.inside.content c.args.self.now c.width.result c.self.view_is c.width.ensures
