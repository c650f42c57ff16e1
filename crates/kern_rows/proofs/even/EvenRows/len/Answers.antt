use Rattle.std.proofs.Common.{sym, ap, ◌∙◌, length}
use Rattle.river_base.proofs.CutRows.{length-cut}
use Rattle.kern_rows.proofs.even.EvenRows.len.Goals as goal

pub returns : goal.returns
returns c = sym (length-cut c.self.inside.width c.self.inside.count c.self.inside.values) ∙ ap length c.self.view_is
