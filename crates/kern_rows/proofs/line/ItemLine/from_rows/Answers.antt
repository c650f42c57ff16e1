use Rattle.std.proofs.Common.{◌++◌, ap, ◌∙◌}
use Rattle.std.proofs.lemmas.List.{append-nil}
use Rattle.kern_rows.specs.Even.{row_items}
use Rattle.kern_rows.proofs.line.ItemLine.from_rows.Goals as goal

pub returns : goal.returns
returns c = ap (λ l. row_items c.args.rows ++ l) c.new.ensures.items ∙ append-nil (row_items c.args.rows)
