use Rattle.std.proofs.Common.{subst}
use Rattle.rtrb.specs.Ring.{known_items}
use Rattle.river_rings.specs.Ends.{HasSeen, Taking}
use Rattle.river_rings.specs.Rows.{row_taking}
use Rattle.river_rings.proofs.RowLemmas.{looked_take, rows_few, rows_some}
use Rattle.river_rings.proofs.rows.RowTake.ready.Goals as goal

pub returns-clause-seen : goal.returns-clause-seen
returns-clause-seen c =
    let w = c.self.inside.width in
    let d = c.has_values.new.end in
    subst (λ (t : Taking). HasSeen t (row_taking w d)) c.self.view_is
    (looked_take w c.self.inside.end d c.self.invariant.some c.has_values.ensures.looked)

pub returns-clause-yes : goal.returns-clause-yes
returns-clause-yes c = λ t. rows_some c.self.inside.width (known_items c.has_values.new.end) c.self.invariant.some (c.has_values.ensures.yes t)

pub returns-clause-no : goal.returns-clause-no
returns-clause-no c = λ f. rows_few c.self.inside.width (known_items c.has_values.new.end) (c.has_values.ensures.no f)
