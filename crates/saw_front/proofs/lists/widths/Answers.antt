use Rattle.std.proofs.Common.{rules, sym, subst}
use Rattle.saw_front.specs.Plans.{IsListed, AreListed}
use Rattle.saw_front.proofs.Planned.{each_at}
use Rattle.saw_front.proofs.lists.widths.Goals as goal

pub table_width-requires : goal.table_width-requires
table_width-requires c =
    (each_at IsListed c.as_slice-table-items.result.now c.loop-table.table-index c.table-item.result
    (subst AreListed (sym c.as_slice-table-items.ensures) c.requires) (search rules) c.table-item.is).keys
