-- What contracts see of where an operator sends to.
use Rattle.std.specs.Prelude.{List}
use Rattle.river_base.specs.declared.item.Item as item
use Rattle.river_rings.specs.Ends.{Sending}
use Rattle.fire_tasks.specs.declared.ports.OutletEnd as end
use Rattle.fire_tasks.specs.declared.ports.OutletEnd.TheVariants as ends

-- the end of a ring, or a list of an output or of a queue that nobody reads
pub data Outlet : Type 0 where
  SendsTo : Sending → Outlet
  Stored : List item.Item → Outlet

-- this is seen of an end: a ring of rows is one of the items that these are
abbrev pub outlet_of : end.OutletEnd → Outlet
outlet_of (ends.Items f) = SendsTo f
outlet_of (ends.Rows f) = SendsTo f
outlet_of (ends.Kept line) = Stored line
