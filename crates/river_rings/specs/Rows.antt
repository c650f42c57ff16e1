-- What contracts see of the two ends of a ring of rows of one width: the items that these rows are.
use Rattle.std.specs.Prelude.{◌≡◌, ℕ, ℤ, ◌*◌, ◌/◌, ◌-◌, ◌≤◌, List, length, map}
use Rattle.std.specs.declared.alloc.Global.{Global}
use Rattle.rtrb.specs.declared.consumer.Consumer.{Consumer}
use Rattle.rtrb.specs.Ring.{received, known_items, consumer_capacity}
use Rattle.river_base.specs.declared.item.Item as item
use Rattle.river_base.specs.declared.item.Item.TheVariants.{Flat}
use Rattle.river_base.specs.declared.item.Flat.TheVariants.{One}
use Rattle.river_base.specs.WideRows.{cut_rows}
use Rattle.river_rings.specs.Ends.{Sending, Taking, ring_of}
use Rattle.river_rings.specs.Lots.{Lotted}

-- a row as an item
abbrev pub row_item : List ℤ → item.Item
row_item row = Flat (One row)

-- all whole rows of a width that values begin with, as items
abbrev pub rows_in : ℕ → List ℤ → List item.Item
rows_in width values = map row_item (cut_rows width (length values / width) values)

-- the values are those of rows of this width, of 1 to 16 values each
pub record AreWhole (width : ℕ) (values : List ℤ) : Type 0 where
  pub some : 1 ≤ width
  pub at_most : width ≤ 16
  pub whole : length values ≡ length values / width * width

-- these are seen of the ends: a row is there once all its values are, and there is room for it where there is for all of them
abbrev pub row_sending : ℕ → Lotted → Sending
row_sending width l = record {
  id = record l.ring { width = width };
  cap = l.capacity / width;
  sent = rows_in width l.sent;
  waiting = l.capacity / width - l.free / width;
}

abbrev pub row_taking : {P : Type 0} → ℕ → Consumer ℤ Global P → Taking
row_taking width c = record {
  id = ring_of width c.end;
  cap = consumer_capacity c / width;
  received = rows_in width (received c);
  known = rows_in width (known_items c);
}
