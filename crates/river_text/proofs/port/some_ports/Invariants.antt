use Rattle.std.proofs.Common.{◌≡◌, length}
use Rattle.std.specs.Prelude.{map}
use Rattle.text_forms.specs.Parse.{comma_turn, commas}
use Rattle.text_forms.specs.Repeat.{repeated}
use Rattle.river_text.specs.Listed.{port_of}
use Rattle.river_text.specs.ReadPlans.{port_at}
use Rattle.river_text.proofs.port.some_ports.Given as goal

abbrev pub invariant-items : goal.invariant-items
invariant-items l = repeated (comma_turn port_at) (map port_of l.list) l.reader ≡ commas port_at l.fn.reader

abbrev pub decreases-items : goal.decreases-items
decreases-items l = length l.reader
