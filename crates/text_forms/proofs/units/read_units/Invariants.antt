use Rattle.std.proofs.Common.{◌≡◌, ◌+◌, drop}
use Rattle.std.specs.Prelude.{map}
use Rattle.text_tokens.specs.Cut.{unit_tokens}
use Rattle.text_forms.specs.AllUnits.{units_from}
use Rattle.text_forms.proofs.AllUnits.{behind}
use Rattle.text_forms.proofs.units.read_units.Given as goal

abbrev pub invariant-items : goal.invariant-items
invariant-items g l =
    let unit = g.L.Units.unit l.language in
    behind (map g.L.Units.unit_tree l.list.items) (units_from unit (l.i + 1) (map unit_tokens (drop l.i l.parts))) ≡ units_from unit 1 (map unit_tokens l.parts)
