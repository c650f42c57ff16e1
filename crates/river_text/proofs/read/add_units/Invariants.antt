use Rattle.std.proofs.Common.{◌≡◌, ◌+◌, drop}
use Rattle.std.specs.Prelude.{map}
use Rattle.text_tokens.specs.Cut.{unit_tokens}
use Rattle.river_text.specs.Entries.{text_form}
use Rattle.river_text.specs.ReadPlans.{read_plan}
use Rattle.river_text.proofs.read.add_units.Given as goal

abbrev pub invariant-items : goal.invariant-items
invariant-items l =
    read_plan l.place (l.i + 1) (text_form l.text) (map unit_tokens (drop l.i l.parts)) ≡ read_plan l.fn.first 1 (text_form l.initial.text)
    (map unit_tokens l.parts)
