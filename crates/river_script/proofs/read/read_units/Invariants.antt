use Rattle.std.proofs.Common.{◌≡◌, ◌+◌, [], drop}
use Rattle.std.specs.Prelude.{map}
use Rattle.text_tokens.specs.Cut.{unit_tokens}
use Rattle.river_script.specs.Reading.{read_steps}
use Rattle.river_script.specs.Steps.{step_forms}
use Rattle.river_script.proofs.read.read_units.Given as goal

abbrev pub invariant-items : goal.invariant-items
invariant-items l = read_steps (l.i + 1) (step_forms l.steps) (map unit_tokens (drop l.i l.parts)) ≡ read_steps 1 [] (map unit_tokens l.parts)
