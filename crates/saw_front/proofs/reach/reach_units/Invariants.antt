use Rattle.std.proofs.Common.{◌≡◌, drop}
use Rattle.std.specs.Prelude.{max}
use Rattle.saw_model.specs.Meaning.{reach_parts}
use Rattle.saw_text.specs.Tree.{unit_forms}
use Rattle.saw_front.proofs.reach.reach_units.Given as goal

abbrev pub invariant-loop-unit : goal.invariant-loop-unit
invariant-loop-unit l = max l.most (reach_parts (unit_forms (drop l.unit-index l.units))) ≡ reach_parts (unit_forms l.units)
