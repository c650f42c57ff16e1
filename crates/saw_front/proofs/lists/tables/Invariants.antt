use Rattle.std.proofs.Common.{◌≡◌, ◌++◌, drop}
use Rattle.saw_model.specs.Meaning.{tables_in}
use Rattle.saw_text.specs.Tree.{unit_forms}
use Rattle.saw_front.proofs.lists.tables.Given as goal

abbrev pub invariant-loop-unit : goal.invariant-loop-unit
invariant-loop-unit l = l.list ++ tables_in (unit_forms (drop l.unit-index l.units)) ≡ tables_in (unit_forms l.units)
