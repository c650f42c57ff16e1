use Rattle.std.proofs.Common.{◌≡◌, ◌++◌, take}
use Rattle.std.specs.Prelude.{flat_map}
use Rattle.saw_model.specs.Meaning.{emits}
use Rattle.saw_text.specs.Tree.{unit_forms}
use Rattle.slow_sawzall.proofs.run.Run.records.Given as goal

abbrev pub invariant-loop-row : goal.invariant-loop-row
invariant-loop-row l = l.self.emitted.items ≡ l.initial.self.emitted.items ++ flat_map (emits (unit_forms l.units)) (take l.row-index l.rows)
