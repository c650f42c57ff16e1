use Rattle.std.proofs.Common.{drop}
use Rattle.params_text.specs.Program.{unit_forms}
use Rattle.params_model.specs.Judged.{Above, units_judged}
use Rattle.params_build.specs.Above.{CountsParameters}
use Rattle.params_build.proofs.Judging.{Judging}
use Rattle.params_build.proofs.judge.each_unit.Given as goal

abbrev pub invariant-units : goal.invariant-units
invariant-units l = (us : Above) → CountsParameters l.initial.above us
    → Judging (units_judged 1 us (unit_forms l.units)) l.i (unit_forms (drop l.i l.units)) l.above
