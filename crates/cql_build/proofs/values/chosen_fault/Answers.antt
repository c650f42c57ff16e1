use Rattle.std.proofs.Common.{sym, ◌∙◌}
use Rattle.cql_build.specs.Views.{scope}
use Rattle.cql_build.proofs.Lists.{too_many}
use Rattle.cql_build.proofs.values.chosen_fault.Goals as goal

pub returns-then-i-ge16 : goal.returns-then-i-ge16
returns-then-i-ge16 c = sym (c.loop-i.invariant ∙ too_many (scope c.args.items.now) c.loop-i.i c.args.columns.now c.loop-i-test.true c.if-i-ge16.true)
