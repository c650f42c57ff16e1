use Rattle.std.proofs.Common.{sym, ◌∙◌}
use Rattle.cql_model.proofs.Faultless.{faultless_plannable}
use Rattle.cql_text.specs.Tree.{unit_forms}
use Rattle.cql_build.proofs.planning.plan.Goals as goal

pub faultless-requires-clause-accepted : goal.faultless-requires-clause-accepted
faultless-requires-clause-accepted c = faultless_plannable (unit_forms c.args.units.now) c.requires.spoken (sym c.in_ok-refusal.ensures ∙ c.in_default.is)
