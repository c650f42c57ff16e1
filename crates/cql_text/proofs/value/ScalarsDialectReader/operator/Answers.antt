use Rattle.std.proofs.Common.{◌∙◌, sym}
use Rattle.cql_text.proofs.Seven.{operator_at-is}
use Rattle.cql_text.proofs.value.ScalarsDialectReader.operator.Goals as goal

pub returns-clause-found : goal.returns-clause-found
returns-clause-found c = c.take_operator.ensures.found ∙ sym (operator_at-is c.args.level c.args.reader.now)
