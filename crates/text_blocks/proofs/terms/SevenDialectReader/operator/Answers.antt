use Rattle.std.proofs.Common.{◌∙◌, sym}
use Rattle.text_blocks.proofs.Seven.{operator_at-is}
use Rattle.text_blocks.proofs.terms.SevenDialectReader.operator.Goals as goal

pub returns-clause-found : goal.returns-clause-found
returns-clause-found g c =
    c.take_operator.ensures.found ∙ sym (operator_at-is (g.L.Terms.marks c.args.self.now.language.now) c.args.level c.args.reader.now)
