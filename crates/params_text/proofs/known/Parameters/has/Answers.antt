use Rattle.std.proofs.Common.{◌∙◌, ap}
use Rattle.params_text.specs.Params.{is_one_of}
use Rattle.params_text.proofs.known.Parameters.has.Goals as goal

pub returns : goal.returns
returns c = c.contains.ensures ∙ c.self.invariant c.args.name.now ∙ ap (λ l. is_one_of l c.args.name.now) c.self.view_is
