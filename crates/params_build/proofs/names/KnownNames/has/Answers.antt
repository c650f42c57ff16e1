use Rattle.std.proofs.Common.{◌∙◌, ap}
use Rattle.params_text.specs.Params.{is_one_of}
use Rattle.params_build.proofs.Named.{any_one}
use Rattle.params_build.proofs.names.KnownNames.has.Goals as goal

pub returns : goal.returns
returns c = c.contains.ensures ∙ any_one c.args.name.now c.self.inside.names.keys ∙ ap (λ l. is_one_of l c.args.name.now) c.self.view_is
