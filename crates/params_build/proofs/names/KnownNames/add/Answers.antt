use Rattle.std.proofs.Common.{◌∙◌, ap, not, ◌++◌, ◌∷◌, []}
use Rattle.params_text.specs.Params.{is_one_of}
use Rattle.params_build.proofs.Named.{any_one, added_last}
use Rattle.params_build.proofs.names.KnownNames.add.Goals as goal

pub returns-clause-fresh : goal.returns-clause-fresh
returns-clause-fresh c =
    c.in_ok-fresh.ensures.added ∙ ap not (any_one c.args.name c.self.inside.names.keys ∙ ap (λ l. is_one_of l c.args.name) c.self.view_is)

pub returns-clause-added : goal.returns-clause-added
returns-clause-added c = λ absent.
    added_last c.args.name c.self.inside.names.keys c.insert_full.new.self.keys c.in_ok-fresh.ensures.keys
    (ap (λ l. is_one_of l c.args.name) c.self.view_is ∙ absent)
    ∙ ap (λ l. l ++ c.args.name ∷ []) c.self.view_is
