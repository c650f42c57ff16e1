use Rattle.std.proofs.Common.{◌≡◌, rules, false}
use Rattle.params_text.specs.Params.{is_one_of}
use Rattle.params_text.proofs.Places.{place-other}
use Rattle.params_text.proofs.parameters.last_place.Goals as goal

pub returns-else-has-clause-reads : goal.returns-else-has-clause-reads
returns-else-has-clause-reads c =
    let none : is_one_of c.args.names.now c.args.name ≡ false = search rules in
    λ ts. place-other c.args.names.now c.args.name ts none
