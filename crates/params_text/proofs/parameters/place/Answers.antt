use Rattle.std.proofs.Common.{◌≢◌, rules}
use Rattle.params_text.proofs.Places.{place-some}
use Rattle.params_text.proofs.parameters.place.Goals as goal

pub returns-clause-reads : goal.returns-clause-reads
returns-clause-reads c =
    let some : c.args.brackets ≢ 0 = search rules in
    place-some c.args.names.now c.args.brackets c.args.name c.args.reader.now some
