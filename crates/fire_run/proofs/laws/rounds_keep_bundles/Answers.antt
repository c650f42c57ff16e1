use Rattle.fire_run.proofs.RoundLemmas.{round_bundles, round_seated, round_told}
use Rattle.fire_run.proofs.laws.rounds_keep_bundles.Goals as goal

pub returns-clause-seats : goal.returns-clause-seats
returns-clause-seats c = round_seated

pub returns-clause-bundles : goal.returns-clause-bundles
returns-clause-bundles c = round_bundles

pub returns-clause-moves : goal.returns-clause-moves
returns-clause-moves c = round_told
