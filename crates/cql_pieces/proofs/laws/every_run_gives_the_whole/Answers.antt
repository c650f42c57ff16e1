use Rattle.cql_pieces.proofs.Every as every
use Rattle.cql_pieces.proofs.laws.every_run_gives_the_whole.Goals as goal

pub returns : goal.returns
returns c = every.every_run_gives_the_whole
