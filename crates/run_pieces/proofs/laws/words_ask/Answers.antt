use Rattle.run_pieces.proofs.Words.{words_ask}
use Rattle.run_pieces.proofs.laws.words_ask.Goals as goal

pub returns : goal.returns
returns c = words_ask
