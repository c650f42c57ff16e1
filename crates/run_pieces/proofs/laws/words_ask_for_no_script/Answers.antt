use Rattle.run_pieces.proofs.Words.{words_ask_for_no_script}
use Rattle.run_pieces.proofs.laws.words_ask_for_no_script.Goals as goal

pub returns : goal.returns
returns c = words_ask_for_no_script
