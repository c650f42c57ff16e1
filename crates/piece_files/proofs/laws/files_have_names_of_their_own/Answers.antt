use Rattle.piece_files.proofs.Names.{names_differ}
use Rattle.piece_files.proofs.laws.files_have_names_of_their_own.Goals as goal

pub returns : goal.returns
returns c = names_differ
