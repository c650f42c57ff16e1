use Rattle.piece_keep.proofs.Records as lemma
use Rattle.piece_keep.proofs.laws.inputs_are_fronts.Goals as goal

pub returns : goal.returns
returns c = lemma.inputs_are_fronts
