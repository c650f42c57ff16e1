use Rattle.piece_keep.proofs.Fronts as lemma
use Rattle.piece_keep.proofs.laws.fronts_are_cut.Goals as goal

pub returns : goal.returns
returns c = lemma.fronts_are_cut
