use Rattle.piece_keep.proofs.Places as lemma
use Rattle.piece_keep.proofs.laws.marks_tell_places.Goals as goal

pub returns : goal.returns
returns c = lemma.marks_tell_places
