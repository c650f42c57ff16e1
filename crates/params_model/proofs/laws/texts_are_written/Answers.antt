use Rattle.params_model.proofs.Readable as readable
use Rattle.params_model.proofs.laws.texts_are_written.Goals as goal

pub returns : goal.returns
returns c = readable.texts_are_written
