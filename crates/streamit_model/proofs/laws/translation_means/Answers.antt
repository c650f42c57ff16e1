use Rattle.streamit_model.proofs.Translated as translated
use Rattle.streamit_model.proofs.laws.translation_means.Goals as goal

pub returns : goal.returns
returns c = translated.translation_means
