use Rattle.streamit_text.proofs.Named as named
use Rattle.streamit_text.proofs.laws.names_are_names.Goals as goal

pub returns : goal.returns
returns c = named.names_are_names
