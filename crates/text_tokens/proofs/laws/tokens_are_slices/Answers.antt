use Rattle.text_tokens.proofs.Slices.{tokens_are_slices}
use Rattle.text_tokens.proofs.laws.tokens_are_slices.Goals as goal

pub returns : goal.returns
returns c = tokens_are_slices
