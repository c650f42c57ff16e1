use Rattle.text_tokens.proofs.Apart.{tokens_are_apart}
use Rattle.text_tokens.proofs.laws.tokens_are_apart.Goals as goal

pub returns : goal.returns
returns c = tokens_are_apart
