-- Texts of tokens one after another.
use Rattle.std.proofs.Common.{append_assoc}
use Rattle.streamit_text.proofs.Trees.{block-is, statement-declare, statement-assign, statement-push, statement-pop, statement-if, statement-for}
use Rattle.text_tokens.proofs.Spacing.{spaced-append}

pub ruleset joins = (append_assoc)

pub ruleset texts = (append_assoc, spaced-append)

pub ruleset statements = (append_assoc, spaced-append, statement-declare, statement-assign, statement-push, statement-pop, statement-if, statement-for)

pub ruleset blocks = (append_assoc, spaced-append, block-is)
