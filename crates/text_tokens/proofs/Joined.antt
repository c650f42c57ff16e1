-- Texts that are appended one after another.
use Rattle.std.proofs.Common.{append_assoc}

pub ruleset joins = (append_assoc)
