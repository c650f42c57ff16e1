use Rattle.std.proofs.Common.{◌≡◌, ◌+◌, drop}
use Rattle.std.specs.List.{prefix_len}
use Rattle.text_tokens.specs.Classes.{belongs}
use Rattle.text_tokens.proofs.byte.run_len.Given as goal

abbrev pub invariant-loop-n : goal.invariant-loop-n
invariant-loop-n l = l.n + prefix_len (belongs l.class) (drop l.n l.text) ≡ prefix_len (belongs l.class) l.text
