use Rattle.std.proofs.Common.{◌≡◌, ◌++◌, drop, map}
use Rattle.streamit_text.specs.Tree.{expression}
use Rattle.text_tokens.specs.Spaced.{spaced}
use Rattle.params_text.specs.Toks.{more_numbers}
use Rattle.params_model.specs.Environment.{counts_in}
use Rattle.params_model.specs.Laws.{AreFit}
use Rattle.params_print.proofs.round.more_numbers.Given as goal

abbrev pub invariant-cs : goal.invariant-cs
invariant-cs l = record {
  fit : AreFit (map expression (drop l.each-index l.cs));
  same : l.to ++ spaced (more_numbers (counts_in l.known (map expression (drop l.each-index l.cs)))) ≡ l.initial.to ++ spaced
      (more_numbers (counts_in l.known (map expression l.cs)));
}
