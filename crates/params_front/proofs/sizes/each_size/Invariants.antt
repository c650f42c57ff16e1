use Rattle.std.proofs.Common.{◌≡◌, ◌≤◌, ◌++◌, drop, length, map}
use Rattle.text_tokens.specs.Cut.{unit_tokens}
use Rattle.text_tokens.specs.Tok.{mark_of}
use Rattle.params_front.specs.Sizes.{bytes_of_each}
use Rattle.params_front.proofs.sizes.each_size.Given as goal

abbrev pub invariant-units : goal.invariant-units
invariant-units l = record {
  within : l.at ≤ length l.tokens;
  sized : l.sizes.items ++ bytes_of_each (map unit_tokens (drop l.each-index l.units)) (map mark_of (drop l.at l.tokens)) ≡ bytes_of_each
      (map unit_tokens l.units) (map mark_of l.tokens);
}
