use Rattle.std.proofs.Common.{◌≡◌, drop}
use Rattle.text_forms.specs.Parse.{symbols_at}
use Rattle.text_forms.proofs.reader.Reader.expect.Given as goal

abbrev pub invariant-loop-symbol : goal.invariant-loop-symbol
invariant-loop-symbol l = symbols_at (drop l.symbol-index l.run) l.self ≡ symbols_at l.run l.fn.self
