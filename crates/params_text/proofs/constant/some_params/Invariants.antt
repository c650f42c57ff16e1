use Rattle.std.proofs.Common.{◌≡◌, length}
use Rattle.text_forms.specs.Parse.{comma_turn}
use Rattle.text_forms.specs.Repeat.{repeated}
use Rattle.params_text.specs.Steps.{param_at, some_params_at}
use Rattle.params_text.proofs.constant.some_params.Given as goal

abbrev pub invariant-items : goal.invariant-items
invariant-items l = repeated (comma_turn param_at) l.list.items l.reader ≡ some_params_at l.fn.reader

abbrev pub decreases-items : goal.decreases-items
decreases-items l = length l.reader
