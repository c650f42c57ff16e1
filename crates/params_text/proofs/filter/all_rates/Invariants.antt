use Rattle.std.proofs.Common.{◌≡◌, length}
use Rattle.params_text.specs.Reading.{rates_at}
use Rattle.params_text.specs.View.{rates_of}
use Rattle.params_text.proofs.RateSteps.{rates_from}
use Rattle.params_text.proofs.filter.all_rates.Given as goal

abbrev pub invariant-items : goal.invariant-items
invariant-items l = rates_from l.brackets (rates_of l.rates) l.reader ≡ rates_at l.brackets l.fn.reader

abbrev pub decreases-items : goal.decreases-items
decreases-items l = length l.reader
