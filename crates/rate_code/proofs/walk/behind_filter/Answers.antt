use Rattle.rate_code.specs.Rate.{period_of}
use Rattle.rate_code.proofs.walk.behind_filter.Goals as goal

pub returns-in-Some-behind_rate-clause-is : goal.returns-in-Some-behind_rate-clause-is
returns-in-Some-behind_rate-clause-is c = λ name. (period_of c.in-Some.own, c.in-Some.ensures.some name, c.in-Some-behind_rate.ensures)
