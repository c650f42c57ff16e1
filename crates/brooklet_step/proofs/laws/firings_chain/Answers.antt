use Rattle.brooklet_step.proofs.GivenCode.{takes_again}
use Rattle.brooklet_step.proofs.laws.firings_chain.Goals as goal

pub returns : goal.returns
returns c = λ k port next i j st st' out out' t f h. takes_again k port next i j out out' st st' t f h
