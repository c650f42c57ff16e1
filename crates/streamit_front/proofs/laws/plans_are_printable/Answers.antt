use Rattle.streamit_front.proofs.Printable.{plans_are_printable}
use Rattle.streamit_front.proofs.laws.plans_are_printable.Goals as goal

pub returns : goal.returns
returns c = plans_are_printable
