use Rattle.kern_bags.proofs.EqualPlaces.{no_input}
use Rattle.kern_bags.proofs.places.input_of.Goals as goal

pub returns-in_default : goal.returns-in_default
returns-in_default c = record { some = tt; none = no_input c.args.e.now c.in_default.not-Input }
