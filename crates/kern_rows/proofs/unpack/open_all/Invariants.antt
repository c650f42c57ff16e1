use Rattle.kern_rows.specs.Turns.{ones, waiting}
use Rattle.kern_rows.proofs.JoinLaws.{JoinedSoFar}
use Rattle.kern_rows.proofs.unpack.open_all.Given as goal

abbrev pub invariant-loop-port : goal.invariant-loop-port
invariant-loop-port l = JoinedSoFar (ones l.ports) l.initial.state l.state l.initial.out l.out

abbrev pub decreases-loop-port : goal.decreases-loop-port
decreases-loop-port l = waiting l.state.turns.lists
