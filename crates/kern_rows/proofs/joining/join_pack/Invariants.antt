use Rattle.kern_rows.specs.Joined.{JoinsFlats}
use Rattle.kern_rows.proofs.joining.join_pack.Given as goal

abbrev pub invariant-loop-flat : goal.invariant-loop-flat
invariant-loop-flat l = JoinsFlats l.place l.yielded l.initial.owed l.owed l.initial.out l.out
