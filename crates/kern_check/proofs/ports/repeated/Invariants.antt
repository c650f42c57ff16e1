use Rattle.std.proofs.Common.{◌≡◌, replicate}
use Rattle.kern_check.proofs.ports.repeated.Given as goal

abbrev pub invariant-loop : goal.invariant-loop
invariant-loop l = l.kinds ≡ replicate l.counter l.kind
