use Rattle.std.proofs.Common.{◌≡◌, replicate, []}
use Rattle.fire_tasks.specs.Outlet.{Stored}
use Rattle.fire_open.proofs.tasks.outs_of.Given as goal

abbrev pub invariant-loop-out : goal.invariant-loop-out
invariant-loop-out l = l.outs ≡ replicate l._out (Stored [])
