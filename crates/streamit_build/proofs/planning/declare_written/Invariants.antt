use Rattle.std.proofs.Common.{◌≡◌, ◌++◌, map, take}
use Rattle.std.specs.Prelude.{filter}
use Rattle.streamit_model.specs.Plan.{is_own_queue, values_in}
use Rattle.streamit_build.proofs.planning.declare_written.Given as goal

abbrev pub invariant-loop-name : goal.invariant-loop-name
invariant-loop-name l = l.to ≡ l.initial.to ++ map values_in (filter is_own_queue (take l.name-index l.name-items))
