use denote.Param.Send.{sendable}
use Rattle.free_run.proofs.Shared.{free_shared}
use Rattle.free_run.proofs.fire.fire_round.Goals as goal

pub for_each_mut-requires-sync-F : goal.for_each_mut-requires-sync-F
for_each_mut-requires-sync-F g c κs within = search (sendable, free_shared) depth 20
