use denote.Param.Send.{sendable}
use Rattle.river_plan.proofs.Shared.{plan_shared}
use Rattle.fire_tasks.proofs.rounds.round_by.Goals as goal

pub round-requires-sync-P : goal.round-requires-sync-P
round-requires-sync-P g c κs within = search (sendable, plan_shared) depth 20
