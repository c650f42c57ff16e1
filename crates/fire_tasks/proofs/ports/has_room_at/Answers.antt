use Rattle.std.proofs.Common.{sym, subst}
use Rattle.fire_tasks.specs.Ports.{HasRoom}
use Rattle.fire_tasks.proofs.ports.has_room_at.Goals as goal

pub returns-clause-room : goal.returns-clause-room
returns-clause-room c = λ h. let x = c.at_mut.result.now in c.has_room.ensures.room (subst HasRoom (sym (c.at_mut.ensures.value x)) (h x))
