-- What entries of queues stand for: the newest is the last.
use Rattle.std.specs.Prelude.{List, map, reverse}
use Rattle.river_plan.specs.Forms.{Name}
use Rattle.stream_periods.specs.Walk.{Known, Queues}
use Rattle.rate_code.specs.declared.queues.Spot.{Spot}
use Rattle.rate_code.specs.declared.queues.Entry.{Entry}
use Rattle.rate_code.specs.Rate.{period_of}

abbrev pub known_of : Spot → Known
known_of s = record { period = period_of s.rate; fades = s.fades }

abbrev pub pair_of : Entry → Name × Known
pair_of e = (e.name, known_of e.spot)

abbrev pub queues_of : List Entry → Queues
queues_of es = reverse (map pair_of es)
