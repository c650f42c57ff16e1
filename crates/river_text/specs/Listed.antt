-- Ports that were read.
use Rattle.river_text.specs.declared.port.Port as read
use Rattle.river_text.specs.declared.port.Port.TheVariants.{Queue, Variable}
use Rattle.river_text.specs.declared.port.Ports as read_all
use Rattle.river_text.specs.Plans.{Port, queue, variable, Ports}

abbrev pub port_of : read.Port → Port
port_of (Queue name) = queue name
port_of (Variable name) = variable name

abbrev pub pair_of : read_all.Ports → Ports
pair_of p = (p.queues, p.vars)
