use Rattle.river_script.proofs.Printable.{script_is_printable}
use Rattle.river_script.proofs.laws.script_is_printable.Goals as goal

pub returns : goal.returns
returns c = script_is_printable
