use Rattle.river_print.proofs.Promise.{read_is_printable, read_is_read_again, compiled_is_read_again}
use Rattle.river_print.proofs.laws.read_plans_are_read_again.Goals as goal

pub returns-clause-bounds : goal.returns-clause-bounds
returns-clause-bounds c = read_is_printable

pub returns-clause-read : goal.returns-clause-read
returns-clause-read c = read_is_read_again

pub returns-clause-compiled : goal.returns-clause-compiled
returns-clause-compiled c = compiled_is_read_again
