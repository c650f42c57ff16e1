use Rattle.std.proofs.Common.{◌≡◌, take, map}
use Rattle.work_code.specs.Steps.{step, statements}
use Rattle.work_code.proofs.code.+copy.Given as goal

abbrev pub invariant-Stmts::copy-loop-x : goal.invariant-Stmts::copy-loop-x
invariant-Stmts::copy-loop-x l = map step (statements l.copies) ≡ map step (take l.x-index l.x-items)
