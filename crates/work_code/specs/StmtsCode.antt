-- A code by which proofs tell lists of statements apart.
use Rattle.std.specs.Coded.{Coded}
use Rattle.work_code.specs.declared.code.Stmts.{Stmts}
use Rattle.work_code.specs.contracts.code.Stmts as stmts

abbrev pub stmts_code : Coded Stmts
stmts_code = stmts.the_row.coded
