-- Codes by which proofs tell expressions, and lists of them, apart.
use Rattle.std.specs.Coded.{Coded}
use Rattle.work_code.specs.declared.expr.Expr.{Expr}
use Rattle.work_code.specs.declared.expr.Exprs.{Exprs}
use Rattle.work_code.specs.contracts.expr.Expr as one
use Rattle.work_code.specs.contracts.expr.Exprs as all

abbrev pub expr_code : Coded Expr
expr_code = one.the_row.coded

abbrev pub exprs_code : Coded Exprs
exprs_code = all.the_row.coded
