-- What a list of expressions or statements lends.
use Rattle.std.specs.Prelude.{ℕ}
use Rattle.std.specs.Borrow.{Lends, MutBor, Fml}
use Rattle.std.specs.Vec.{with_item}
use Rattle.work_code.specs.declared.expr.Expr.{Expr}
use Rattle.work_code.specs.declared.expr.Exprs.{Exprs}
use Rattle.work_code.specs.declared.code.Stmt.{Stmt}
use Rattle.work_code.specs.declared.code.Stmts.{Stmts}
use Rattle.work_code.specs.contracts.expr.Expr as expr
use Rattle.work_code.specs.contracts.expr.Exprs as exprs
use Rattle.work_code.specs.contracts.code.Stmt as stmt
use Rattle.work_code.specs.contracts.code.Stmts as stmts

-- at the end of the loan the list has the last expression written at place i
abbrev pub LendsExpr : MutBor Exprs → ℕ → MutBor Expr → Fml
LendsExpr xs i r = Lends exprs.the_row expr.the_row xs r (λ x. record xs.now { items = with_item xs.now.items i x })

-- at the end of the loan the list has the last statement written at place i
abbrev pub LendsStmt : MutBor Stmts → ℕ → MutBor Stmt → Fml
LendsStmt xs i r = Lends stmts.the_row stmt.the_row xs r (λ x. record xs.now { items = with_item xs.now.items i x })
