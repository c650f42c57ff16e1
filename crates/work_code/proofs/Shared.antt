-- Bodies may be shared among threads.
use denote.Param.Send.{IsSync, sendable}
use Rattle.std.proofs.Crossing.{crosses}
use Rattle.work_code.specs.contracts.expr.Expr as Expr
use Rattle.work_code.specs.contracts.expr.Exprs as Exprs
use Rattle.work_code.specs.contracts.calc.Calc as Calc
use Rattle.work_code.specs.contracts.acts.Acts as Acts
use Rattle.work_code.specs.contracts.code.Stmts as Stmts
use Rattle.work_code.specs.contracts.body.Body as Body
use Rattle.work_code.specs.contracts.formula.Formula as Formula
use Rattle.work_code.specs.contracts.formula.Formulas as Formulas
use Rattle.work_code.specs.contracts.code.Code as Code
use Rattle.work_code.proofs.calc.Leaf.TheSendSync as leaf
use Rattle.work_code.proofs.expr.BinOp.TheSendSync as binop
use Rattle.work_code.proofs.expr.Expr.TheLaws.TheKnot as expr
use Rattle.work_code.proofs.calc.CalcStep.TheLaws.TheKnot as calc_step
use Rattle.work_code.proofs.acts.Act.TheLaws.TheKnot as act
use Rattle.work_code.proofs.code.Stmt.TheLaws.TheKnot as stmt

-- expressions may be shared
pub expression : IsSync (Expr.the_field).row
expression = search (sendable, crosses, expr.sync-Expr, binop.the_field_sync) depth 40

-- lists of expressions may be shared
pub expressions : IsSync (Exprs.the_field).row
expressions = let e : IsSync (Expr.the_field).row = expression in search (sendable, crosses) depth 40

statements : IsSync (Stmts.the_field).row
statements = stmt.sync-Stmts (search sendable) expression expressions (λ h s. search crosses)

calc : IsSync (Calc.the_field).row
calc =
    calc_step.sync-Calc (search (sendable, binop.the_field_sync)) (search sendable) (search sendable) (search (sendable, leaf.the_field_sync))
    (λ h s. search crosses)

acts : IsSync (Acts.the_field).row
acts = act.sync-Acts (search sendable) calc (let c : IsSync (Calc.the_field).row = calc in search (sendable, crosses) depth 40) (λ h s. search crosses)

body : IsSync (Body.the_field).row
body = let s : IsSync (Stmts.the_field).row = statements in let a : IsSync (Acts.the_field).row = acts in search (sendable, crosses) depth 40

-- a body with its inputs and slots may be shared among threads
pub code_shared : IsSync (Code.the_field).row
code_shared = let b : IsSync (Body.the_field).row = body in search (sendable, crosses) depth 40

-- an expression with the steps in which it is run may be shared
pub formula : IsSync (Formula.the_field).row
formula = let e : IsSync (Expr.the_field).row = expression in let c : IsSync (Calc.the_field).row = calc in search (sendable, crosses) depth 40

-- a list of such may be shared
pub formulas : IsSync (Formulas.the_field).row
formulas = let e : IsSync (Exprs.the_field).row = expressions in let c : IsSync (Calc.the_field).row = calc in search (sendable, crosses) depth 40
