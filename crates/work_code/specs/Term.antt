-- Expressions as plain trees, without the places in memory where they are kept.
use Rattle.std.specs.Prelude.{ℕ, ℤ, suc, List, map, max}
use Rattle.work_code.specs.declared.expr.BinOp.{BinOp}
use Rattle.work_code.specs.declared.expr.Expr.{Expr, fold-Expr}
use Rattle.work_code.specs.declared.expr.Expr.TheOpen.{Expr-F}
use Rattle.work_code.specs.declared.expr.Expr.TheOpen as open_expr
use Rattle.work_code.specs.declared.expr.Exprs.{Exprs}

pub data Term : Type 0 where
  Const : ℤ → Term
  Input : ℕ → Term
  Slot : ℕ → Term
  Neg : Term → Term
  Not : Term → Term
  Bin : BinOp → Term → Term → Term

-- one layer of an expression, whose parts are trees already
abbrev pub term_layer : Expr-F Term → Term
term_layer (open_expr.Const z) = Const z
term_layer (open_expr.Input place) = Input place
term_layer (open_expr.Slot slot) = Slot slot
term_layer (open_expr.Neg x) = Neg x.value
term_layer (open_expr.Not x) = Not x.value
term_layer (open_expr.Bin op l r) = Bin op l.value r.value

-- the tree of an expression
abbrev pub term : Expr → Term
term e = fold-Expr Term term_layer e

-- the expressions of a list
abbrev pub all_exprs : Exprs → List Expr
all_exprs es = es.items.items

-- the trees of a list of expressions
abbrev pub terms : Exprs → List Term
terms es = map term (all_exprs es)

-- how deep a tree is; a leaf is 1 deep
abbrev pub depth_of : Term → ℕ
depth_of (Const z) = 1
depth_of (Input place) = 1
depth_of (Slot slot) = 1
depth_of (Neg t) = suc (depth_of t)
depth_of (Not t) = suc (depth_of t)
depth_of (Bin op l r) = suc (max (depth_of l) (depth_of r))
