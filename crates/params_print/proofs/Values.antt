-- The values of constants: no items are looked at, so pops count for nothing.
use Rattle.std.proofs.Common.{◌≡◌, ℕ, ℤ, pos, ◌+◌, [], ◌∷◌, Option, Some, None, refl, sym, ap, ◌∙◌, Global, Box}
use Rattle.std.specs.Prelude.{if◌then◌else◌, Bool, true, false}
use Rattle.std.specs.Ordering.{int_eq}
use Rattle.river_base.specs.Name.{name_eq}
use Rattle.river_base.specs.Number.{negate}
use Rattle.work_code.specs.Value.{applied, truth}
use Rattle.work_code.specs.declared.expr.BinOp.{BinOp}
use Rattle.river_plan.specs.Forms.{Name}
use Rattle.streamit_text.specs.Tree.{Expression, expression, expression_layer}
use Rattle.streamit_text.specs.Tree as tree
use Rattle.streamit_text.specs.declared.tree.Expr.{Expr, fold-roll-Expr}
use Rattle.streamit_text.specs.declared.tree.Expr as written
use Rattle.streamit_text.specs.declared.tree.Expr.TheVariants.{rolls-Bin}
use Rattle.streamit_text.specs.declared.tree.Expr.TheOpen as layer
use Rattle.streamit_model.specs.Meaning.{Store, eval, pops, nought, look}
use Rattle.params_model.specs.Environment.{Environment, under, value}

-- the value of a name that is known, or of one that is not
abbrev pub or_nought : Option ℤ → ℤ
or_nought None = pos 0
or_nought (Some z) = z

pub under-look : (env : Environment) (n : Name) → under env nought n ≡ or_nought (look env n)
under-look [] n = refl
under-look (e ∷ env) n = either (name_eq e.0 n) e.1 (under env nought n) (look env n) (under-look env n) where
  either : (b : Bool) (z w : ℤ) (o : Option ℤ) → w ≡ or_nought o → (if b then z else w) ≡ or_nought (if b then Some z else o)
  either true z w o h = refl
  either false z w o h = h

-- where there are no items, it does not matter how many were popped
pub eval-none : (c : Expression) (f : Store) (k : ℕ) → eval c [] f k ≡ eval c [] f 0
eval-none (tree.Number v) f k = refl
eval-none (tree.Name n) f k = refl
eval-none (tree.Peek t) f k = refl
eval-none tree.Pop f k = refl
eval-none (tree.Neg t) f k = ap negate (eval-none t f k)
eval-none (tree.Not t) f k = ap (λ z. truth (int_eq z (pos 0))) (eval-none t f k)
eval-none (tree.Bin o a b) f k =
    ap (λ z. applied o z (eval b [] f (k + pops a))) (eval-none a f k)
    ∙ ap (λ z. applied o (eval a [] f 0) z) (eval-none b f (k + pops a) ∙ sym (eval-none b f (0 + pops a)))

-- the value of an operator is the operator on both values
pub value-bin : (env : Environment) (o : BinOp) (a b : Expression) → value env (tree.Bin o a b) ≡ applied o (value env a) (value env b)
value-bin env o a b = ap (λ z. applied o (value env a) z) (eval-none b (under env nought) (0 + pops a))

-- the tree of an operation
pub expression-bin : (o : BinOp) (l r : Box Expr Global) → expression (written.Bin o l r) ≡ tree.Bin o (expression l.value) (expression r.value)
expression-bin o l r = ap expression (sym (rolls-Bin o l r)) ∙ fold-roll-Expr Expression expression_layer (layer.Bin o l r)

pub ruleset named = (under-look)

pub ruleset values = (value-bin)
