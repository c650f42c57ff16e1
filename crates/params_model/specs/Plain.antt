-- The plain text of what has parameters: each is written as its value.
use Rattle.std.specs.Prelude.{ℕ, suc, ℤ, pos, negsuc, ◌++◌, nat_eq, if◌then◌else◌, codes, Option, Some, None}
use Rattle.std.specs.Fmt.{decimal}
use Rattle.work_code.specs.declared.expr.BinOp.TheVariants as op
use Rattle.streamit_text.specs.Tree.{Expression}
use Rattle.streamit_text.specs.Tree as tree
use Rattle.river_plan.specs.Forms.{Name}
use Rattle.streamit_text.specs.Tree.{Statement, Declare, Assign, Push, Discard, If, For, Block, End, Then, Optional, Unwritten, Written}
use Rattle.streamit_text.specs.Program.{WorkTree, FilterTree}
use Rattle.streamit_model.specs.Meaning.{look}
use Rattle.params_text.specs.Program.{ParamFilter}
use Rattle.params_model.specs.Environment.{Environment, rated}

-- N, or (-N), or (-9223372036854775807 - 1)
abbrev pub literal : ℤ → Expression
literal (pos n) = tree.Number n
literal (negsuc n) =
    if nat_eq n 9223372036854775807
    then tree.Bin op.Sub (tree.Neg (tree.Number 9223372036854775807)) (tree.Number 1)
    else tree.Neg (tree.Number (suc n))

abbrev pub literal_or : Name → Option ℤ → Expression
literal_or n None = tree.Name n
literal_or n (Some z) = literal z

abbrev pub put_in : Environment → Expression → Expression
put_in env (tree.Number v) = tree.Number v
put_in env (tree.Name n) = literal_or n (look env n)
put_in env (tree.Peek t) = tree.Peek (put_in env t)
put_in env tree.Pop = tree.Pop
put_in env (tree.Neg t) = tree.Neg (put_in env t)
put_in env (tree.Not t) = tree.Not (put_in env t)
put_in env (tree.Bin o a b) = tree.Bin o (put_in env a) (put_in env b)

abbrev pub put_option : Environment → Option Expression → Option Expression
put_option env None = None
put_option env (Some t) = Some (put_in env t)

abbrev mutual
  pub put_statement : Environment → Statement → Statement
  put_statement env (Declare n t) = Declare n (put_option env t)
  put_statement env (Assign n t) = Assign n (put_in env t)
  put_statement env (Push t) = Push (put_in env t)
  put_statement env Discard = Discard
  put_statement env (If t a b) = If (put_in env t) (put_block env a) (put_optional env b)
  put_statement env (For n low upto high b) = For n (put_in env low) upto (put_in env high) (put_block env b)

  pub put_block : Environment → Block → Block
  put_block env End = End
  put_block env (Then c b) = Then (put_statement env c) (put_block env b)

  pub put_optional : Environment → Optional → Optional
  put_optional env Unwritten = Unwritten
  put_optional env (Written b) = Written (put_block env b)

abbrev pub put_work : Environment → WorkTree → WorkTree
put_work env w = record w { block = put_block env w.block }

abbrev pub put_prework : Environment → Option WorkTree → Option WorkTree
put_prework env None = None
put_prework env (Some w) = Some (put_work env w)

-- a filter with the values of parameters in its blocks
abbrev pub put_filter : Environment → FilterTree → FilterTree
put_filter env t = record t { init = put_optional env t.init; prework = put_prework env t.prework; work = put_work env t.work }

abbrev pub plain_filter : Environment → ParamFilter → FilterTree
plain_filter env t = put_filter env (rated env t)

-- instance number k of a stream
abbrev pub instance_name : Name → ℕ → Name
instance_name name k = name ++ (codes "_" ++ decimal k)
