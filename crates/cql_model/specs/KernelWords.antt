-- What the words of CQL are among the operations and the kernels of plans. How an operator or a unit of time is written says nothing.
use Rattle.std.specs.Prelude.{pos}
use Rattle.work_code.specs.declared.expr.BinOp.{BinOp}
use Rattle.work_code.specs.declared.expr.BinOp.TheVariants as bin
use Rattle.kern_bags.specs.declared.kernel.Window as kernel
use Rattle.kern_bags.specs.declared.kernel.Window.TheVariants as window
use Rattle.kern_bags.specs.declared.kernel.Streamer.{Streamer}
use Rattle.kern_bags.specs.declared.kernel.Streamer.TheVariants as streamer
use Rattle.cql_text.specs.Tree.{Window, Now, Range, Unbounded, Latest}
use Rattle.cql_text.specs.declared.operator.Operator.{Operator}
use Rattle.cql_text.specs.declared.operator.Operator.TheVariants as op
use Rattle.cql_text.specs.declared.tree.Kind.{Kind}
use Rattle.cql_text.specs.declared.tree.Kind.TheVariants as kind

-- the operation of an operator
abbrev pub oper_of : Operator → BinOp
oper_of op.Mul = bin.Mul
oper_of op.Quot = bin.Quot
oper_of op.Rem = bin.Rem
oper_of op.Add = bin.Add
oper_of op.Sub = bin.Sub
oper_of op.Equal = bin.Eq
oper_of op.Different = bin.Ne
oper_of op.NotEqual = bin.Ne
oper_of op.Less = bin.Lt
oper_of op.LessEqual = bin.Le
oper_of op.Greater = bin.Gt
oper_of op.GreaterEqual = bin.Ge
oper_of op.And = bin.And
oper_of op.Or = bin.Or

-- the streamer of a query
abbrev pub streamer_of : Kind → Streamer
streamer_of kind.Istream = streamer.Istream
streamer_of kind.Dstream = streamer.Dstream
streamer_of kind.Rstream = streamer.Rstream

-- the window of an item
abbrev pub kernel_window : Window → kernel.Window
kernel_window Now = window.Now
kernel_window (Range n unit) = window.Range (pos n)
kernel_window Unbounded = window.Unbounded
kernel_window (Latest n) = window.Latest n
