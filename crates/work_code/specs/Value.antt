-- The value of an expression.
use Rattle.std.specs.Prelude.{◌<◌, ℕ, ℤ, pos, List, Bool, not, ◌&&◌, ◌||◌, if◌then◌else◌, slice_index_or, int_lt}
use Rattle.std.specs.Ordering.{int_eq}
use Rattle.river_base.specs.Number.{add, sub, mul, negate, quot, rem}
use Rattle.work_code.specs.declared.expr.BinOp.{BinOp}
use Rattle.work_code.specs.declared.expr.BinOp.TheVariants as op
use Rattle.work_code.specs.Term.{Term, Const, Input, Slot, Neg, Not, Bin}

-- a test's value: 1 where it holds, and otherwise 0
abbrev pub truth : Bool → ℤ
truth test = if test then pos 1 else pos 0

-- every value but 0 is true
abbrev pub is_true : ℤ → Bool
is_true a = not (int_eq a (pos 0))

-- the value of an operation; both sides have their values first
abbrev pub applied : BinOp → ℤ → ℤ → ℤ
applied op.Add a b = add a b
applied op.Sub a b = sub a b
applied op.Mul a b = mul a b
applied op.Quot a b = quot a b
applied op.Rem a b = rem a b
applied op.Eq a b = truth (int_eq a b)
applied op.Ne a b = truth (not (int_eq a b))
applied op.Lt a b = truth (int_lt a b)
applied op.Le a b = truth (not (int_lt b a))
applied op.Gt a b = truth (int_lt b a)
applied op.Ge a b = truth (not (int_lt a b))
applied op.And a b = truth (is_true a && is_true b)
applied op.Or a b = truth (is_true a || is_true b)

-- the value of an expression, for the values of a row and those of the slots
abbrev pub val : Term → List ℤ → List ℤ → ℤ
val (Const z) input slots = z
val (Input place) input slots = slice_index_or input place (pos 0)
val (Slot slot) input slots = slice_index_or slots slot (pos 0)
val (Neg t) input slots = negate (val t input slots)
val (Not t) input slots = truth (int_eq (val t input slots) (pos 0))
val (Bin o l r) input slots = applied o (val l input slots) (val r input slots)

-- every place and slot of an expression is below these
abbrev pub IsWithin : ℕ → ℕ → Term → Type 0
IsWithin inputs slots (Const z) = Unit {0}
IsWithin inputs slots (Input place) = place < inputs
IsWithin inputs slots (Slot slot) = slot < slots
IsWithin inputs slots (Neg t) = IsWithin inputs slots t
IsWithin inputs slots (Not t) = IsWithin inputs slots t
IsWithin inputs slots (Bin o l r) = IsWithin inputs slots l × IsWithin inputs slots r
