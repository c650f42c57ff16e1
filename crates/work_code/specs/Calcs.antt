-- Expressions in the form in which they are run, as the trees that they make.
use Rattle.std.specs.Prelude.{ℕ, ℤ, pos, List, [], ◌∷◌}
use Rattle.std.specs.Ordering.{int_eq}
use Rattle.river_base.specs.Number.{negate}
use Rattle.work_code.specs.declared.expr.BinOp.{BinOp}
use Rattle.work_code.specs.declared.calc.Leaf.{Leaf}
use Rattle.work_code.specs.declared.calc.Leaf.TheVariants as leaf
use Rattle.work_code.specs.declared.calc.CalcStep.{CalcStep, fold-CalcStep}
use Rattle.work_code.specs.declared.calc.CalcStep.TheOpen.{CalcStep-F, Calc-F}
use Rattle.work_code.specs.declared.calc.CalcStep.TheOpen as open_step
use Rattle.work_code.specs.declared.calc.Calc.{Calc, fold-Calc}
use Rattle.work_code.specs.Term.{Term, Const, Input, Slot, Neg, Not, Bin}
use Rattle.work_code.specs.Value.{val, truth, applied, IsWithin}

-- what a step makes of the tree so far
pub data Further : Type 0 where
  Negated : Further
  Denied : Further
  -- an operation, with the tree so far on its left and this one on its right
  Applied : BinOp → Term → Further

abbrev pub further : Further → Term → Term
further Negated t = Neg t
further Denied t = Not t
further (Applied op right) t = Bin op t right

-- the tree after all steps
abbrev pub tree_after : Term → List Further → Term
tree_after t [] = t
tree_after t (x ∷ xs) = tree_after (further x t) xs

abbrev pub leaf_term : Leaf → Term
leaf_term (leaf.Const z) = Const z
leaf_term (leaf.Input place) = Input place
leaf_term (leaf.Slot slot) = Slot slot

-- one layer of a step, whose right side is a tree already
abbrev pub further_at : CalcStep-F Further Term → Further
further_at open_step.Neg = Negated
further_at open_step.Not = Denied
further_at (open_step.Const op z) = Applied op (Const z)
further_at (open_step.Input op place) = Applied op (Input place)
further_at (open_step.Slot op slot) = Applied op (Slot slot)
further_at (open_step.Deep op right) = Applied op right

-- one layer of an expression in the form in which it is run
abbrev pub calc_at : Calc-F Further Term → Term
calc_at c = tree_after (leaf_term c.first) c.steps.items

-- what a step makes of the tree so far
abbrev pub further_of : CalcStep → Further
further_of s = fold-CalcStep Further Term further_at calc_at s

-- the tree that the steps make
abbrev pub calc_term : Calc → Term
calc_term c = fold-Calc Further Term further_at calc_at c

-- the value after a step, where this was the value before it
abbrev pub calc_after : Further → ℤ → List ℤ → List ℤ → ℤ
calc_after Negated value input slots = negate value
calc_after Denied value input slots = truth (int_eq value (pos 0))
calc_after (Applied op right) value input slots = applied op value (val right input slots)

-- every place and slot of the right side of a step is below these
abbrev pub IsRightWithin : ℕ → ℕ → Further → Type 0
IsRightWithin inputs slots Negated = Unit {0}
IsRightWithin inputs slots Denied = Unit {0}
IsRightWithin inputs slots (Applied op right) = IsWithin inputs slots right
