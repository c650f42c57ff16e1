-- How many fields lists of expressions, statements and units read.
use Rattle.std.proofs.Common.{◌≡◌, ℕ, List, [], ◌∷◌, ◌++◌, Option, refl, sym, ap, ◌∙◌, arith}
use Rattle.std.specs.Prelude.{max}
use Rattle.saw_text.specs.Tree.{Expression}
use Rattle.saw_text.specs.Tree.{UnitForm, TableUnit, StatementUnit}
use Rattle.saw_model.specs.Meaning.{reach, reach_all, reach_parts, listed, emit_row}
use Rattle.saw_front.specs.Reach.{reach_unit}

max_assoc : (a b c : ℕ) → max (max a b) c ≡ max a (max b c)
max_assoc a b c = omega arith

zero_max : (a : ℕ) → max 0 a ≡ a
zero_max a = omega arith

max_zero : (a : ℕ) → max a 0 ≡ a
max_zero a = omega arith

pub reach_all-append : (xs ys : List Expression) → reach_all (xs ++ ys) ≡ max (reach_all xs) (reach_all ys)
reach_all-append [] ys = sym (zero_max (reach_all ys))
reach_all-append (x ∷ xs) ys = ap (max (reach x)) (reach_all-append xs ys) ∙ sym (max_assoc (reach x) (reach_all xs) (reach_all ys))

pub reach-emit : (is : List Expression) (v : Expression) (w : Option Expression)
    → reach_all (emit_row is v w) ≡ max (reach_all is) (max (reach v) (reach_all (listed w)))
reach-emit is v w = reach_all-append is (v ∷ listed w)

pub ruleset reaches = (reach-emit)

-- what a program reads is the most that its units read
pub reach-parts : (c : UnitForm) (ps : List UnitForm) → reach_parts (c ∷ ps) ≡ max (reach_unit c) (reach_parts ps)
reach-parts (TableUnit tb) ps = sym (zero_max (reach_parts ps))
reach-parts (StatementUnit c) ps = refl

-- so far: the most of what was read, and of what is to be read, is the most of all
pub so_far_start : (n : ℕ) → max 0 n ≡ n
so_far_start n = zero_max n

-- one part more
pub so_far_next : (most here rest whole next : ℕ) → max most (max here rest) ≡ whole → next ≡ max most here → max next rest ≡ whole
so_far_next most here rest whole next h e = ap (λ n. max n rest) e ∙ max_assoc most here rest ∙ h

-- behind the last part
pub so_far_end : (most whole : ℕ) → max most 0 ≡ whole → most ≡ whole
so_far_end most whole h = sym (max_zero most) ∙ h
