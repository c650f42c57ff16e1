-- Expressions in the form in which they are run.
use Rattle.std.proofs.Common.{◌≡◌, ℕ, ℤ, List, [], ◌∷◌, ◌++◌, length, map, refl, sym, ap, ◌∙◌, subst}
use Rattle.std.proofs.lemmas.List.{map-append}
use Rattle.work_code.specs.declared.calc.Calc.{Calc}
use Rattle.work_code.specs.declared.calc.CalcStep.{CalcStep}
use Rattle.work_code.specs.declared.calc.CalcStep.TheFolds.{fold_out-Calc}
use Rattle.work_code.specs.Term.{Term, Neg, Not, Bin}
use Rattle.work_code.specs.Value.{val, IsWithin}
use Rattle.work_code.specs.Calcs.{Further, Negated, Denied, Applied, further, tree_after, leaf_term, further_at, calc_at, further_of, calc_term, IsRightWithin}

-- an expression as it is run makes what its steps make of its first leaf
pub calc-is : (c : Calc) → calc_term c ≡ tree_after (leaf_term c.first) (map further_of c.steps.items)
calc-is c = fold_out-Calc Further Term further_at calc_at c

-- one step more
pub made-append : (t : Term) (xs : List Further) (x : Further) → tree_after t (xs ++ x ∷ []) ≡ further x (tree_after t xs)
made-append t [] x = refl
made-append t (y ∷ ys) x = made-append (further y t) ys x

-- an expression of which one step more was taken
pub calc-more : (c more : Calc) (s : CalcStep) → more.first ≡ c.first → more.steps.items ≡ c.steps.items ++ s ∷ []
    → calc_term more ≡ further (further_of s) (calc_term c)
calc-more c more s f e =
    calc-is more
    ∙ ap (λ l. tree_after (leaf_term l) (map further_of more.steps.items)) f
    ∙ ap (λ l. tree_after (leaf_term c.first) (map further_of l)) e
    ∙ ap (λ l. tree_after (leaf_term c.first) l) (map-append further_of c.steps.items (s ∷ []))
    ∙ made-append (leaf_term c.first) (map further_of c.steps.items) (further_of s)
    ∙ ap (further (further_of s)) (sym (calc-is c))

-- what is within the places of the whole is within those of the part that the steps begin with
pub within_first : (inputs slots : ℕ) (t : Term) (xs : List Further) → IsWithin inputs slots (tree_after t xs) → IsWithin inputs slots t
within_first inputs slots t [] h = h
within_first inputs slots t (Negated ∷ xs) h = within_first inputs slots (Neg t) xs h
within_first inputs slots t (Denied ∷ xs) h = within_first inputs slots (Not t) xs h
within_first inputs slots t (Applied op right ∷ xs) h = (within_first inputs slots (Bin op t right) xs h).0

-- the right side of a step of a tree whose places are there
right_of : (inputs slots : ℕ) (x : Further) (t : Term) → IsWithin inputs slots (further x t) → IsRightWithin inputs slots x
right_of inputs slots Negated t h = tt
right_of inputs slots Denied t h = tt
right_of inputs slots (Applied op right) t h = h.1

-- every place and slot of the right sides of steps is below these
abbrev pub AreWithin : ℕ → ℕ → List Further → Type 0
AreWithin inputs slots [] = Unit {0}
AreWithin inputs slots (x ∷ xs) = IsRightWithin inputs slots x × AreWithin inputs slots xs

-- so it is where that holds of the whole that they make
pub made_within : (inputs slots : ℕ) (t : Term) (xs : List Further) → IsWithin inputs slots (tree_after t xs) → AreWithin inputs slots xs
made_within inputs slots t [] h = tt
made_within inputs slots t (x ∷ xs) h =
    (right_of inputs slots x t (within_first inputs slots (further x t) xs h), made_within inputs slots (further x t) xs h)

-- the value so far is that of the tree so far, of which the other steps, whose places are there, make the whole
pub record SoFar (input slots : List ℤ) (all : Term) (rest : List Further) (value : ℤ) : Type 0 where
  pub tree : Term
  pub makes : tree_after tree rest ≡ all
  pub is : value ≡ val tree input slots
  pub within : AreWithin (length input) (length slots) rest

-- no step was taken yet
pub so_far_start : (input slots : List ℤ) (c : Calc) (value : ℤ) → value ≡ val (leaf_term c.first) input slots
    → IsWithin (length input) (length slots) (calc_term c) → SoFar input slots (calc_term c) (map further_of c.steps.items) value
so_far_start input slots c value e h = record {
  tree = leaf_term c.first;
  makes = sym (calc-is c);
  is = e;
  within = made_within (length input) (length slots) (leaf_term c.first) (map further_of c.steps.items) (subst (IsWithin (length input) (length slots)) (calc-is c) h);
}

-- what a run needs of its leaf
pub leaf_within : (inputs slots : ℕ) (c : Calc) → IsWithin inputs slots (calc_term c) → IsWithin inputs slots (leaf_term c.first)
leaf_within inputs slots c h = within_first inputs slots (leaf_term c.first) (map further_of c.steps.items) (subst (IsWithin inputs slots) (calc-is c) h)
