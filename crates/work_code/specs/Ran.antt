-- What a body does with a row of inputs.
use Rattle.std.specs.Prelude.{◌<◌, ◌≤◌, ℕ, ℤ, List, [], ◌∷◌, ◌++◌, length, map, if◌then◌else◌, slice_set}
use Rattle.std.specs.List.{AllByRecursion}
use Rattle.work_code.specs.Steps.{Step, Steps, Set, Push, If, Done, Then}
use Rattle.work_code.specs.Value.{val, is_true, IsWithin}

-- the rows that are pushed, each with its port, and the slots afterwards
pub record Ran : Type 0 where
  pub pushes : List (ℕ × List ℤ)
  pub slots : List ℤ

-- what one statement does, and what statements do one after another, for the values of a row and those of the slots
abbrev mutual
  pub ran_once : Step → List ℤ → List ℤ → Ran
  ran_once (Set slot t) input slots = record { pushes = []; slots = slice_set slots slot (val t input slots) }
  ran_once (Push port ts) input slots = record { pushes = (port, map (λ t. val t input slots) ts) ∷ []; slots = slots }
  ran_once (If cond when otherwise) input slots = if is_true (val cond input slots) then ran when input slots else ran otherwise input slots

  pub ran : Steps → List ℤ → List ℤ → Ran
  ran Done input slots = record { pushes = []; slots = slots }
  ran (Then s ss) input slots =
      let first = ran_once s input slots in
      let others = ran ss input first.slots in
      record { pushes = first.pushes ++ others.pushes; slots = others.slots }

-- every place and slot is below these, and every row that is pushed has 1 to 16 values
abbrev mutual
  pub IsStepWithin : ℕ → ℕ → Step → Type 0
  IsStepWithin inputs slots (Set slot t) = (slot < slots) × IsWithin inputs slots t
  IsStepWithin inputs slots (Push port ts) = (1 ≤ length ts) × (length ts ≤ 16) × AllByRecursion (IsWithin inputs slots) ts
  IsStepWithin inputs slots (If cond when otherwise) = IsWithin inputs slots cond × IsBodyWithin inputs slots when × IsBodyWithin inputs slots otherwise

  pub IsBodyWithin : ℕ → ℕ → Steps → Type 0
  IsBodyWithin inputs slots Done = Unit {0}
  IsBodyWithin inputs slots (Then s ss) = IsStepWithin inputs slots s × IsBodyWithin inputs slots ss
