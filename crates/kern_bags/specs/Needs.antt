-- What steps of the kernels on bags need: what well-formed kernels and items of their types have.
use Rattle.std.specs.Prelude.{ℤ, ◌+◌, ◌≤◌, List, length, All}
use Rattle.std.specs.List.{AllByRecursion}
use Rattle.work_code.specs.Term.{Term}
use Rattle.work_code.specs.Value.{IsWithin}

-- the expression reads only fields that each row has, and no slot
abbrev pub CanRead : Term → List (List ℤ) → Type 0
CanRead t rows = All (λ row. IsWithin (length row) 0 t) rows

-- so do 1 to 16 expressions
pub record CanProject (ts : List Term) (rows : List (List ℤ)) : Type 0 where
  pub some : 1 ≤ length ts
  pub at_most : length ts ≤ 16
  pub within : All (λ row. AllByRecursion (IsWithin (length row) 0) ts) rows

-- a row of the one and a row of the other have at most 16 values together
abbrev pub CanJoin : List (List ℤ) → List (List ℤ) → Type 0
CanJoin xs ys = All (λ x. All (λ y. length x + length y ≤ 16) ys) xs
