-- Outputs that grew by a part.
use Rattle.std.specs.Prelude.{◌≡◌, ℕ, List, ◌++◌, take}

-- the first n of `all` were appended, for some n
pub record GrewByPrefix {X : Type 0} (old all new : List X) : Type 0 where
  pub n : ℕ
  pub is : new ≡ old ++ take n all
