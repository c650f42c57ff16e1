-- What a stream means: the items of its output, for all the items of its input.
use Rattle.std.specs.Prelude.{ℕ, suc, ℤ, List, [], ◌∷◌}
use Rattle.streamit_model.specs.Unrolled.{Splitter, Duplicate, RoundRobin, Stream, Filter, Pipeline, SplitJoin, Streams, Last, Then}
use Rattle.brooklet_model.specs.ByIndex.{dealt, collected}
use Rattle.streamit_model.specs.UnrolledFilters.{filtered}

-- what branch p takes
abbrev pub branch_input : Splitter → ℕ → List ℤ → List ℤ
branch_input Duplicate p xs = xs
branch_input (RoundRobin ws) p xs = dealt ws p xs

abbrev mutual
  pub outputs : Stream → List ℤ → List ℤ
  outputs (Filter name f) xs = filtered f xs
  outputs (Pipeline ss) xs = in_line ss xs
  outputs (SplitJoin d ss ws) xs = collected ws (side_by_side ss (λ p. branch_input d p xs))

  -- one after another
  pub in_line : Streams → List ℤ → List ℤ
  in_line (Last s) xs = outputs s xs
  in_line (Then s ss) xs = in_line ss (outputs s xs)

  -- the branches, each on its own items
  pub side_by_side : Streams → (ℕ → List ℤ) → List (List ℤ)
  side_by_side (Last s) f = outputs s (f 0) ∷ []
  side_by_side (Then s ss) f = outputs s (f 0) ∷ side_by_side ss (λ p. f (suc p))
