-- Tables that keep a value for each key.
use Rattle.std.specs.Prelude.{List, [], ◌∷◌, fold}
use Rattle.std.specs.Ordering.{match_ordering}
use Rattle.std.specs.declared.cmp.Ordering.{Ordering}

module _ {K V W : Type 0} (cmp : K → K → Ordering) (start : V) (merge : V → W → V) where
  -- w is merged into the value of the key, or into `start` at a new key
  abbrev pub put : List (K × V) → K × W → List (K × V)
  put [] a = (a.0, merge start a.1) ∷ []
  put (e ∷ es) a = match_ordering (cmp a.0 e.0) ((a.0, merge start a.1) ∷ (e ∷ es)) ((e.0, merge e.1 a.1) ∷ es) (e ∷ put es a)

  -- the table of the pairs that were added
  abbrev pub keyed : List (K × W) → List (K × V)
  keyed adds = fold put [] adds
