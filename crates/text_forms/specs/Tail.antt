-- What is behind the first element.
use Rattle.std.specs.Prelude.{List, [], ◌∷◌}

abbrev pub tail : {A : Type 0} → List A → List A
tail [] = []
tail (x ∷ xs) = xs
