-- The classes of tables as a function of the lists of their users.
use Rattle.std.specs.Prelude.{ℤ, pos, List, [], ◌∷◌}
use Rattle.plan_classes.specs.Classes.{AreClasses}
use Rattle.plan_classes.specs.Sets.{place_in, with_list}

-- each list has the place at which an equal one stands among those that came first; `first` came before
abbrev pub numbered_classes : List (List ℤ) → List (List ℤ) → List ℤ
numbered_classes first [] = []
numbered_classes first (ops ∷ users) = pos (place_in first ops) ∷ numbered_classes (with_list first ops) users

abbrev pub class_numbers : List (List ℤ) → List ℤ
class_numbers users = numbered_classes [] users

-- these numbers are the classes
abbrev pub NumbersAreClasses : Type 0
NumbersAreClasses = (users : List (List ℤ)) → AreClasses users (class_numbers users)
