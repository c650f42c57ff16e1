-- What a list lends.
use Rattle.std.specs.Prelude.{ℕ, List, ◌++◌, length, take, drop, slice_set}
use Rattle.std.specs.Borrow.{Lends, MutBor, Fml, Array}
use denote.RattleType.{RattleType}
use Rattle.river_base.specs.contracts.listed.Listed.{the_row}

-- at the end of the loan the list has the last value written at place i
abbrev pub LendsElement : (T : RattleType) → MutBor (List T.Denot) → ℕ → MutBor T.Denot → Fml
LendsElement T xs i r = Lends (the_row T) T xs r (slice_set xs.now i)

-- the list with these elements at its front in place of its own, as many as it has
abbrev pub refilled : {A : Type 0} → List A → List A → List A
refilled xs ws = take (length xs) (ws ++ drop (length ws) xs)

-- at the end of the loan the list has the elements of the slice
abbrev pub LendsAll : (T : RattleType) → MutBor (List T.Denot) → MutBor (List T.Denot) → Fml
LendsAll T xs r = Lends (the_row T) (Array T 0) xs r (refilled xs.now)
