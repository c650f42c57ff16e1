-- Tables of pieces that compute to what they should, and rows that are too short.
use Rattle.std.proofs.Common.{◌≡◌, pos, negsuc, [], ◌∷◌, refl}
use Rattle.std.specs.Int.{int_wrap}
use Rattle.kern_tables.specs.declared.kind.TableKind.TheVariants.{Sum, Collection, Maximum}
use Rattle.kern_tables.specs.Pieces.{printed}
use Rattle.kern_tables.specs.Tables.{tab}

-- of equal weights the smaller value is kept, whichever piece it comes from
ties : tab (Maximum 2 0) (printed (Maximum 2 0) (((pos 9 ∷ pos 4 ∷ []) ∷ (pos 3 ∷ pos 4 ∷ []) ∷ []) ∷ ((pos 1 ∷ pos 1 ∷ []) ∷ (pos 3 ∷ pos 4 ∷ []) ∷ []) ∷ []))
    ≡ (pos 3 ∷ pos 4 ∷ []) ∷ (pos 3 ∷ pos 4 ∷ []) ∷ []
ties = refl

-- a row of a collection is there as often as all pieces have it
copies : tab (Collection 0) (printed (Collection 0) (((pos 2 ∷ []) ∷ (pos 1 ∷ []) ∷ []) ∷ [] ∷ ((pos 2 ∷ []) ∷ []) ∷ [])) ≡ (pos 1 ∷ []) ∷ (pos 2 ∷ []) ∷ (pos 2 ∷ []) ∷ []
copies = refl

-- sums wrap, in the pieces and behind them
wraps : tab (Sum 0) (printed (Sum 0) (((pos 9223372036854775807 ∷ []) ∷ (pos 1 ∷ []) ∷ []) ∷ ((negsuc 0 ∷ []) ∷ []) ∷ [])) ≡ (pos 9223372036854775807 ∷ []) ∷ []
unfolding int_wrap
wraps = refl

-- A row with fewer values than keys is no row for a table: what is printed of it has another key.
short_once : tab (Sum 1) ([] ∷ []) ≡ (pos 0 ∷ []) ∷ []
unfolding int_wrap
short_once = refl

short_twice : tab (Sum 1) (tab (Sum 1) ([] ∷ [])) ≡ (pos 0 ∷ pos 0 ∷ []) ∷ []
unfolding int_wrap
short_twice = refl
