-- Points in order, of which the first that fails decides: what a run asks of a shelf of files, and how it ends.
use Rattle.std.specs.Prelude.{◌≡◌, ◌⊎◌, ℕ, List, Option, None, Some, false, length, nat_lt, if◌then◌else◌, IfSome, MatchOption}
use Rattle.std.specs.Bool.{MatchBool}
use Rattle.river_outside.specs.Held.{Held}

-- how a run ends: the words are no sentence, a text that refuses it, a file that is not held, or the text that is its output
pub data Verdict : Type 0 where
  Usage : Verdict
  Refused : List ℕ → Verdict
  Unread : List ℕ → Verdict
  Done : List ℕ → Verdict

-- the points that are left: an end; or the fetch of a file, how many bytes it may have, the text that refuses a larger one, and the points that come after its
-- bytes
pub data Order : Type 0 where
  Ends : Verdict → Order
  Fetch : (name : List ℕ) (limit : ℕ) (large : List ℕ) (next : List ℕ → Order) → Order

-- the end of the points, over these files
abbrev pub end_of : Order → Held → Verdict
end_of (Ends v) held = v
end_of (Fetch name limit large next) held = elim (held name) [
  | None ↦ Unread name
  | Some bytes ↦ if nat_lt limit (length bytes) then Refused large else end_of (next bytes) held
]

-- the points come to this end; where the files are not told, each fetch may give anything
abbrev pub EndsIn : Order → Option Held → Verdict → Type 0
EndsIn (Ends v) held end = end ≡ v
EndsIn (Fetch name limit large next) held end =
    (given : Option (List ℕ)) × IfSome held (λ h. h name ≡ given)
    × MatchOption given (end ≡ Unread name) (λ bytes. MatchBool (nat_lt limit (length bytes)) (end ≡ Refused large) (EndsIn (next bytes) held end))

-- the turn of a file's fetch comes
abbrev pub ReachesFetch : Order → Option Held → List ℕ → Type 0
ReachesFetch (Ends v) held file = ⊥
ReachesFetch (Fetch name limit large next) held file =
    (name ≡ file) ⊎ ((bytes : List ℕ) × IfSome held (λ h. h name ≡ Some bytes) × (nat_lt limit (length bytes) ≡ false) × ReachesFetch (next bytes) held file)

-- the points come to these later ones; where the files are not told, each fetch may give anything
abbrev pub Comes : Order → Option Held → Order → Type 0
Comes (Ends v) held later = Ends v ≡ later
Comes (Fetch name limit large next) held later =
    (Fetch name limit large next ≡ later)
    ⊎ ((bytes : List ℕ) × IfSome held (λ h. h name ≡ Some bytes) × (nat_lt limit (length bytes) ≡ false) × Comes (next bytes) held later)

-- the verdict on words, of which a sentence has points, over these files
abbrev pub verdict : Option Order → Held → Verdict
verdict None held = Usage
verdict (Some order) held = end_of order held

-- the same as a relation, which also speaks of files that are not told
abbrev pub IsVerdict : Option Order → Option Held → Verdict → Type 0
IsVerdict None held v = v ≡ Usage
IsVerdict (Some order) held v = EndsIn order held v

-- the turn of a file comes
abbrev pub IsFetchTurn : Option Order → Option Held → List ℕ → Type 0
IsFetchTurn None held file = ⊥
IsFetchTurn (Some order) held file = ReachesFetch order held file
