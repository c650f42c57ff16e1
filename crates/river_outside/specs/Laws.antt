-- What is said of all points in order.
use Rattle.std.specs.Prelude.{◌≡◌, ℕ, List, Option, None, Some}
use Rattle.river_outside.specs.Held.{Held}
use Rattle.river_outside.specs.Order.{Order, Verdict, IsVerdict, IsFetchTurn, verdict}

-- over files that are told there is one verdict
abbrev pub OneVerdict : Type 0
OneVerdict = (points : Option Order) (h : Held) (v : Verdict) → IsVerdict points (Some h) v → verdict points h ≡ v

-- and there is always one
abbrev pub SomeVerdict : Type 0
SomeVerdict = (points : Option Order) (h : Held) → IsVerdict points (Some h) (verdict points h)

-- what is said over files that are told may be said where they are not
abbrev pub VerdictUntold : Type 0
VerdictUntold = (points : Option Order) (h : Held) (v : Verdict) → IsVerdict points (Some h) v → IsVerdict points None v

-- no file matters but those whose turn comes
abbrev pub OnlyTurnsMatter : Type 0
OnlyTurnsMatter = (points : Option Order) (h k : Held) → ((file : List ℕ) → IsFetchTurn points (Some h) file → h file ≡ k file)
    → verdict points h ≡ verdict points k
