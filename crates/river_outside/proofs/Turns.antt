-- How the points go on at a fetch.
use Rattle.std.proofs.Common.{◌≡◌, ℕ, ◌+◌, ◌<◌, ◌≤◌, List, length, refl, sym, ap, inl, inr, IfSome, arith}
use Rattle.std.specs.Prelude.{Option, None, Some, MatchOption, Ok, replicate}
use Rattle.std.proofs.lemmas.List.{length-replicate}
use Rattle.river_base.proofs.Tests.{lt_true, lt_false}
use Rattle.river_outside.specs.Held.{Held}
use Rattle.river_outside.specs.Fetched.{FetchesAll, IsLarger}
use Rattle.river_outside.specs.Text.{failed_text, absent_text}
use Rattle.river_outside.specs.Order.{Order, Fetch, Refused, Unread, EndsIn, Comes}
use Rattle.river_outside.specs.Decides.{Stops}
use Rattle.river_outside.specs.Passes.{Passes}
use Rattle.river_outside.specs.declared.stop.Stop.{Stop}
use Rattle.river_outside.specs.declared.stop.Stop.TheVariants as stop
use Rattle.river_outside.proofs.Comes.{Comes-same, EndsIn-later, Reaches-later}

held_all : (held : Option Held) (name : List ℕ) (limit : ℕ) (bytes : List ℕ) → IfSome held (λ h. FetchesAll (h name) limit bytes)
    → IfSome held (λ h. h name ≡ Some bytes)
held_all None name limit bytes all = tt
held_all (Some h) name limit bytes all = some (h name) all
  where
    some : (p : Option (List ℕ)) → FetchesAll p limit bytes → p ≡ Some bytes
    some None all = absurd all
    some (Some b) all = ap (λ (l : List ℕ). Some l) (sym all.0)

-- a fetch that gave the bytes comes to the points after it
pub Comes-fetched : (held : Option Held) (name : List ℕ) (limit : ℕ) (large : List ℕ) (next : List ℕ → Order) (bytes : List ℕ)
    → IfSome held (λ h. FetchesAll (h name) limit bytes) → length bytes ≤ limit → Comes (Fetch name limit large next) held (next bytes)
Comes-fetched held name limit large next bytes all le =
    inr (bytes, held_all held name limit bytes all, lt_false limit (length bytes) le, Comes-same (next bytes) held)

-- what decides the later points decides the earlier ones
cause-sooner : (held : Option Held) (early late : Type 0) → (late → early) → MatchOption held late (λ _. Unit {0}) → MatchOption held early (λ _. Unit {0})
cause-sooner None early late sooner c = sooner c
cause-sooner (Some h) early late sooner c = tt

-- what stops later stops
pub Stops-later : (from later : Order) (held : Option Held) (early late : Type 0) → (late → early) → (s : Stop) → Comes from held later
    → Stops (Some later) held late s → Stops (Some from) held early s
Stops-later from later held early late sooner stop.Usage far here = cc
Stops-later from later held early late sooner (stop.Refused text) far here = EndsIn-later from later held (Refused text) far here
Stops-later from later held early late sooner (stop.Failed text) far here =
    record { file = here.file; says = here.says; turn = Reaches-later from later held here.file far here.turn; counted = sooner here.counted }
Stops-later from later held early late sooner (stop.Absent text) far here =
    record {
      file = here.file;
      says = here.says;
      turn = Reaches-later from later held here.file far here.turn;
      end =
          EndsIn-later from later held (Unread here.file) far here.end;
      cause = cause-sooner held early late sooner here.cause;
    }
Stops-later from later held early late sooner stop.NoMemory far here = tt

-- the fetch found too many bytes
large_end : (held : Option Held) (name : List ℕ) (limit : ℕ) (large : List ℕ) (next : List ℕ → Order) (bytes : List ℕ) → IfSome held (λ h. h name ≡ Some bytes)
    → limit < length bytes → EndsIn (Fetch name limit large next) held (Refused large)
large_end held name limit large next bytes is more = (Some bytes, is, rw (lt_true limit (length bytes) more) refl)

-- a file that is too large is refused
pub EndsIn-large : (held : Option Held) (name : List ℕ) (limit : ℕ) (large : List ℕ) (next : List ℕ → Order) → IfSome held (λ h. IsLarger (h name) limit)
    → EndsIn (Fetch name limit large next) held (Refused large)
EndsIn-large None name limit large next more =
    large_end None name limit large next (replicate (limit + 1) 0) tt (let zero : ℕ = 0 in omega (arith, length-replicate (limit + 1) zero))
EndsIn-large (Some h) name limit large next more = some (h name) refl more
  where
    some : (p : Option (List ℕ)) → h name ≡ p → IsLarger p limit → EndsIn (Fetch name limit large next) (Some h) (Refused large)
    some None is more = absurd more
    some (Some b) is more = large_end (Some h) name limit large next b is more

-- the fetch failed
pub Stops-failed : (held : Option Held) (rose : Type 0) (name : List ℕ) (limit : ℕ) (large : List ℕ) (next : List ℕ → Order) (text : List ℕ)
    → text ≡ failed_text name → rose → Stops (Some (Fetch name limit large next)) held rose (stop.Failed text)
Stops-failed held rose name limit large next text says counted = record { file = name; says = says; turn = inl refl; counted = counted }

-- the fetch found no file
EndsIn-absent : (held : Option Held) (rose : Type 0) (name : List ℕ) (limit : ℕ) (large : List ℕ) (next : List ℕ → Order)
    → MatchOption held rose (λ h. h name ≡ None) → EndsIn (Fetch name limit large next) held (Unread name)
EndsIn-absent None rose name limit large next is = (None, tt, refl)
EndsIn-absent (Some h) rose name limit large next is = (None, is, refl)

cause-absent : (held : Option Held) (rose : Type 0) (name : List ℕ) → MatchOption held rose (λ h. h name ≡ None) → MatchOption held rose (λ _. Unit {0})
cause-absent None rose name c = c
cause-absent (Some h) rose name c = tt

-- a file that is not held stops
pub Stops-absent : (held : Option Held) (rose : Type 0) (name : List ℕ) (limit : ℕ) (large : List ℕ) (next : List ℕ → Order) (text : List ℕ)
    → text ≡ absent_text name → MatchOption held rose (λ h. h name ≡ None) → Stops (Some (Fetch name limit large next)) held rose (stop.Absent text)
Stops-absent held rose name limit large next text says none =
    record { file = name; says = says; turn = inl refl; end = EndsIn-absent held rose name limit large next none; cause = cause-absent held rose name none }

-- ---- THE CALL THAT FETCHES

-- it gave the bytes
pub fetched-passes : (held : Option Held) (rose : Type 0) (name : List ℕ) (limit : ℕ) (large : List ℕ) (bytes : List ℕ)
    → IfSome held (λ h. FetchesAll (h name) limit bytes) → length bytes ≤ limit → Passes (Fetch name limit large) held rose (Ok bytes)
fetched-passes held rose name limit large bytes all le = λ next. Comes-fetched held name limit large next bytes all le
