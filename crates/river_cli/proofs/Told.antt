-- The status that a verdict has.
use Rattle.std.proofs.Common.{ℕ, IfSome}
use Rattle.std.specs.Prelude.{Option, None, Some}
use Rattle.river_outside.specs.Held.{Held}
use Rattle.river_outside.specs.Order.{Order, Verdict, IsVerdict, verdict}
use Rattle.river_outside.proofs.Told.{verdict-told}
use Rattle.river_cli.specs.Answer.{HasStatus}

-- the status of the verdict, where one is known
pub HasStatus-told : (points : Option Order) (held : Option Held) (v : Verdict) (status : ℕ) → IsVerdict points held v → HasStatus v status
    → IfSome held (λ h. HasStatus (verdict points h) status)
HasStatus-told points None v status is has = tt
HasStatus-told points (Some h) v status is has = rw (verdict-told points h v is) has
