-- What an outcome says of the points in order.
use Rattle.std.specs.Prelude.{◌≡◌, ⊤, ℕ, List, Option, None, MatchOption, Result, Ok, Err}
use Rattle.river_outside.specs.Held.{Held}
use Rattle.river_outside.specs.Text.{failed_text, absent_text}
use Rattle.river_outside.specs.Order.{Order, IsVerdict, IsFetchTurn, Refused, Unread, Done}
use Rattle.river_outside.specs.declared.stop.Stop.{Stop}
use Rattle.river_outside.specs.declared.stop.Stop.TheVariants as stop

-- a fetch whose turn came failed, and the count rose
pub record FailedAt (points : Option Order) (held : Option Held) (rose : Type 0) (text : List ℕ) : Type 0 where
  pub file : List ℕ
  pub says : text ≡ failed_text file
  pub turn : IsFetchTurn points held file
  pub counted : rose

-- a file whose turn came is not held, or the shelf does not tell and its count rose
pub record AbsentAt (points : Option Order) (held : Option Held) (rose : Type 0) (text : List ℕ) : Type 0 where
  pub file : List ℕ
  pub says : text ≡ absent_text file
  pub turn : IsFetchTurn points held file
  pub end : IsVerdict points held (Unread file)
  pub cause : MatchOption held rose (λ _. ⊤)

-- why there is no output
abbrev pub Stops : Option Order → Option Held → Type 0 → Stop → Type 0
Stops points held rose stop.Usage = points ≡ None
Stops points held rose (stop.Refused text) = IsVerdict points held (Refused text)
Stops points held rose (stop.Failed text) = FailedAt points held rose text
Stops points held rose (stop.Absent text) = AbsentAt points held rose text
Stops points held rose stop.NoMemory = ⊤

-- the text that is the output, or why there is none; `rose` says that the shelf's count rose
abbrev pub Decides : Option Order → Option Held → Type 0 → Result (List ℕ) Stop → Type 0
Decides points held rose (Ok text) = IsVerdict points held (Done text)
Decides points held rose (Err stop) = Stops points held rose stop
