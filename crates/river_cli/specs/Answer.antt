-- What a status says.
use Rattle.std.specs.Prelude.{◌≡◌, ◌⊎◌, ℕ, List, Option, None}
use Rattle.std.specs.Io.KnownBytes.{append_known}
use Rattle.river_outside.specs.Held.{Held}
use Rattle.river_outside.specs.Taken.{TookPart}
use Rattle.river_cli.specs.Text.{usage_text}
use Rattle.river_outside.specs.Order.{Order, IsVerdict, Verdict, Usage, Refused, Unread, Done}
use Rattle.river_outside.specs.Decides.{FailedAt, AbsentAt}

-- a sink took nothing
abbrev pub TookNothing : Option (List ℕ) → Option (List ℕ) → Type 0
TookNothing old new = new ≡ old

-- a sink took the text and no more
abbrev pub TookText : List ℕ → Option (List ℕ) → Option (List ℕ) → Type 0
TookText text old new = new ≡ append_known old text

-- the points end so, and a sink took the text of that end
pub record WroteEnd (points : Option Order) (held : Option Held) (kind : List ℕ → Verdict) (old new : Option (List ℕ)) : Type 0 where
  pub text : List ℕ
  pub end : IsVerdict points held (kind text)
  pub took : TookText text old new

-- the words are no sentence, and a sink took the usage
pub record WroteUsage (points : Option Order) (old new : Option (List ℕ)) : Type 0 where
  pub end : points ≡ None
  pub took : TookText usage_text old new

-- a fetch whose turn came had no bytes, and a sink took what is said of it, or a proper prefix where its count rose
pub record WroteFault (points : Option Order) (held : Option Held) (rose : Type 0) (old new : Option (List ℕ)) (stopped : Type 0) : Type 0 where
  pub text : List ℕ
  pub cause : FailedAt points held rose text ⊎ AbsentAt points held rose text
  pub took : TookText text old new ⊎ (stopped × TookPart text old new)

-- the points end so, and a sink whose count rose took a proper prefix of the text of that end
pub record Stopped (points : Option Order) (held : Option Held) (kind : List ℕ → Verdict) (old new : Option (List ℕ)) (rose : Type 0) : Type 0 where
  pub text : List ℕ
  pub end : IsVerdict points held (kind text)
  pub took : TookPart text old new
  pub counted : rose

-- the words are no sentence, and a sink whose count rose took a proper prefix of the usage
pub record StoppedUsage (points : Option Order) (old new : Option (List ℕ)) (rose : Type 0) : Type 0 where
  pub end : points ≡ None
  pub took : TookPart usage_text old new
  pub counted : rose

-- the statuses of an end where no count rose
abbrev pub HasStatus : Verdict → ℕ → Type 0
HasStatus Usage status = (status ≡ 2) ⊎ (status ≡ 5)
HasStatus (Refused text) status = (status ≡ 1) ⊎ (status ≡ 5)
HasStatus (Unread file) status = (status ≡ 3) ⊎ (status ≡ 5)
HasStatus (Done text) status = (status ≡ 0) ⊎ (status ≡ 5)
