-- What the top call does: what each status says of its points, its shelf and its two sinks.
use Rattle.std.specs.Prelude.{◌≡◌, ◌≤◌, ◌⊎◌, ℕ, List, Option, None, IfSome, Result, Ok, Err}
use Rattle.river_outside.specs.Held.{Held}
use Rattle.river_outside.specs.Taken.{TookPart}
use Rattle.river_outside.specs.Order.{Order, verdict, Refused, Done}
use Rattle.river_outside.specs.declared.stop.Stop.{Stop}
use Rattle.river_outside.specs.declared.stop.Stop.TheVariants as stop
use Rattle.river_cli.specs.Answer.{TookNothing, TookText, WroteEnd, WroteUsage, WroteFault, Stopped, StoppedUsage, HasStatus}
use Rattle.river_cli.specs.Text.{usage_text}

-- `unread` says that the shelf is as it was, `rose` that its count rose; of each of the sinks it is told what it had taken before, what it has
-- taken then, and that its count rose
pub record Does (points : Option Order) (held : Option Held) (unread rose : Type 0) (out out' : Option (List ℕ)) (out_rose : Type 0)
    (err err' : Option (List ℕ)) (err_rose : Type 0) (status : ℕ) : Type 0 where
  -- 0: the run is done, and the output took exactly its text
  pub done : status ≡ 0 → WroteEnd points held Done out out' × TookNothing err err'
  -- 1: it is refused, and the error output took exactly the refusal
  pub refused : status ≡ 1 → WroteEnd points held Refused err err' × TookNothing out out'
  -- 2: the words are no sentence, and the shelf was not read
  pub usage : status ≡ 2 → WroteUsage points err err' × TookNothing out out' × unread
  -- 3: a file whose turn came could not be read
  pub fault : status ≡ 3 → WroteFault points held rose err err' err_rose × TookNothing out out'
  -- 4: a sink failed within its text
  pub stopped : status ≡ 4
      → (Stopped points held Done out out' out_rose × TookNothing err err') ⊎ (Stopped points held Refused err err' err_rose × TookNothing out out')
      ⊎ (StoppedUsage points err err' err_rose × TookNothing out out')
  -- 5: memory was wanting, and nothing was written
  pub memory : status ≡ 5 → TookNothing out out' × TookNothing err err'
  pub only : status ≤ 5
  -- words that are no sentence are told, whatever the shelf
  pub no_sentence : points ≡ None → (err_rose → ⊥) → (status ≡ 2) ⊎ (status ≡ 5)
  -- where no count rose, what is held decides
  pub complete : (rose → ⊥) → (out_rose → ⊥) → (err_rose → ⊥) → IfSome held (λ h. HasStatus (verdict points h) status)

-- a sink took the whole text, and this is the status; or its count rose, it took a proper prefix, and the status is 4
abbrev pub Wrote : List ℕ → ℕ → Option (List ℕ) → Option (List ℕ) → Type 0 → ℕ → Type 0
Wrote text end old new rose status = ((status ≡ end) × TookText text old new) ⊎ ((status ≡ 4) × rose × TookPart text old new)

-- a sink took what is said of a file, or a proper prefix where its count rose; the status is 3
abbrev pub ToldFault : List ℕ → Option (List ℕ) → Option (List ℕ) → Type 0 → ℕ → Type 0
ToldFault text old new rose status = (status ≡ 3) × (TookText text old new ⊎ (rose × TookPart text old new))

-- what was decided is written, and the status tells how it ended
abbrev pub Tells : Result (List ℕ) Stop → Option (List ℕ) → Option (List ℕ) → Type 0 → Option (List ℕ) → Option (List ℕ) → Type 0 → ℕ → Type 0
Tells (Ok text) out out' out_rose err err' err_rose status = Wrote text 0 out out' out_rose status × TookNothing err err'
Tells (Err stop.Usage) out out' out_rose err err' err_rose status = Wrote usage_text 2 err err' err_rose status × TookNothing out out'
Tells (Err (stop.Refused text)) out out' out_rose err err' err_rose status = Wrote text 1 err err' err_rose status × TookNothing out out'
Tells (Err (stop.Failed text)) out out' out_rose err err' err_rose status = ToldFault text err err' err_rose status × TookNothing out out'
Tells (Err (stop.Absent text)) out out' out_rose err err' err_rose status = ToldFault text err err' err_rose status × TookNothing out out'
Tells (Err stop.NoMemory) out out' out_rose err err' err_rose status = (status ≡ 5) × TookNothing out out' × TookNothing err err'
