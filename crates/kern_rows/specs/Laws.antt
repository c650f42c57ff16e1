-- Laws of joiners: statements over the definitions alone.
use Rattle.std.specs.Prelude.{ℕ, List, [], length}
use Rattle.kern_rows.specs.Joined.{join_start, StandsForJoining, HasJoinShape}
use Rattle.kern_rows.specs.Needs.{HaveShares}
use Rattle.kern_rows.specs.Turns.{turns_start}

-- what is kept before the first item stands for empty contents, of which none waits
pub record JoinersStartEmpty : Type 0 where
  pub joined : (n : ℕ) → StandsForJoining (join_start n) (record { turns = turns_start n; last = []; now = λ p. [] })
  pub shape : (ws : List ℕ) → HaveShares ws → HasJoinShape ws (join_start (length ws))
