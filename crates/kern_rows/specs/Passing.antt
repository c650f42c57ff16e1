-- How one item passes a joiner.
use Rattle.std.specs.Prelude.{◌≡◌, ℕ, ◌+◌, nat_lt, if◌then◌else◌, List, length, Some, None}
use Rattle.river_base.specs.declared.item.Item as item
use Rattle.kern_rows.specs.Turns.{Turns, front_of, rest_at}

-- the port in turn, of so many, and how many items it had, after one more; `share` is the share of the port
abbrev pub port_after : ℕ → ℕ → ℕ → ℕ → ℕ
port_after share ports port had = if nat_lt (had + 1) share then port else (if nat_lt (port + 1) ports then port + 1 else 0)

abbrev pub had_after : ℕ → ℕ → ℕ
had_after share had = if nat_lt (had + 1) share then had + 1 else 0

-- the front item of the port in turn has passed
abbrev pub passed_by : ℕ → Turns → Turns
passed_by share s = record { port = port_after share (length s.lists) s.port s.had; had = had_after share s.had; lists = rest_at s.lists s.port }

-- x was the front item, and has passed
pub record PassesFront (share : ℕ) (old new : Turns) (x : item.Item) : Type 0 where
  pub front : (give : item.Item → List item.Item) → front_of give old ≡ Some (give x)
  pub after : new ≡ passed_by share old

-- the port in turn has no item
pub record IsStuck (old new : Turns) : Type 0 where
  pub front : (give : item.Item → List item.Item) → front_of give old ≡ None
  pub same : new ≡ old
