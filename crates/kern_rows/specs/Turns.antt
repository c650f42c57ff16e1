-- Splitters and joiners: ports that take turns.
use Rattle.std.specs.Prelude.{ℕ, zero, suc, ℤ, ◌+◌, ◌<◌, List, [], ◌∷◌, length, map, replicate, nat_lt, if◌then◌else◌, Option, Some, None, slice_index_or}
use Rattle.river_base.specs.declared.item.Item as item
use Rattle.river_base.specs.Number.{count_of}
use Rattle.river_base.specs.Places.{append_at}
use Rattle.river_base.specs.Drain.{drain}

-- how many items each port has in its turn
abbrev pub shares : List ℤ → List ℕ
shares weights = map count_of weights

-- one item each
abbrev pub ones : ℕ → List ℕ
ones n = replicate n 1

-- the port in turn, and how many items it had, after one more
abbrev pub next_port : List ℕ → ℕ → ℕ → ℕ
next_port ws port had = if nat_lt (had + 1) (slice_index_or ws port 0) then port else (if nat_lt (port + 1) (length ws) then port + 1 else 0)

abbrev pub next_had : List ℕ → ℕ → ℕ → ℕ
next_had ws port had = if nat_lt (had + 1) (slice_index_or ws port 0) then had + 1 else 0

-- the port in turn is one of the ports, and has had fewer than its share
abbrev pub IsTurn : List ℕ → ℕ → ℕ → Type 0
IsTurn ws port had = (port < length ws) × (had < slice_index_or ws port 0)

-- a joiner: the port in turn, how many items it had, and what waits at each port
pub record Turns : Type 0 where
  pub port : ℕ
  pub had : ℕ
  pub lists : List (List item.Item)

abbrev pub turns_start : ℕ → Turns
turns_start ports = record { port = 0; had = 0; lists = replicate ports [] }

-- what the first item of a list gives, and the list without it
abbrev pub front_in : (item.Item → List item.Item) → List item.Item → Option (List item.Item)
front_in give [] = None
front_in give (x ∷ xs) = Some (give x)

abbrev pub rest_in : List item.Item → List item.Item
rest_in [] = []
rest_in (x ∷ xs) = xs

-- the same of the list at a place
abbrev pub front_at : (item.Item → List item.Item) → List (List item.Item) → ℕ → Option (List item.Item)
front_at give [] p = None
front_at give (l ∷ ls) zero = front_in give l
front_at give (l ∷ ls) (suc p) = front_at give ls p

abbrev pub rest_at : List (List item.Item) → ℕ → List (List item.Item)
rest_at [] p = []
rest_at (l ∷ ls) zero = rest_in l ∷ ls
rest_at (l ∷ ls) (suc p) = l ∷ rest_at ls p

-- what passes next, and what is left: the port in turn has had one more item
abbrev pub front_of : (item.Item → List item.Item) → Turns → Option (List item.Item)
front_of give s = front_at give s.lists s.port

abbrev pub passed : List ℕ → Turns → Turns
passed ws s = record { port = next_port ws s.port s.had; had = next_had ws s.port s.had; lists = rest_at s.lists s.port }

-- how many items wait
abbrev pub waiting : List (List item.Item) → ℕ
waiting [] = 0
waiting (l ∷ ls) = length l + waiting ls

-- an item comes to a port
abbrev pub put : ℕ → item.Item → Turns → Turns
put p x s = record { port = s.port; had = s.had; lists = append_at s.lists p (x ∷ []) }

-- what passes, as long as the port in turn has an item, and what is left. `give` says what one item gives
abbrev pub settled : (item.Item → List item.Item) → List ℕ → Turns → List item.Item × Turns
settled give ws s = drain (front_of give) (passed ws) (waiting s.lists) s

-- one item comes to a port of a joiner
abbrev pub joins : (item.Item → List item.Item) → List ℕ → ℕ → item.Item → Turns → List item.Item × Turns
joins give ws p x s = settled give ws (put p x s)

-- an item that passes as it is
abbrev pub itself : item.Item → List item.Item
itself x = x ∷ []
