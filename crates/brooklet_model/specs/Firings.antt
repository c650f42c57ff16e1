-- What firings give, and firings one after another.
use Rattle.std.specs.Prelude.{◌≡◌, ℕ, ℤ, ◌+◌, ◌-◌, List, [], ◌∷◌, ◌++◌, nat_lt, if◌then◌else◌}
use Rattle.river_base.specs.declared.item.Item as item
use Rattle.river_base.specs.Places.{only, none}
use Rattle.kern_rows.specs.Runs.{Filtering}
use Rattle.kern_rows.specs.Turns.{Turns}
use Rattle.kern_bags.specs.Steps.{Pairing}

-- the state of one private variable
pub data Kept : Type 0 where
  -- the kept slots of a body
  Slots : List ℤ → Kept
  -- a filter
  Buffered : Filtering → Kept
  -- a splitter: the port in turn, and how many items it had
  Turn : ℕ → ℕ → Kept
  -- a joiner
  Joining : Turns → Kept
  -- a window or a streamer: all that it has received
  Received : List item.Item → Kept
  -- a product of two relations
  Crossing : Pairing → Kept

-- what a firing gives: the items of each output port, the rows for each table, and the states after it
pub record Fired : Type 0 where
  pub outs : ℕ → List item.Item
  pub adds : ℕ → List (List ℤ)
  pub states : List Kept

-- items at one port
abbrev pub gives : ℕ → List item.Item → List Kept → Fired
gives p xs ss = record { outs = only p xs; adds = none; states = ss }

-- one firing after another
abbrev pub and_then : Fired → Fired → Fired
and_then r s = record { outs = λ p. r.outs p ++ s.outs p; adds = λ t. r.adds t ++ s.adds t; states = s.states }

-- the firings of a list of items, one after another
abbrev pub feed : (item.Item → List Kept → Fired) → List item.Item → List Kept → Fired
feed f [] ss = record { outs = none; adds = none; states = ss }
feed f (x ∷ xs) ss = let r = f x ss in and_then r (feed f xs r.states)

-- the ports of the first kernel, with the n ports of the second in place of port `at`
abbrev pub splice : {A : Type 0} → ℕ → ℕ → (ℕ → A) → (ℕ → A) → ℕ → A
splice at n f g p = if nat_lt p at then f p else (if nat_lt (p - at) n then g (p - at) else f (p - n + 1))

-- the n tables of the first kernel, then those of the second
abbrev pub beside : {A : Type 0} → ℕ → (ℕ → A) → (ℕ → A) → ℕ → A
beside n f g t = if nat_lt t n then f t else g (t - n)

-- a firing of a kernel with n tables, and then those of a second kernel with m ports on what came at port `at`
abbrev pub fused_of : ℕ → ℕ → ℕ → Fired → (List item.Item → Fired) → Fired
fused_of at m n r second =
    let s = second (r.outs at) in
    record { outs = splice at m r.outs s.outs; adds = beside n r.adds s.adds; states = r.states ++ s.states }

-- the same items, rows and states
pub record Same (r s : Fired) : Type 0 where
  pub outs : (p : ℕ) → r.outs p ≡ s.outs p
  pub adds : (t : ℕ) → r.adds t ≡ s.adds t
  pub states : r.states ≡ s.states
