-- Firings of one kernel in any order of its ports.
use Rattle.std.specs.Prelude.{◌≡◌, ℕ, zero, suc, ◌<◌, nat_eq, if◌then◌else◌, List, [], ◌∷◌, ◌++◌}
use Rattle.river_base.specs.declared.item.Item as item
use Rattle.river_base.specs.Bags.{SameBag}
use Rattle.river_base.specs.Places.{none}
use Rattle.river_kernels.specs.Kern.{Kern}
use Rattle.brooklet_model.specs.Firings.{Kept, Fired, and_then}
use Rattle.brooklet_model.specs.Fire.{fire, ins}

-- firings, each a port and an item
abbrev pub Word : Type 0
Word = List (ℕ × item.Item)

abbrev pub run : (ℕ → item.Item → List Kept → Fired) → Word → List Kept → Fired
run f [] ss = record { outs = none; adds = none; states = ss }
run f (e ∷ es) ss = let r = f e.0 e.1 ss in and_then r (run f es r.states)

-- the items that came at a port
abbrev pub at_port : ℕ → Word → List item.Item
at_port p [] = []
at_port p (e ∷ es) = if nat_eq e.0 p then e.1 ∷ at_port p es else at_port p es

-- each port is below n
abbrev pub PortsBelow : ℕ → Word → Type 0
PortsBelow n [] = Unit {0}
PortsBelow n (e ∷ es) = (e.0 < n) × PortsBelow n es

-- a list of items at one port, a firing each
abbrev pub word_of : ℕ → List item.Item → Word
word_of p [] = []
word_of p (x ∷ xs) = (p, x) ∷ word_of p xs

-- the whole list of port p, then of port p + 1, and so on, for n ports
abbrev pub port_by_port : ℕ → ℕ → (ℕ → List item.Item) → Word
port_by_port zero p h = []
port_by_port (suc n) p h = word_of p (h p) ++ port_by_port n (suc p) h

-- the kernel is fed with the whole list of port 0, then with that of port 1, and so on
abbrev pub feed_all : Kern → (ℕ → List item.Item) → List Kept → Fired
feed_all k h ss = run (fire k) (port_by_port (ins k) 0 h) ss

-- the same items and states, and the same bags of rows
pub record Alike (r s : Fired) : Type 0 where
  pub outs : (p : ℕ) → r.outs p ≡ s.outs p
  pub adds : (t : ℕ) → SameBag (r.adds t) (s.adds t)
  pub states : r.states ≡ s.states

-- the word has these items at each of n ports, in any order of the ports
pub record IsInterleaving (n : ℕ) (h : ℕ → List item.Item) (w : Word) : Type 0 where
  pub below : PortsBelow n w
  pub lists : (p : ℕ) → p < n → at_port p w ≡ h p
