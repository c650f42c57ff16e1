-- Well-formed kernels, and the states that are a kernel's own: one for each private variable, of its kind.
use Rattle.std.specs.Prelude.{◌≡◌, ℕ, ℤ, ◌<◌, List, [], ◌∷◌, length, take, drop}
use Rattle.river_base.specs.declared.kind.QueueType.{QueueType}
use Rattle.kern_rows.specs.Needs.{HaveShares, IsJoiner}
use Rattle.kern_rows.specs.Turns.{IsTurn, shares, ones}
use Rattle.river_kernels.specs.declared.types.VarKind.{VarKind}
use Rattle.river_kernels.specs.Fits.{Fits}
use Rattle.river_kernels.specs.Kern.{Kern, code, filter, duplicate, deal, collect, packed, unpack, window, select, project, cross, streamer, tally, fused}
use Rattle.brooklet_model.specs.Firings.{Kept, Slots, Buffered, Turn, Joining, Received, Crossing}
use Rattle.brooklet_model.specs.Fire.{ins, outs, tabs, privates}

-- a kernel is well formed where it fits some types
pub record IsFormed (k : Kern) : Type 0 where
  pub reads : List QueueType
  pub writes : List QueueType
  pub vars : List VarKind
  pub fits : Fits k reads writes vars

-- what well-formed kernels have, whatever the types: ports that take turns have shares, a pack and the second of two
-- kernels have one input, and the port between two kernels is there
abbrev pub IsShaped : Kern → Type 0
IsShaped (deal ws) = HaveShares (shares ws)
IsShaped (collect ws) = HaveShares (shares ws)
IsShaped (packed k) = IsShaped k × (ins k ≡ 1) × (outs k ≡ 1) × (tabs k ≡ 0) × (privates k ≡ 0)
IsShaped (unpack n) = HaveShares (ones n)
IsShaped (fused a b at) = IsShaped a × IsShaped b × (at < outs a) × (ins b ≡ 1)
IsShaped kernel = Unit {0}

-- so many slots
abbrev pub AreSlots : ℕ → Kept → Type 0
AreSlots n (Slots zs) = length zs ≡ n
AreSlots n kept = ⊥

-- the state of a filter with so many kept slots
abbrev pub IsFiltering : ℕ → Kept → Type 0
IsFiltering n (Buffered s) = length s.kept ≡ n
IsFiltering n kept = ⊥

-- the turn of a splitter
abbrev pub IsDealing : List ℕ → Kept → Type 0
IsDealing ws (Turn port had) = IsTurn ws port had
IsDealing ws kept = ⊥

abbrev pub IsJoining : List ℕ → Kept → Type 0
IsJoining ws (Joining s) = IsJoiner ws s
IsJoining ws kept = ⊥

-- what a window or a streamer has received
abbrev pub IsReceived : Kept → Type 0
IsReceived (Received xs) = Unit {0}
IsReceived kept = ⊥

-- what waits at a product's ports
abbrev pub IsCrossing : Kept → Type 0
IsCrossing (Crossing s) = Unit {0}
IsCrossing kept = ⊥

-- there is no state, or just one and it is of this kind
abbrev pub IsNone : List Kept → Type 0
IsNone [] = Unit {0}
IsNone (s ∷ ss) = ⊥

abbrev pub IsOne : (Kept → Type 0) → List Kept → Type 0
IsOne P [] = ⊥
IsOne P (s ∷ []) = P s
IsOne P (s ∷ t ∷ ts) = ⊥

abbrev pub HasSlots : List ℤ → List Kept → Type 0
HasSlots [] ss = IsNone ss
HasSlots (z ∷ zs) ss = IsOne (AreSlots (length (z ∷ zs))) ss

-- the states are those of the kernel's private variables
abbrev pub HasShape : Kern → List Kept → Type 0
HasShape (code k) ss = HasSlots k.starts ss
HasShape (filter f) ss = IsOne (IsFiltering (length f.starts)) ss
HasShape (duplicate n) ss = IsNone ss
HasShape (deal ws) ss = IsOne (IsDealing (shares ws)) ss
HasShape (collect ws) ss = IsOne (IsJoining (shares ws)) ss
HasShape (packed k) ss = HasShape k ss
HasShape (unpack n) ss = IsOne (IsJoining (ones n)) ss
HasShape (window w) ss = IsOne IsReceived ss
HasShape (select e) ss = IsNone ss
HasShape (project es) ss = IsNone ss
HasShape cross ss = IsOne IsCrossing ss
HasShape (streamer s) ss = IsOne IsReceived ss
HasShape tally ss = IsNone ss
HasShape (fused a b at) ss = HasShape a (take (privates a) ss) × HasShape b (drop (privates a) ss)
