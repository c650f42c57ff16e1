-- What a splitter keeps, and how it passes a change.
use Rattle.std.specs.Prelude.{◌≡◌, ℕ, List}
use Rattle.river_base.specs.declared.item.Change.{Change}
use Rattle.river_base.specs.declared.item.Flat as flat
use Rattle.river_base.specs.declared.item.Flat.TheVariants.{Change as Changed}
use Rattle.kern_changes.specs.declared.owed.Debt.{Debt}
use Rattle.kern_changes.specs.Owed.{DealsOwed, KeepsOwed, owed_start}
use Rattle.kern_rows.specs.Turns.{next_port, next_had, IsTurn}

-- the port in turn, and how many items it had
pub record PortInTurn : Type 0 where
  pub port : ℕ
  pub had : ℕ

-- what a splitter keeps: its turn, and where it deals a relation what each list owes
pub record Dealt : Type 0 where
  pub turn : PortInTurn
  pub owed : List Debt

-- before the first item: the first of so many ports is in turn, and nothing is owed
abbrev pub dealt_start : ℕ → Dealt
dealt_start n = record { turn = record { port = 0; had = 0 }; owed = owed_start n }

-- the port in turn has had fewer than its share
abbrev pub IsPortInTurn : List ℕ → PortInTurn → Type 0
IsPortInTurn ws t = IsTurn ws t.port t.had

-- the port in turn has had one item more
pub record TurnsOn (ws : List ℕ) (old new : PortInTurn) : Type 0 where
  pub port : new.port ≡ next_port ws old.port old.had
  pub had : new.had ≡ next_had ws old.port old.had
  pub turn : IsPortInTurn ws new

-- a change came in the turn of the list at a place: what is given is the change of this list, and what each list owes is kept
pub record DealsChange (place : ℕ) (c : Change) (old new : List Debt) (g : flat.Flat) : Type 0 where
  pub given : Change
  pub is : g ≡ Changed given
  pub contents : DealsOwed place c old new given
  pub keeps : KeepsOwed c old new given

-- so it is with an item that is a change
pub record DealsFlat (place : ℕ) (x : flat.Flat) (old new : List Debt) (g : flat.Flat) : Type 0 where
  pub each : (c : Change) → x ≡ Changed c → DealsChange place c old new g
