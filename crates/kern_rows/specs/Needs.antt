-- What runs of the kernels on rows need: what well-formed kernels have.
use Rattle.std.specs.Prelude.{◌≡◌, ℕ, ◌<◌, ◌≤◌, List, length, Option, Some, None}
use Rattle.std.specs.List.{AllByRecursion}
use Rattle.work_code.specs.Steps.{Step, Steps, BodyForm, Set, Push, If, Done, Then}
use Rattle.work_code.specs.Ran.{IsBodyWithin}
use Rattle.kern_rows.specs.Forms.{CodeForm, FilterForm, RunForm}
use Rattle.kern_rows.specs.Turns.{Turns, IsTurn}

-- the body runs on so many inputs, with so many kept slots among its slots
pub record CanRun (inputs : ℕ) (b : BodyForm) (kept : ℕ) : Type 0 where
  pub within : IsBodyWithin inputs b.slots b.steps
  pub slots : kept ≤ b.slots

abbrev pub CanCode : CodeForm → Type 0
CanCode k = CanRun k.body.inputs k.body (length k.starts)

-- every row is pushed to port 0 and has one value
abbrev mutual
  pub GivesOnce : Step → Type 0
  GivesOnce (Set slot t) = Unit {0}
  GivesOnce (Push port ts) = (port ≡ 0) × (length ts ≡ 1)
  GivesOnce (If cond when otherwise) = GivesValues when × GivesValues otherwise

  pub GivesValues : Steps → Type 0
  GivesValues Done = Unit {0}
  GivesValues (Then s ss) = GivesOnce s × GivesValues ss

-- one run, with so many kept slots
pub record CanRunOnce (kept : ℕ) (r : RunForm) : Type 0 where
  pub runs : CanRun r.peek r.body kept
  pub gives : GivesValues r.body.steps
  pub peeks : r.pop ≤ r.peek

abbrev pub CanRunFirst : ℕ → Option RunForm → Type 0
CanRunFirst kept None = Unit {0}
CanRunFirst kept (Some r) = CanRunOnce kept r

pub record CanFilter (f : FilterForm) : Type 0 where
  pub runs : CanRun f.peek f.body (length f.starts)
  pub gives : GivesValues f.body.steps
  pub pops : 1 ≤ f.pop
  pub peeks : f.pop ≤ f.peek
  pub first : CanRunFirst (length f.starts) f.first

-- there are shares, and each is at least 1
abbrev pub HaveShares : List ℕ → Type 0
HaveShares ws = (0 < length ws) × AllByRecursion (λ w. 0 < w) ws

-- the port in turn is one of the ports, and there is a list for each
pub record IsJoiner (ws : List ℕ) (s : Turns) : Type 0 where
  pub turn : IsTurn ws s.port s.had
  pub lists : length s.lists ≡ length ws
