-- The laws of bounded moves, and of what operators received: statements over the definitions alone.
use Rattle.std.specs.Prelude.{◌≡◌, ℕ, ◌+◌, ◌*◌, ◌<◌, ◌≤◌, List, [], Some, slice_get, length}
use Rattle.river_base.specs.declared.item.Item as item
use Rattle.river_base.specs.Bags.{SameBag}
use Rattle.river_plan.specs.Forms.{Name, OpForm, PlanForm, table_names, queue_names}
use Rattle.river_plan.specs.Valid.{IsPlan}
use Rattle.brooklet_model.specs.Bounded.{Bounded, Capacities, at_first, machine_of, Send, Take, IsWithinCapacities, IsBusy, LastMoves, Rounds, MoveOrEnd}
use Rattle.brooklet_model.specs.Histories.{hist, all_adds, given_on, lengths}
use Rattle.brooklet_model.specs.Machine.{Machine, Run, Step, start}
use Rattle.brooklet_model.specs.Nets.{IsNet, Leads, and_took, sent_count_in}
use Rattle.brooklet_model.specs.Received.{AreWords, AreDone, Reaches, IsFront, hist_by, rows_added, HasSent, lengths_at, moves_made}
use Rattle.brooklet_model.specs.Traced.{ran}
use Rattle.brooklet_model.specs.Words.{Word}

-- The named run: where what each operator received is the front of what was given there, the run that fires operator by
-- operator is a run, and it reaches the histories and states that the operators have.
abbrev pub NamedRuns : Type 0
NamedRuns =
    (p : PlanForm) (inputs : List (List item.Item)) (ws : ℕ → Word) → IsPlan p → AreWords p inputs ws
    → (s : Machine) × Reaches p inputs ws s

-- Runs that stop early: the histories of any run are fronts of the defined ones.
abbrev pub RunsAreFronts : Type 0
RunsAreFronts =
    (p : PlanForm) (inputs : List (List item.Item)) (es : List (ℕ × ℕ)) (s : Machine) → IsPlan p → Run p (start p inputs) es s
    → (q : Name) → IsFront (s.hist q) (hist p inputs q)

-- So are the histories of what operators received.
abbrev pub WordsAreFronts : Type 0
WordsAreFronts =
    (p : PlanForm) (inputs : List (List item.Item)) (ws : ℕ → Word) → IsPlan p → AreWords p inputs ws
    → (q : Name) → IsFront (hist_by p inputs ws q) (hist p inputs q)

-- The moves, takes and sends, are at most twice as many as there are items in the defined histories.
abbrev pub MovesAreFew : Type 0
MovesAreFew =
    (p : PlanForm) (inputs : List (List item.Item)) (ws : ℕ → Word) (sent : ℕ → ℕ) → IsPlan p → AreWords p inputs ws → HasSent p inputs ws sent
    → moves_made p ws sent ≤ 2 * lengths (hist p inputs) (queue_names p)

-- Rounds of moves from the beginning, of which each moves something or is the last: at most one more than twice the items in
-- the defined histories, whatever the capacities.
abbrev pub RoundsAreFew : Type 0
RoundsAreFew =
    (p : PlanForm) (inputs : List (List item.Item)) (caps : Capacities) (rounds : List ℕ) (b : Bounded) → IsPlan p
    → Rounds p caps rounds (at_first p inputs) b → MoveOrEnd rounds
    → length rounds ≤ 1 + 2 * lengths (hist p inputs) (queue_names p)

-- where each operator received all that was given at its ports, its histories, its bags of rows and its firings are the defined ones
pub record IsWholeRun (p : PlanForm) (inputs : List (List item.Item)) (ws : ℕ → Word) : Type 0 where
  pub queues : (q : Name) → hist_by p inputs ws q ≡ hist p inputs q
  pub tables : (t : Name) → SameBag (rows_added (table_names p.tables) 0 p.ops ws t) (all_adds p inputs t)
  pub firings : (o : ℕ) (op : OpForm) → slice_get p.ops o ≡ Some op → length (ws o) ≡ lengths (hist p inputs) op.reads
  -- the rows of one operator to one table: those defined as a bag, and in order where it has one input
  pub bags : (o : ℕ) (op : OpForm) → slice_get p.ops o ≡ Some op → (t : ℕ)
      → SameBag ((ran op (ws o)).adds t) ((given_on op (hist p inputs)).adds t)
  pub rows : (o : ℕ) (op : OpForm) → slice_get p.ops o ≡ Some op → length op.reads ≡ 1 → (t : ℕ)
      → (ran op (ws o)).adds t ≡ (given_on op (hist p inputs)).adds t

-- The end: where each operator received all that was given, all is as defined.
abbrev pub DoneIsWhole : Type 0
DoneIsWhole =
    (p : PlanForm) (inputs : List (List item.Item)) (ws : ℕ → Word) → IsPlan p → AreWords p inputs ws → AreDone p inputs ws → IsWholeRun p inputs ws

-- Some operator can move: while one has a pending or an untaken item, a move is there, for all capacities from 1. It is one of the
-- last operator in the order listed that has a pending or an untaken item.
abbrev pub SomeMove : Type 0
SomeMove =
    (p : PlanForm) (caps : Capacities) (b : Bounded) (o : ℕ) (op : OpForm) → IsPlan p → ((q : Name) → 0 < caps q)
    → slice_get p.ops o ≡ Some op → IsBusy b op → LastMoves p caps b

-- bounded moves are those of the machine: a send is none, a take is a firing; and they keep the capacities
pub record AreSteps (p : PlanForm) (caps : Capacities) : Type 0 where
  pub sends : (b b' : Bounded) (o port : ℕ) → Send p caps b o port b' → machine_of b' ≡ machine_of b
  pub takes : (b b' : Bounded) (o port : ℕ) → IsPlan p → Take p b o port b' → Step p (machine_of b) o port (machine_of b')
  pub sends_within : (b b' : Bounded) (o port : ℕ) → Send p caps b o port b' → IsWithinCapacities p caps b → IsWithinCapacities p caps b'
  pub takes_within : (b b' : Bounded) (o port : ℕ) → Take p b o port b' → IsWithinCapacities p caps b → IsWithinCapacities p caps b'

-- Bounded moves are moves of the machine.
abbrev pub MovesAreSteps : Type 0
MovesAreSteps = (p : PlanForm) (caps : Capacities) → AreSteps p caps

-- what a net keeps: at the beginning, through each move, and what follows of it
pub record NetsStay (p : PlanForm) (inputs : List (List item.Item)) (caps : Capacities) : Type 0 where
  pub first : IsNet p inputs caps (λ o. []) (at_first p inputs)
  pub sends : (ws : ℕ → Word) (b b' : Bounded) (o port : ℕ) → Send p caps b o port b' → IsNet p inputs caps ws b
      → IsNet p inputs caps ws b'
  pub takes : (ws : ℕ → Word) (b b' : Bounded) (o port : ℕ) → (t : Take p b o port b') → IsNet p inputs caps ws b
      → IsNet p inputs caps (and_took o port t.item ws) b'
  pub leads : (ws : ℕ → Word) (b : Bounded) → IsNet p inputs caps ws b → (s : Machine) × Leads p inputs ws b s
  pub sent : (ws : ℕ → Word) (b : Bounded) (o : ℕ) (op : OpForm) → IsNet p inputs caps ws b → slice_get p.ops o ≡ Some op
      → sent_count_in b op.writes ≤ lengths_at op.writes (ran op (ws o)).outs
  -- where no operator has a pending or an untaken item, each received all that was given at its ports
  pub ends : (ws : ℕ → Word) (b : Bounded) → IsNet p inputs caps ws b
      → ((o : ℕ) (op : OpForm) → slice_get p.ops o ≡ Some op → IsBusy b op → ⊥) → AreDone p inputs ws

-- What a net keeps stays through each move.
abbrev pub NetsAreKept : Type 0
NetsAreKept = (p : PlanForm) (inputs : List (List item.Item)) (caps : Capacities) → IsPlan p → NetsStay p inputs caps
