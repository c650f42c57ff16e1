-- What kept states stand for, and what steps do to each state that they stand for.
use Rattle.std.specs.Prelude.{◌≡◌, ℕ, zero, suc, ℤ, pos, Bool, true, false, ◌+◌, ◌<◌, ◌≤◌, List, ◌++◌, length, map, take, drop, max, slice_index_or, Option, Some, None}
use Rattle.river_base.specs.Grew.{GrewByPrefix}
use Rattle.kern_rows.specs.Forms.{FilterForm, RunForm}
use Rattle.kern_rows.specs.Runs.{Filtering, buffer_of, begins, usual_run, first_run, filter_one, run_kept}
use Rattle.work_code.specs.Ran.{Ran}
use Rattle.work_code.specs.Steps.{BodyForm}

-- what a filter keeps: whether a first run of its own is to come, the values that wait, and the slots
pub record Waiting : Type 0 where
  pub fresh : Bool
  pub buffer : List ℤ
  pub kept : List ℤ

-- a first run of its own is to come
abbrev pub is_fresh : Option RunForm → ℕ → Bool
is_fresh None j = false
is_fresh (Some r) zero = true
is_fresh (Some r) (suc j) = false

-- the next run, and how many values it needs
abbrev pub run_now : FilterForm → Bool → RunForm
run_now f true = first_run f
run_now f false = usual_run f

abbrev pub needs_now : FilterForm → Bool → ℕ
needs_now f true = max (first_run f).peek 1
needs_now f false = f.peek

-- the values that no run has taken wait
pub record KeepsFor (f : FilterForm) (now : Waiting) (s : Filtering) : Type 0 where
  pub fresh : now.fresh ≡ is_fresh f.first s.fired
  pub buffer : now.buffer ≡ buffer_of f s
  pub kept : now.kept ≡ s.kept
  pub taken : begins f s.fired ≤ length s.seen

-- and they are fewer than a run needs
pub record StandsForFiltering (f : FilterForm) (now : Waiting) (s : Filtering) : Type 0 where
  pub keeps : KeepsFor f now s
  pub few : length now.buffer < needs_now f now.fresh

-- the first value of each row that is pushed
abbrev pub first_values : List (ℕ × List ℤ) → List ℤ
first_values es = map (λ e. slice_index_or e.1 0 (pos 0)) es

-- a value came: the output grew by what is given, and the new state stands for the next one
pub record Filters (f : FilterForm) (v : ℤ) (old new : Waiting) (out out' : List ℤ) : Type 0 where
  pub each : (s : Filtering) → StandsForFiltering f old s
      → (out' ≡ out ++ first_values (filter_one f v s).pushes) × StandsForFiltering f new (filter_one f v s).after

-- a value came, and there was no memory: the output grew by a part
pub record GaveUp (f : FilterForm) (v : ℤ) (old : Waiting) (out out' : List ℤ) : Type 0 where
  pub each : (s : Filtering) → StandsForFiltering f old s → GrewByPrefix out (first_values (filter_one f v s).pushes) out'

-- what the next run does
abbrev pub ran_now : FilterForm → Waiting → Ran
ran_now f w = run_kept (run_now f w.fresh).body w.kept (take (run_now f w.fresh).peek w.buffer)

-- one run of a body, which looks at `peek` values and takes `pop` of them
pub record RunIs (peek pop : ℕ) (b : BodyForm) (old new : Waiting) (out out' : List ℤ) : Type 0 where
  pub grew : out' ≡ out ++ first_values (run_kept b old.kept (take peek old.buffer)).pushes
  pub fresh : new.fresh ≡ false
  pub buffer : new.buffer ≡ drop pop old.buffer
  pub kept : new.kept ≡ (run_kept b old.kept (take peek old.buffer)).slots

-- the next run
abbrev pub RunsOnce : FilterForm → Waiting → Waiting → List ℤ → List ℤ → Type 0
RunsOnce f old new out out' = let r = run_now f old.fresh in RunIs r.peek r.pop r.body old new out out'
