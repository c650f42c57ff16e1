-- What the kernels with bodies do when they take an item: a `code` with a row, a filter with a value.
use Rattle.std.specs.Prelude.{ℕ, zero, suc, ℤ, pos, ◌+◌, ◌-◌, ◌*◌, List, [], ◌∷◌, ◌++◌, length, take, drop, replicate, max, nat_le, nat_eq, if◌then◌else◌, Option, Some, None}
use Rattle.river_base.specs.declared.item.Item as item
use Rattle.river_base.specs.declared.item.Item.TheVariants.{Flat}
use Rattle.river_base.specs.declared.item.Flat.TheVariants.{One}
use Rattle.work_code.specs.Steps.{BodyForm}
use Rattle.work_code.specs.Ran.{Ran, ran}
use Rattle.kern_rows.specs.Forms.{FilterForm, RunForm}

-- the slots at the start of a run: the kept ones first, the others 0
abbrev pub slots_from : ℕ → List ℤ → List ℤ
slots_from slots kept = kept ++ replicate (slots - length kept) (pos 0)

-- one run of a body: what it pushes, and the kept slots afterwards
abbrev pub run_kept : BodyForm → List ℤ → List ℤ → Ran
run_kept b kept input = let r = ran b.steps input (slots_from b.slots kept) in record { pushes = r.pushes; slots = take (length kept) r.slots }

-- the rows that are pushed to a port, as items
abbrev pub pushed_to : ℕ → List (ℕ × List ℤ) → List item.Item
pushed_to port [] = []
pushed_to port (e ∷ es) = if nat_eq e.0 port then Flat (One e.1) ∷ pushed_to port es else pushed_to port es

-- what a filter has received, how often it has run, and its kept slots
pub record Filtering : Type 0 where
  pub seen : List ℤ
  pub fired : ℕ
  pub kept : List ℤ

abbrev pub filter_start : FilterForm → Filtering
filter_start f = record { seen = []; fired = 0; kept = f.starts }

-- the run that comes each time
abbrev pub usual_run : FilterForm → RunForm
usual_run f = record { peek = f.peek; pop = f.pop; push = f.push; body = f.body }

-- the run that comes first
abbrev pub run_or : RunForm → Option RunForm → RunForm
run_or r None = r
run_or r (Some g) = g

abbrev pub first_run : FilterForm → RunForm
first_run f = run_or (usual_run f) f.first

-- run number j
abbrev pub run_at : FilterForm → ℕ → RunForm
run_at f zero = first_run f
run_at f (suc j) = usual_run f

-- where the values of run j begin
abbrev pub begins : FilterForm → ℕ → ℕ
begins f zero = 0
begins f (suc j) = (first_run f).pop + j * f.pop

-- how many values it needs; the first waits for one at least
abbrev pub needs : FilterForm → ℕ → ℕ
needs f zero = max (first_run f).peek 1
needs f (suc j) = f.peek

-- the values that wait: those that no run has taken
abbrev pub buffer_of : FilterForm → Filtering → List ℤ
buffer_of f s = drop (begins f s.fired) s.seen

-- what a filter pushes for a value, and what it has then
pub record Filtered : Type 0 where
  pub pushes : List (ℕ × List ℤ)
  pub after : Filtering

-- the next run of a filter, on the first values that wait
abbrev pub next_run : FilterForm → Filtering → Ran
next_run f s = let r = run_at f s.fired in run_kept r.body s.kept (take r.peek (buffer_of f s))

abbrev pub after_run : Filtering → Ran → Filtering
after_run s r = record { seen = s.seen; fired = suc s.fired; kept = r.slots }

abbrev pub with_pushes : List (ℕ × List ℤ) → Filtered → Filtered
with_pushes ps r = record { pushes = ps ++ r.pushes; after = r.after }

-- a filter runs as long as there are enough values, at most n times
abbrev pub filter_turns : FilterForm → ℕ → Filtering → Filtered
filter_turns f zero s = record { pushes = []; after = s }
filter_turns f (suc n) s =
    if nat_le (needs f s.fired) (length (buffer_of f s))
    then with_pushes (next_run f s).pushes (filter_turns f n (after_run s (next_run f s)))
    else record { pushes = []; after = s }

abbrev pub received : ℤ → Filtering → Filtering
received v s = record { seen = s.seen ++ v ∷ []; fired = s.fired; kept = s.kept }

-- one value comes; each run but the first takes a value, so there are not more runs than values and one
abbrev pub filter_one : FilterForm → ℤ → Filtering → Filtered
filter_one f v s = filter_turns f (suc (length (received v s).seen)) (received v s)
