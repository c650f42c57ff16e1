-- Periods of streams of the StreamIt language: for so many items more a stream gives so many more, and to give them it looks at no more than
-- so many beyond them. Read `filter_period` first. A filter that keeps values from firing to firing has none; one may have `prework` of its
-- own, and what stands at the front of an output then comes of first firings: see `filter_fades`.
use Rattle.std.specs.Prelude.{ℕ, zero, suc, ◌+◌, ◌-◌, ◌*◌, ◌/◌, ◌%◌, max, Bool, false, ◌||◌, nat_lt, nat_eq, if◌then◌else◌, List, length, slice_index_or, Option, Some, None}
use Rattle.std.specs.Prelude.{Result, Ok, Err}
use Rattle.work_code.specs.Steps.{Step, Steps}
use Rattle.work_code.specs.Steps as steps
use Rattle.kern_rows.specs.Forms.{FilterForm, RunForm}

-- for so many items more it gives so many more, and to give them it looks at no more than so many beyond them
pub record Period : Type 0 where
  pub takes : ℕ
  pub gives : ℕ
  pub reach : ℕ

-- why there is none: this filter sets a field, or the branches of a split-join do not keep step
pub data NoPeriod : Type 0 where
  Keeps : List ℕ → NoPeriod
  Unbalanced : NoPeriod

-- FILTERS

-- how often so many have to come so that there are so many
abbrev pub times_for : ℕ → ℕ → ℕ
times_for wanted each = (wanted + (each - 1)) / each

-- a slot below this number is set
abbrev mutual
  pub sets_below : ℕ → Step → Bool
  sets_below n (steps.Set slot t) = nat_lt slot n
  sets_below n (steps.Push port ts) = false
  sets_below n (steps.If cond when otherwise) = any_sets_below n when || any_sets_below n otherwise

  pub any_sets_below : ℕ → Steps → Bool
  any_sets_below n steps.Done = false
  any_sets_below n (steps.Then s ss) = sets_below n s || any_sets_below n ss

-- the first firing waits for its items, one at least; to give a period behind it, as many as `work` looks at have to be there behind those that it pops
abbrev pub started_period : List ℕ → FilterForm → Option RunForm → Result Period NoPeriod
started_period name f None = Ok (record { takes = f.pop; gives = f.push; reach = f.peek - f.pop })
started_period name f (Some r) =
    if any_sets_below (length f.starts) r.body.steps then Err (Keeps name)
    else Ok (record { takes = f.pop; gives = f.push; reach = max (max r.peek 1) (r.pop + f.peek - f.pop) })

-- a filter that sets no field, in its first firing too: its fields are as `init` left them, at each firing
abbrev pub filter_period : List ℕ → FilterForm → Result Period NoPeriod
filter_period name f = if any_sets_below (length f.starts) f.body.steps then Err (Keeps name) else started_period name f f.first

-- behind so many items of what the filter gives its first v items, and its first firing, have no effect
abbrev pub filter_fades : FilterForm → Option RunForm → ℕ → ℕ
filter_fades f None v = times_for v f.pop * f.push
filter_fades f (Some r) v = r.push + times_for (v - r.pop) f.pop * f.push

-- KEEPING STEP

-- the greatest common divisor of two numbers, by Euclid, in n steps at most
abbrev pub common_by : ℕ → ℕ → ℕ → ℕ
common_by zero a b = a
common_by (suc n) a b = if nat_eq b 0 then a else common_by n b (a % b)

abbrev pub common : ℕ → ℕ → ℕ
common a b = common_by (suc b) a b

-- one stream after another: so many periods of each that the second takes what the first gives. To give as many items more as the
-- second reaches for, the first has further periods
abbrev pub after : Period → Period → Period
after p q =
    let g = common p.gives q.takes in
    record { takes = q.takes / g * p.takes; gives = p.gives / g * q.gives; reach = p.reach + times_for q.reach p.gives * p.takes }

-- what a branch gives in cycles of the joiner, where it has this weight
abbrev pub in_cycles : ℕ → Period → Period
in_cycles weight p = let g = common p.gives weight in record { takes = weight / g * p.takes; gives = p.gives / g; reach = p.reach }

-- two branches, each in cycles of the joiner, keep step where they give as many cycles for as many items
abbrev pub beside : Period → Period → Result Period NoPeriod
beside p q =
    let g = common p.takes q.takes in
    let m = q.takes / g in
    let n = p.takes / g in
    if nat_eq (m * p.gives) (n * q.gives) then Ok (record { takes = m * p.takes; gives = m * p.gives; reach = max p.reach q.reach }) else Err Unbalanced

-- the weight of branch i of a splitter or joiner
abbrev pub weight : List ℕ → ℕ → ℕ
weight ws i = slice_index_or ws i 0
