-- What a program with parameters means on the items of its input.
use Rattle.std.specs.Prelude.{ℕ, zero, suc, ℤ, pos, ◌+◌, List, [], ◌∷◌, ◌++◌, length, map, replicate, reverse, nat_le, if◌then◌else◌}
use Rattle.river_base.specs.Name.{name_eq}
use Rattle.river_plan.specs.Forms.{Name}
use Rattle.brooklet_model.specs.ByIndex.{collected}
use Rattle.streamit_model.specs.Meaning.{State, exec_all, exec_optional, turns_between, runs_in, start_at, waits_for, looked_at, nought, with_fields, Works, weights_for, share_of}
use Rattle.streamit_text.specs.Program.{FilterTree}
use Rattle.params_text.specs.Program.{Step, Add, Loop, Steps, End, Then, Body, AFilter, APipeline, ASplitJoin, UnitForm, ParamProgram}
use Rattle.params_model.specs.Environment.{Environment, bound, under, value, option_counts, rated, dealing}

-- A FILTER: its firings as without parameters, where each parameter has its value all along

abbrev pub started : Environment → List Name → List ℤ → State
started env fields kept = record { values = under env (with_fields fields kept nought); popped = 0; pushed = [] }

-- the fields after `init`
abbrev pub initial_under : Environment → FilterTree → List ℤ
initial_under env t = map (exec_optional t.init [] (started env t.fields (replicate (length t.fields) (pos 0)))).values t.fields

-- firing j: its block runs on the items that it looks at
abbrev pub fires_under : Environment → FilterTree → ℕ → List ℤ → List ℤ → State
fires_under env t j kept xs = exec_all (runs_in t j).block (looked_at t j xs) (started env t.fields kept)

-- firing j and those after it, n at most; the fields pass from one to the next
abbrev pub fires_from_under : Environment → FilterTree → ℕ → ℕ → List ℤ → List ℤ → List ℤ
fires_from_under env t zero j kept xs = []
fires_from_under env t (suc n) j kept xs =
    if nat_le (start_at t j + waits_for t j) (length xs)
    then (let s = fires_under env t j kept xs in s.pushed ++ fires_from_under env t n (suc j) (map s.values t.fields) xs)
    else []

abbrev pub pushed_under : Environment → FilterTree → Works
pushed_under env t xs = fires_from_under env t (suc (length xs)) 0 (initial_under env t) xs

-- THE CHILDREN OF STEPS: each a stream's name and the values of its arguments

abbrev pub Child : Type 0
Child = Name × List ℤ

abbrev pub children_each_turn : (ℕ → List Child) → List ℕ → List Child
children_each_turn f [] = []
children_each_turn f (v ∷ vs) = f v ++ children_each_turn f vs

abbrev mutual
  pub children_once : Environment → Step → List Child
  children_once env (Add n cs) = (n, map (value env) cs) ∷ []
  children_once env (Loop n low upto high ss) = children_each_turn (λ v. children ((n, pos v) ∷ env) ss) (turns_between (value env low) upto (value env high))

  pub children : Environment → Steps → List Child
  children env End = []
  children env (Then s ss) = children_once env s ++ children env ss

-- STREAMS

-- what named streams do under the values of their arguments
abbrev pub Streams : Type 0
Streams = Name → List ℤ → Works

-- one child after another
abbrev pub in_line : Streams → List Child → Works
in_line all [] xs = xs
in_line all (c ∷ cs) xs = in_line all cs (all c.0 c.1 xs)

-- child by child, child p on what f gives it
abbrev pub side_by_side : Streams → List Child → (ℕ → List ℤ) → List (List ℤ)
side_by_side all [] f = []
side_by_side all (c ∷ cs) f = all c.0 c.1 (f 0) ∷ side_by_side all cs (λ p. f (suc p))

-- what is declared, under an environment, where `all` says what the streams above do
abbrev pub works_under : Streams → Environment → Body → Works
works_under all env (AFilter t) xs = pushed_under env (rated env t) xs
works_under all env (APipeline ss) xs = in_line all (children env ss) xs
works_under all env (ASplitJoin d ss ws) xs =
    let cs = children env ss in
    let n = length cs in
    collected (weights_for (option_counts env ws) n) (side_by_side all cs (λ p. share_of (dealing env d) n p xs))

-- what the stream of this name does under the values of its arguments; the streams are given with the newest first
abbrev pub stream_works : List UnitForm → Streams
stream_works [] n zs xs = xs
stream_works (u ∷ us) n zs xs = if name_eq u.name n then works_under (stream_works us) (bound u.params zs) u.body xs else stream_works us n zs xs

-- the last stream, under the empty environment
abbrev pub last_works : List UnitForm → Works
last_works [] xs = xs
last_works (u ∷ us) xs = works_under (stream_works us) [] u.body xs

abbrev pub params_outputs : ParamProgram → Works
params_outputs p xs = last_works (reverse p) xs
