-- Values of parameters and of the variables of loops.
use Rattle.std.specs.Prelude.{ℕ, ℤ, List, [], ◌∷◌, map, Option, Some, None}
use Rattle.river_base.specs.Number.{count_of}
use Rattle.streamit_text.specs.Tree.{Expression}
use Rattle.river_plan.specs.Forms.{Name}
use Rattle.brooklet_model.specs.Machine.{at_name}
use Rattle.streamit_model.specs.Meaning.{Store, eval, nought}
use Rattle.streamit_text.specs.Program.{WorkTree, FilterTree}
use Rattle.params_text.specs.Program.{ParamWork, ParamFilter, Dealing, Copies, Turns}
use Rattle.streamit_text.specs.Program as plain

-- the newest first
abbrev pub Environment : Type 0
Environment = List (Name × ℤ)

-- parameters have the values of the arguments, in order
abbrev pub bound : List Name → List ℤ → Environment
bound [] zs = []
bound (p ∷ ps) [] = []
bound (p ∷ ps) (z ∷ zs) = (p, z) ∷ bound ps zs

-- the values of all names, of which the environment's have those that it gives
abbrev pub under : Environment → Store → Store
under [] values = values
under (e ∷ env) values = at_name e.0 e.1 (under env values)

-- the value of an expression of numbers and known names
abbrev pub value : Environment → Expression → ℤ
value env c = eval c [] (under env nought) 0

-- a rate or a weight
abbrev pub count_in : Environment → Expression → ℕ
count_in env c = count_of (value env c)

abbrev pub counts_in : Environment → List Expression → List ℕ
counts_in env cs = map (count_in env) cs

abbrev pub option_count : Environment → Option Expression → Option ℕ
option_count env None = None
option_count env (Some c) = Some (count_in env c)

abbrev pub option_counts : Environment → Option (List Expression) → Option (List ℕ)
option_counts env None = None
option_counts env (Some cs) = Some (counts_in env cs)

-- `work` or `prework` with the values of its rates
abbrev pub rated_work : Environment → ParamWork → WorkTree
rated_work env w = record { push = option_count env w.push; pop = option_count env w.pop; peek = option_count env w.peek; block = w.block }

abbrev pub rated_prework : Environment → Option ParamWork → Option WorkTree
rated_prework env None = None
rated_prework env (Some w) = Some (rated_work env w)

-- a filter with the values of its rates
abbrev pub rated : Environment → ParamFilter → FilterTree
rated env t = record { fields = t.fields; init = t.init; prework = rated_prework env t.prework; work = rated_work env t.work }

-- a splitter with the values of its weights
abbrev pub dealing : Environment → Dealing → plain.Dealing
dealing env Copies = plain.Copies
dealing env (Turns ws) = plain.Turns (option_counts env ws)
