-- What a step of fission answers: the new plan, or the first condition that fails.
use Rattle.std.specs.Prelude.{ℕ, Bool, true, false, ◌&&◌, nat_lt, nat_le, nat_eq, if◌then◌else◌, Option, Some, None, is_none, Result, Ok, Err, List, [], ◌∷◌, ◌++◌}
use Rattle.std.specs.Prelude.{length}
use Rattle.std.specs.List.{list_all}
use Rattle.river_base.specs.declared.kind.QueueType.{QueueType}
use Rattle.river_base.specs.declared.kind.QueueType.TheVariants.{Flat, Pack}
use Rattle.river_kernels.specs.Kern.{Kern, filter}
use Rattle.river_kernels.specs.Limits.{either}
use Rattle.river_plan.specs.Forms.{Name, OpForm, PlanForm, all_decls, table_names}
use Rattle.river_plan.specs.Kinds.{kind_of}
use Rattle.river_plan.specs.Names.{count}
use Rattle.river_plan.specs.Uses.{named_it}
use Rattle.rw_fission.specs.Fission.{Way, by_packs, by_blocks, by_adds, split_by}
use Rattle.plan_edits.specs.Lists.{first_with}
use Rattle.rw_fission.specs.Made.{FissionNames, made_of, each_name}
use Rattle.rw_fission.specs.May.{is_apart}
use Rattle.plan_edits.specs.declared.unfit.Unfit.{Unfit}
use Rattle.plan_edits.specs.declared.unfit.Unfit.TheVariants.{N1, N2, N3, N4, N5, NoMemory}

-- THE FORM

-- no variable, one output, which is flat
abbrev pub packs_to : PlanForm → OpForm → FissionNames → ℕ → QueueType → Option Way
packs_to p op m n (Flat u) = Some (by_packs p op m n u)
packs_to p op m n (Pack u) = None

abbrev pub packs_way : PlanForm → OpForm → FissionNames → ℕ → (writes vars : List Name) → Option Way
packs_way p op m n [] vs = None
packs_way p op m n (out ∷ []) [] = packs_to p op m n (kind_of (all_decls p) out)
packs_way p op m n (out ∷ []) (v ∷ vs) = None
packs_way p op m n (out ∷ q ∷ qs) vs = None

abbrev pub is_nil : {A : Type 0} → List A → Bool
is_nil [] = true
is_nil (x ∷ xs) = false

-- a filter that takes all that it looks at, keeps no slot, pushes something, and whose first run is as the others
abbrev pub blocks_way : PlanForm → OpForm → FissionNames → ℕ → Kern → Option Way
blocks_way p op m n (filter f) =
    if nat_eq f.peek f.pop && (is_nil f.starts && (is_none f.first && nat_le 1 f.push)) then Some (by_blocks p op m n f.pop f.push) else None
blocks_way p op m n kernel = None

-- no output, at least one variable, all of them tables
abbrev pub adds_way : PlanForm → OpForm → FissionNames → (writes vars : List Name) → Option Way
adds_way p op m [] [] = None
adds_way p op m [] (v ∷ vs) = if list_all (λ x. nat_lt 0 (count x (table_names p.tables))) (v ∷ vs) then Some (by_adds p op m) else None
adds_way p op m (q ∷ qs) vs = None

abbrev pub flat_way : PlanForm → OpForm → FissionNames → ℕ → Option Way
flat_way p op m n = either (packs_way p op m n op.writes op.vars) (either (blocks_way p op m n op.kernel) (adds_way p op m op.writes op.vars))

abbrev pub way_of : PlanForm → OpForm → FissionNames → ℕ → QueueType → Option Way
way_of p op m n (Flat t) = flat_way p op m n
way_of p op m n (Pack t) = None

-- THE ANSWER

-- all names that are made
abbrev pub all_made : FissionNames → ℕ → List Name
all_made m n = m.splitter ∷ m.joiner ∷ (each_name m.replica n ++ (each_name m.dealt n ++ each_name m.given n))

abbrev pub are_short : List Name → Bool
are_short ws = list_all (λ w. nat_le (length w) 64) ws

-- the plan, if what is made fits
abbrev pub fitting : FissionNames → ℕ → PlanForm → Result PlanForm Unfit
fitting m n q = if are_short (all_made m n) && is_apart q then Ok q else Err N5

abbrev pub by_way : PlanForm → Name → OpForm → ℕ → QueueType → Option Way → Result PlanForm Unfit
by_way p l op n t None = Err N4
by_way p l op n t (Some w) = fitting (made_of l) n (split_by p l op (made_of l) n t w)

abbrev pub by_reads : PlanForm → Name → OpForm → ℕ → List Name → Result PlanForm Unfit
by_reads p l op n [] = Err N3
by_reads p l op n (source ∷ []) = by_way p l op n (kind_of (all_decls p) source) (way_of p op (made_of l) n (kind_of (all_decls p) source))
by_reads p l op n (source ∷ q ∷ qs) = Err N3

abbrev pub by_op : PlanForm → Name → ℕ → Option OpForm → Result PlanForm Unfit
by_op p l n None = Err N1
by_op p l n (Some op) = if nat_le 2 n && nat_le n 16 then by_reads p l op n op.reads else Err N2

-- N1: no operator of this label. N2: n is not 2 to 16. N3: it has not one input. N4: it has none of the three forms.
-- N5: a made name is too long or stands twice, or a number of the result is above its limit
abbrev pub fission_of : PlanForm → Name → ℕ → Result PlanForm Unfit
fission_of p l n = by_op p l n (first_with (named_it l) p.ops)

-- this holds of what a call answers; of want of memory nothing is said
abbrev pub HoldsOfAnswer : (Result PlanForm Unfit → Type 0) → Result PlanForm Unfit → Type 0
HoldsOfAnswer P (Ok q) = P (Ok q)
HoldsOfAnswer P (Err NoMemory) = Unit {0}
HoldsOfAnswer P (Err f) = P (Err f)
