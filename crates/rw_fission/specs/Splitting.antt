-- Which operators are split, and what that makes, without a word of how it is found: each condition, and the result.
use Rattle.std.specs.Prelude.{◌≡◌, ◌↔◌, ◌⊎◌, ℕ, ◌<◌, Result, Some, List, [], ◌∷◌, ◌++◌, length, slice_get}
use Rattle.river_base.specs.declared.kind.FlatType.{FlatType}
use Rattle.kern_rows.specs.Forms.{FilterForm}
use Rattle.river_kernels.specs.declared.limit.Limit.{Limit}
use Rattle.river_plan.specs.Forms.{Name, OpForm, PlanForm, all_decls, queue_names, variable_names, labels}
use Rattle.river_plan.specs.Kinds.{kind_of}
use Rattle.river_plan.specs.Limits.{most_of, numbers}
use Rattle.river_plan.specs.Names.{count}
use Rattle.river_plan.specs.Valid.{IsPlan}
use Rattle.plan_edits.specs.declared.unfit.Unfit.{Unfit}
use Rattle.plan_edits.specs.declared.unfit.Unfit.TheVariants.{U1, U2, U3, U4, U5, H1, H2, H3, H4, N1, N2, N3, N4, N5, NoMemory}
use Rattle.plan_edits.specs.Judged.{IsJudgedBy}
use Rattle.rw_fission.specs.Asked.{fission_of}
use Rattle.rw_fission.specs.Fission.{Way, by_packs, by_blocks, by_adds, split_ops, decls, given_decls}
use Rattle.rw_fission.specs.Made.{FissionNames, made_of, each_name}
use Rattle.rw_fission.specs.May.{MayPack, MayBlock, MayAdd}
use Rattle.rw_fission.specs.Splits.{given_names}

-- op is the plan's operator of this label
pub record IsLabelled (p : PlanForm) (l : Name) (op : OpForm) : Type 0 where
  pub before : List OpForm
  pub behind : List OpForm
  pub ops : p.ops ≡ before ++ op ∷ behind
  pub label : op.label ≡ l

-- THE THREE FORMS

-- no variable, one output, input and output flat
abbrev pub CanPack : PlanForm → OpForm → Name → Type 0
CanPack p op source = (out : Name) × (t : FlatType) × (u : FlatType) × MayPack p op source out t u

-- a filter that takes all that it looks at, keeps no slot, pushes something, and whose first run is as the others
abbrev pub CanBlock : PlanForm → OpForm → Name → Type 0
CanBlock p op source = (f : FilterForm) × MayBlock p op source f

-- no output, flat input, at least one variable, all of them tables
abbrev pub CanAdd : PlanForm → OpForm → Name → Type 0
CanAdd p op source = (t : FlatType) × MayAdd p op source t × (0 < length op.vars)

-- how the operator is split: by the first of the forms that it has
abbrev pub SplitsBy : PlanForm → OpForm → FissionNames → ℕ → Name → Way → Type 0
SplitsBy p op m n source w =
    ((out : Name) × (t : FlatType) × (u : FlatType) × MayPack p op source out t u × (w ≡ by_packs p op m n u))
    ⊎ (((CanPack p op source → ⊥) × (f : FilterForm) × MayBlock p op source f × (w ≡ by_blocks p op m n f.pop f.push))
    ⊎ ((CanPack p op source → ⊥) × (CanBlock p op source → ⊥) × CanAdd p op source × (w ≡ by_adds p op m)))

-- THE RESULT

-- p' is the plan in which a splitter, n replicas and, where there is an output, a joiner stand in the operator's place. The
-- queues that they have between them and their variables are behind those of the plan; all else stays.
pub record IsSplitInto (p : PlanForm) (l : Name) (n : ℕ) (p' : PlanForm) : Type 0 where
  pub op : OpForm
  pub source : Name
  pub way : Way
  pub at : IsLabelled p l op
  pub reads : op.reads ≡ source ∷ []
  pub takes : SplitsBy p op (made_of l) n source way
  pub ops : p'.ops ≡ at.before ++ (split_ops op (made_of l) n way ++ at.behind)
  pub queues : p'.queues ≡ p.queues ++ (decls (kind_of (all_decls p) source) (each_name (made_of l).dealt n) ++ given_decls (made_of l) n way.join)
  pub vars : p'.vars ≡ way.stay ++ way.new
  pub outputs : p'.outputs ≡ p.outputs
  pub inputs : p'.inputs ≡ p.inputs
  pub tables : p'.tables ≡ p.tables

-- a number of the plan is above its limit
abbrev pub IsAboveLimit : PlanForm → Type 0
IsAboveLimit r = (limit : Limit) × (i : ℕ) × (k : ℕ) × (slice_get (numbers limit r) i ≡ Some k) × (most_of limit < k)

-- two queues, two variables or two operators of the plan have one name
abbrev pub HasTwice : PlanForm → Type 0
HasTwice r = (x : Name) × ((1 < count x (queue_names r)) ⊎ ((1 < count x (variable_names r)) ⊎ (1 < count x (labels r.ops))))

-- the names that are made: labels, queues, variables
abbrev pub all_made_names : OpForm → FissionNames → ℕ → Way → List Name
all_made_names op m n w = labels (split_ops op m n w) ++ (each_name m.dealt n ++ (given_names m.given n w.join ++ w.new))

-- one of them is longer than 64 bytes
abbrev pub HasLong : List Name → Type 0
HasLong ws = (x : Name) × (0 < count x ws) × (64 < length x)

-- THE CONDITIONS

-- the fission of l into n is refused by this condition, whichever others refuse it
abbrev pub FissionFails : PlanForm → Name → ℕ → Unfit → Type 0
-- there is no operator l
FissionFails p l n N1 = (op : OpForm) → IsLabelled p l op → ⊥
-- n is not 2 to 16
FissionFails p l n N2 = (n < 2) ⊎ (16 < n)
-- it has not one input
FissionFails p l n N3 = (op : OpForm) × IsLabelled p l op × ((source : Name) → op.reads ≡ source ∷ [] → ⊥)
-- it has none of the three forms
FissionFails p l n N4 =
    (op : OpForm) × (source : Name) × IsLabelled p l op × (op.reads ≡ source ∷ [])
    × (CanPack p op source → ⊥) × (CanBlock p op source → ⊥) × (CanAdd p op source → ⊥)
-- the result exceeds a limit, or a name that is made is longer than 64 bytes, or a name stands twice in it
FissionFails p l n N5 =
    (p' : PlanForm) × (s : IsSplitInto p l n p') × (IsAboveLimit p' ⊎ (HasLong (all_made_names s.op (made_of l) n s.way) ⊎ HasTwice p'))
FissionFails p l n U1 = ⊥
FissionFails p l n U2 = ⊥
FissionFails p l n U3 = ⊥
FissionFails p l n U4 = ⊥
FissionFails p l n U5 = ⊥
FissionFails p l n H1 = ⊥
FissionFails p l n H2 = ⊥
FissionFails p l n H3 = ⊥
FissionFails p l n H4 = ⊥
FissionFails p l n NoMemory = ⊥

-- a fission is refused by the first condition that fails, and gives that plan exactly where none fails
abbrev pub FissionIsJudged : Type 0
FissionIsJudged =
    (p : PlanForm) (l : Name) (n : ℕ) (made : Result PlanForm Unfit) → IsPlan p
    → (fission_of p l n ≡ made) ↔ IsJudgedBy (FissionFails p l n) (IsSplitInto p l n) made
