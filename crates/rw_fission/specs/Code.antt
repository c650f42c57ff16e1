-- What the parts of the code answer.
use Rattle.std.specs.Prelude.{◌≡◌, ℕ, ◌+◌, ◌<◌, nat_lt, if◌then◌else◌, Option, Some, None, List, [], ◌∷◌, ◌++◌, length, take, drop, slice_get, Result, Ok, Err}
use Rattle.river_base.specs.declared.kind.QueueType.{QueueType}
use Rattle.river_kernels.specs.Kern.{Kern}
use Rattle.river_plan.specs.declared.op.Op.{Op}
use Rattle.river_plan.specs.declared.plan.Decl.{Decl}
use Rattle.river_plan.specs.Forms.{Name, OpForm, PlanForm, op_forms}
use Rattle.river_plan.specs.Uses.{named_it}
use Rattle.rw_fission.specs.Fission.{Way, split_ops, decls, given_decls, by_packs, by_blocks, by_adds}
use Rattle.plan_edits.specs.Lists.{first_with, swapped}
use Rattle.rw_fission.specs.Made.{FissionNames, made_of, each_name, digits}
use Rattle.river_plan.specs.Valid.{IsPlan}
use Rattle.plan_edits.specs.declared.unfit.Unfit.{Unfit}
use Rattle.plan_edits.specs.declared.unfit.Unfit.TheVariants.{N5, NoMemory}
use Rattle.rw_fission.specs.declared.made.MadeNames.{MadeNames}
use Rattle.rw_fission.specs.declared.form.Form.{Form}
use Rattle.rw_fission.specs.declared.form.Form.TheVariants.{Packs, Blocks, Adds}

-- the operator at a place is the first of the label
pub record IsPlace (l : Name) (ops : List OpForm) (i : ℕ) : Type 0 where
  pub below : i < length ops
  pub op : OpForm
  pub at : slice_get ops i ≡ Some op
  pub first : first_with (named_it l) ops ≡ Some op
  pub swap : (news : List OpForm) → swapped l news ops ≡ take i ops ++ (news ++ drop (i + 1) ops)

abbrev pub Placed : Name → List OpForm → Option ℕ → Type 0
Placed l ops None = first_with (named_it l) ops ≡ None
Placed l ops (Some i) = IsPlace l ops i

-- the way of a form
abbrev pub way_by : PlanForm → OpForm → FissionNames → ℕ → Form → Way
way_by p op m n (Packs u) = by_packs p op m n u
way_by p op m n (Blocks pop push) = by_blocks p op m n pop push
way_by p op m n Adds = by_adds p op m

-- the ways of the form that was found
abbrev pub way_in : PlanForm → OpForm → FissionNames → ℕ → Option Form → Option Way
way_in p op m n None = None
way_in p op m n (Some f) = Some (way_by p op m n f)

-- the form that was found, in a plan and an operator, by this part of the definition
abbrev pub FormIs : PlanForm → OpForm → (FissionNames → ℕ → Option Way) → Option Form → Type 0
FormIs p op way o = (m : FissionNames) (n : ℕ) → way m n ≡ way_in p op m n o

-- how many bytes are behind a label at most
abbrev pub longest : ℕ → ℕ
longest n = if nat_lt n 10 then 3 else 4

-- the name of the label, with this letter (or none) and a number behind it
abbrev pub numbered_label : Name → List ℕ → ℕ → Name
numbered_label l letter i = l ++ 64 ∷ (letter ++ digits i)

-- the names are those that are made from a label for n replicas
pub record IsMadeOf (l : Name) (n : ℕ) (names : MadeNames) : Type 0 where
  pub splitter : names.splitter ≡ (made_of l).splitter
  pub joiner : names.joiner ≡ (made_of l).joiner
  pub replicas : names.replicas ≡ each_name (made_of l).replica n
  pub dealt : names.dealt ≡ each_name (made_of l).dealt n
  pub given : names.given ≡ each_name (made_of l).given n

-- the joiner with this kernel
abbrev pub joiner_of : MadeNames → OpForm → Kern → OpForm
joiner_of names op k = record { label = names.joiner; kernel = k; reads = names.given; writes = op.writes; vars = names.joiner ∷ [] }

-- the operator stands at this place
abbrev pub IsPlaceOf : OpForm → List Op → ℕ → Type 0
IsPlaceOf op ops i = slice_get (op_forms ops) i ≡ Some op

-- the new operators in its place
abbrev pub with_split : List OpForm → ℕ → OpForm → FissionNames → ℕ → Way → List OpForm
with_split ops i op m n w = take i ops ++ (split_ops op m n w ++ drop (i + 1) ops)

-- the plan with the new operators in the place of one
abbrev pub split_plan : PlanForm → ℕ → OpForm → FissionNames → ℕ → QueueType → Way → PlanForm
split_plan p i op m n t w = record p {
  queues = p.queues ++ (decls t (each_name m.dealt n) ++ given_decls m n w.join);
  vars = w.stay ++ w.new;
  ops = with_split p.ops i op m n w;
}

-- the plan, its operators and its queues, where the one at a place is split by a form
abbrev pub formed_plan : PlanForm → ℕ → OpForm → FissionNames → ℕ → QueueType → Form → PlanForm
formed_plan p i op m n t f = split_plan p i op m n t (way_by p op m n f)

abbrev pub formed_ops : PlanForm → List OpForm → ℕ → OpForm → FissionNames → ℕ → Form → List OpForm
formed_ops p ops i op m n f = with_split ops i op m n (way_by p op m n f)

abbrev pub formed_queues : PlanForm → OpForm → FissionNames → ℕ → QueueType → Form → List Decl
formed_queues p op m n t f = p.queues ++ (decls t (each_name m.dealt n) ++ given_decls m n (way_by p op m n f).join)

-- the plan of the lists, where they are valid
abbrev pub IsJudgedAs : PlanForm → Result PlanForm Unfit → Type 0
IsJudgedAs q (Ok r) = (r ≡ q) × IsPlan q
IsJudgedAs q (Err N5) = IsPlan q → ⊥
IsJudgedAs q (Err NoMemory) = Unit {0}
IsJudgedAs q (Err f) = ⊥
