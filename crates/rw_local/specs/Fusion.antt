-- Which fusions are accepted, and what they make, without a word of how they are found: each condition, and the result.
use Rattle.std.specs.Prelude.{◌≡◌, ◌↔◌, ◌⊎◌, ◌<◌, Result, List, [], ◌∷◌, ◌++◌, length}
use Rattle.river_kernels.specs.Kern.{fused}
use Rattle.river_kernels.specs.Limits.{nesting}
use Rattle.river_plan.specs.declared.plan.Decl.{Decl}
use Rattle.river_plan.specs.Forms.{Name, OpForm, PlanForm, queue_names}
use Rattle.river_plan.specs.Names.{count}
use Rattle.river_plan.specs.Valid.{IsPlan}
use Rattle.plan_edits.specs.declared.unfit.Unfit.{Unfit}
use Rattle.plan_edits.specs.declared.unfit.Unfit.TheVariants.{U1, U2, U3, U4, U5, H1, H2, H3, H4, N1, N2, N3, N4, N5, NoMemory}
use Rattle.plan_edits.specs.Judged.{IsJudgedBy}
use Rattle.rw_local.specs.Fuse.{fuse_of}

-- an operator w of the plan writes the queue q, and another one, r, reads it: in a plan it stands behind w
pub record Feeds (p : PlanForm) (q : Name) (w r : OpForm) : Type 0 where
  pub before : List OpForm
  pub middle : List OpForm
  pub behind : List OpForm
  pub ops : p.ops ≡ before ++ w ∷ (middle ++ r ∷ behind)
  pub written : 0 < count q w.writes
  pub read : 0 < count q r.reads

-- op is the two as one. It has w's label and inputs and both kernels, r's in the place of q among w's outputs; there its
-- outputs are r's; its variables are w's and then r's
pub record IsBothAsOne (q : Name) (w r op : OpForm) : Type 0 where
  pub left : List Name
  pub right : List Name
  pub outs : w.writes ≡ left ++ q ∷ right
  pub label : op.label ≡ w.label
  pub kernel : op.kernel ≡ fused w.kernel r.kernel (length left)
  pub reads : op.reads ≡ w.reads
  pub writes : op.writes ≡ left ++ (r.writes ++ right)
  pub vars : op.vars ≡ w.vars ++ r.vars

-- the fusion at q is refused by this condition, whichever others refuse it
abbrev pub FuseFails : PlanForm → Name → Unfit → Type 0
-- there is no queue q
FuseFails p q U1 = count q (queue_names p) ≡ 0
-- q is not written by one operator and read by another
FuseFails p q U2 = (w r : OpForm) → Feeds p q w r → ⊥
-- q is not the reader's only input
FuseFails p q U3 = (w : OpForm) × (r : OpForm) × Feeds p q w r × (r.reads ≡ q ∷ [] → ⊥)
-- the two as one nest above 32, or have more than 64 output ports
FuseFails p q U4 = (w : OpForm) × (r : OpForm) × (op : OpForm) × Feeds p q w r × IsBothAsOne q w r op × ((32 < nesting op.kernel) ⊎ (64 < length op.writes))
-- the two have a variable in common
FuseFails p q U5 = (w : OpForm) × (r : OpForm) × Feeds p q w r × (v : Name) × (0 < count v w.vars) × (0 < count v r.vars)
FuseFails p q H1 = ⊥
FuseFails p q H2 = ⊥
FuseFails p q H3 = ⊥
FuseFails p q H4 = ⊥
FuseFails p q N1 = ⊥
FuseFails p q N2 = ⊥
FuseFails p q N3 = ⊥
FuseFails p q N4 = ⊥
FuseFails p q N5 = ⊥
FuseFails p q NoMemory = ⊥

-- p' is the plan in which the two are one, in the writer's place; the reader's place and the queue are gone, and all else stays
pub record IsFused (p : PlanForm) (q : Name) (p' : PlanForm) : Type 0 where
  pub writer : OpForm
  pub reader : OpForm
  pub whole : OpForm
  pub feeds : Feeds p q writer reader
  pub is_whole : IsBothAsOne q writer reader whole
  pub ops : p'.ops ≡ feeds.before ++ whole ∷ (feeds.middle ++ feeds.behind)
  pub above : List Decl
  pub decl : Decl
  pub below : List Decl
  pub named : decl.name ≡ q
  pub queues : p.queues ≡ above ++ decl ∷ below
  pub queues' : p'.queues ≡ above ++ below
  pub outputs : p'.outputs ≡ p.outputs
  pub inputs : p'.inputs ≡ p.inputs
  pub tables : p'.tables ≡ p.tables
  pub vars : p'.vars ≡ p.vars

-- a fusion is refused by the first condition that fails, and gives that plan exactly where none fails
abbrev pub FusionIsJudged : Type 0
FusionIsJudged = (p : PlanForm) (q : Name) (made : Result PlanForm Unfit) → IsPlan p → (fuse_of p q ≡ made) ↔ IsJudgedBy (FuseFails p q) (IsFused p q) made
