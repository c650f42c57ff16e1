-- Which selections are hoisted, and what that makes, without a word of how it is found: each condition, and the result.
use Rattle.std.specs.Prelude.{◌≡◌, ◌↔◌, ◌⊎◌, ℕ, ◌+◌, ◌<◌, ◌≤◌, Result, Some, List, [], ◌∷◌, ◌++◌, length, slice_get}
use Rattle.work_code.specs.Term.{Term, Const, Input, Slot, Neg, Not, Bin}
use Rattle.kern_bags.specs.declared.kernel.Window.TheVariants.{Now, Range, Unbounded}
use Rattle.river_kernels.specs.Kern.{Kern, window, select, project, cross, streamer}
use Rattle.river_plan.specs.declared.plan.Decl.{Decl}
use Rattle.river_plan.specs.Forms.{Name, OpForm, PlanForm, all_decls}
use Rattle.river_plan.specs.Kinds.{kind_of}
use Rattle.river_plan.specs.Valid.{IsPlan}
use Rattle.plan_edits.specs.declared.unfit.Unfit.{Unfit}
use Rattle.plan_edits.specs.declared.unfit.Unfit.TheVariants.{U1, U2, U3, U4, U5, H1, H2, H3, H4, N1, N2, N3, N4, N5, NoMemory}
use Rattle.plan_edits.specs.Judged.{IsJudgedBy}
use Rattle.rw_local.specs.Hoist.{first_side_width, hoist_of}

-- u is the plan's operator of this label, and it selects by this condition
pub record SelectsBy (p : PlanForm) (l : Name) (u : OpForm) (cond : Term) : Type 0 where
  pub before : List OpForm
  pub behind : List OpForm
  pub ops : p.ops ≡ before ++ u ∷ behind
  pub label : u.label ≡ l
  pub kernel : u.kernel ≡ select cond

-- such a selection, whose input mid is the only output of the operator x
pub record IsFed (p : PlanForm) (l : Name) (x u : OpForm) (mid : Name) (cond : Term) : Type 0 where
  pub before : List OpForm
  pub middle : List OpForm
  pub behind : List OpForm
  pub ops : p.ops ≡ before ++ x ∷ (middle ++ u ∷ behind)
  pub label : u.label ≡ l
  pub kernel : u.kernel ≡ select cond
  pub reads : u.reads ≡ mid ∷ []
  pub writes : x.writes ≡ mid ∷ []

-- FIELDS

-- the condition reads field i
abbrev pub ReadsField : ℕ → Term → Type 0
ReadsField i (Const z) = ⊥
ReadsField i (Input j) = i ≡ j
ReadsField i (Slot s) = ⊥
ReadsField i (Neg t) = ReadsField i t
ReadsField i (Not t) = ReadsField i t
ReadsField i (Bin op l r) = ReadsField i l ⊎ ReadsField i r

-- the second condition is the first, with a field j for each field i such that R i j
abbrev pub Becomes : (ℕ → ℕ → Type 0) → Term → Term → Type 0
Becomes R (Const z) t = t ≡ Const z
Becomes R (Input i) t = (j : ℕ) × R i j × (t ≡ Input j)
Becomes R (Slot s) t = t ≡ Slot s
Becomes R (Neg a) t = (b : Term) × Becomes R a b × (t ≡ Neg b)
Becomes R (Not a) t = (b : Term) × Becomes R a b × (t ≡ Not b)
Becomes R (Bin op a c) t = (b : Term) × (d : Term) × Becomes R a b × Becomes R c d × (t ≡ Bin op b d)

-- field i of a projection is a plain input[j]
abbrev pub IsCopy : List Term → ℕ → ℕ → Type 0
IsCopy es i j = slice_get es i ≡ Some (Input j)

-- the rows of the operator's first input have this width
pub record HasFirstWidth (p : PlanForm) (x : OpForm) (w : ℕ) : Type 0 where
  pub first : Name
  pub others : List Name
  pub reads : x.reads ≡ first ∷ others
  pub width : first_side_width (kind_of (all_decls p) first) ≡ w

-- KERNELS

-- project, now, range, unbounded, cross, istream, dstream or rstream
abbrev pub LetsPass : Kern → Type 0
LetsPass (window Now) = Unit {0}
LetsPass (window (Range span)) = Unit {0}
LetsPass (window Unbounded) = Unit {0}
LetsPass (project es) = Unit {0}
LetsPass cross = Unit {0}
LetsPass (streamer s) = Unit {0}
LetsPass kernel = ⊥

-- a field that the condition reads is no plain input[j] of the projection; of a product, whose first side has rows of this
-- width, it reads fields of both sides
abbrev pub StopsHoisting : ℕ → Kern → Term → Type 0
StopsHoisting w (project es) cond = (i : ℕ) × ReadsField i cond × ((j : ℕ) → IsCopy es i j → ⊥)
StopsHoisting w cross cond = (i : ℕ) × (j : ℕ) × ReadsField i cond × ReadsField j cond × (i < w) × (w ≤ j)
StopsHoisting w kernel cond = ⊥

-- Before an operator of this kernel the selection stands at this of its inputs, by the second condition. Of a projection,
-- field i becomes j. Of a product it stands at the first side, where all fields that it reads are the first's; or at the
-- second, where it reads some and all are the second's, and there they are counted from 0. Else the condition stays.
abbrev pub Goes : ℕ → Kern → Term → ℕ → Term → Type 0
Goes w (window Now) cond side moved = (side ≡ 0) × (moved ≡ cond)
Goes w (window (Range span)) cond side moved = (side ≡ 0) × (moved ≡ cond)
Goes w (window Unbounded) cond side moved = (side ≡ 0) × (moved ≡ cond)
Goes w (project es) cond side moved = (side ≡ 0) × Becomes (IsCopy es) cond moved
Goes w cross cond side moved =
    ((side ≡ 0) × (moved ≡ cond) × ((i : ℕ) → ReadsField i cond → i < w))
    ⊎ ((side ≡ 1) × ((i : ℕ) × ReadsField i cond) × Becomes (λ i j. i ≡ w + j) cond moved)
Goes w (streamer s) cond side moved = (side ≡ 0) × (moved ≡ cond)
Goes w kernel cond side moved = ⊥

-- THE CONDITIONS

-- the hoisting of l is refused by this condition, whichever others refuse it
abbrev pub HoistFails : PlanForm → Name → Unfit → Type 0
-- there is no operator l that selects
HoistFails p l H1 = (u : OpForm) (cond : Term) → SelectsBy p l u cond → ⊥
-- its input is not the only output of an operator
HoistFails p l H2 = (u : OpForm) × (cond : Term) × SelectsBy p l u cond × ((x : OpForm) (mid : Name) → IsFed p l x u mid cond → ⊥)
-- that operator's kernel lets no selection pass
HoistFails p l H3 = (x : OpForm) × (u : OpForm) × (mid : Name) × (cond : Term) × IsFed p l x u mid cond × (LetsPass x.kernel → ⊥)
-- it stops this condition
HoistFails p l H4 =
    (x : OpForm) × (u : OpForm) × (mid : Name) × (cond : Term) × (w : ℕ)
    × IsFed p l x u mid cond × HasFirstWidth p x w × StopsHoisting w x.kernel cond
HoistFails p l U1 = ⊥
HoistFails p l U2 = ⊥
HoistFails p l U3 = ⊥
HoistFails p l U4 = ⊥
HoistFails p l U5 = ⊥
HoistFails p l N1 = ⊥
HoistFails p l N2 = ⊥
HoistFails p l N3 = ⊥
HoistFails p l N4 = ⊥
HoistFails p l N5 = ⊥
HoistFails p l NoMemory = ⊥

-- THE RESULT

-- p' is the plan in which the selection stands directly before the operator that fed it. It reads the queue src that this
-- operator read, and writes the queue mid, which takes src's type; the operator reads mid in place of src, and writes what
-- the selection wrote. All else stays.
pub record IsHoisted (p : PlanForm) (l : Name) (p' : PlanForm) : Type 0 where
  pub below : OpForm
  pub above : OpForm
  pub mid : Name
  pub cond : Term
  pub fed : IsFed p l below above mid cond
  -- the inputs of the operator, and at which of them the selection stands
  pub left : List Name
  pub src : Name
  pub right : List Name
  pub sides : below.reads ≡ left ++ src ∷ right
  pub width : ℕ
  pub first : HasFirstWidth p below width
  pub moved : Term
  pub goes : Goes width below.kernel cond (length left) moved
  -- what the selection wrote
  pub out : Name
  pub wrote : above.writes ≡ out ∷ []
  pub ops : p'.ops
      ≡ fed.before
      ++ record above { kernel = select moved; reads = src ∷ []; writes = mid ∷ [] }
      ∷ record below { reads = left ++ mid ∷ right; writes = out ∷ [] }
      ∷ (fed.middle ++ fed.behind)
  pub ahead : List Decl
  pub decl : Decl
  pub after : List Decl
  pub named : decl.name ≡ mid
  pub queues : p.queues ≡ ahead ++ decl ∷ after
  pub queues' : p'.queues ≡ ahead ++ record decl { kind = kind_of (all_decls p) src } ∷ after
  pub outputs : p'.outputs ≡ p.outputs
  pub inputs : p'.inputs ≡ p.inputs
  pub tables : p'.tables ≡ p.tables
  pub vars : p'.vars ≡ p.vars

-- a hoisting is refused by the first condition that fails, and gives that plan exactly where none fails
abbrev pub HoistingIsJudged : Type 0
HoistingIsJudged = (p : PlanForm) (l : Name) (made : Result PlanForm Unfit) → IsPlan p
    → (hoist_of p l ≡ made) ↔ IsJudgedBy (HoistFails p l) (IsHoisted p l) made
