-- The plans that River text can stand for.
use Rattle.std.specs.Prelude.{◌≡◌, ℕ, suc, ◌<◌, ◌≤◌, ℤ, pos, negsuc, true, List, [], ◌∷◌, Option, None, Some, length, max}
use Rattle.work_code.specs.Term.{Term, Const, Input, Slot, Neg, Not, Bin, depth_of}
use Rattle.work_code.specs.Steps.{Step, Steps, Set, Push, If, Done, Then}
use Rattle.river_base.specs.Name.{is_name}
use Rattle.river_base.specs.declared.kind.QueueType.{QueueType}
use Rattle.river_base.specs.declared.kind.QueueType.TheVariants.{Flat, Pack}
use Rattle.kern_tables.specs.declared.kind.TableKind.{TableKind}
use Rattle.kern_tables.specs.declared.kind.TableKind.TheVariants.{Sum, Collection, Maximum}
use Rattle.kern_rows.specs.Forms.{CodeForm, FilterForm, RunForm}
use Rattle.kern_bags.specs.declared.kernel.Window.{Window}
use Rattle.kern_bags.specs.declared.kernel.Window.TheVariants.{Now, Range, Unbounded, Latest}
use Rattle.river_kernels.specs.Fits.{width_of}
use Rattle.river_kernels.specs.Kern.{Kern}
use Rattle.river_kernels.specs.Kern as kern
use Rattle.river_kernels.specs.Limits.{nesting}
use Rattle.river_plan.specs.Forms.{Name, OpForm, PlanForm}
use Rattle.river_plan.specs.declared.plan.Decl.{Decl}
use Rattle.river_plan.specs.declared.plan.TableDecl.{TableDecl}

-- a number that counts something
abbrev pub IsCount : ℕ → Type 0
IsCount n = n < 4294967296

-- a value that a text can name without a sign
abbrev pub IsNatural : ℤ → Type 0
IsNatural z = (n : ℕ) × (z ≡ pos n) × (n ≤ 9223372036854775807)

-- a width as a value
abbrev pub IsWidth : ℤ → Type 0
IsWidth z = (n : ℕ) × (z ≡ pos n) × IsCount n

-- a value of 64 bits
abbrev pub IsWritableStart : ℤ → Type 0
IsWritableStart (pos n) = n ≤ 9223372036854775807
IsWritableStart (negsuc n) = n ≤ 9223372036854775807

-- no constant below 0, and indexes that are counts
abbrev pub IsSpoken : Term → Type 0
IsSpoken (Const z) = IsNatural z
IsSpoken (Input place) = IsCount place
IsSpoken (Slot slot) = IsCount slot
IsSpoken (Neg t) = IsSpoken t
IsSpoken (Not t) = IsSpoken t
IsSpoken (Bin o l r) = IsSpoken l × IsSpoken r

-- such an expression, at most 64 deep
abbrev pub IsWritableTerm : Term → Type 0
IsWritableTerm t = IsSpoken t × (depth_of t ≤ 64)

-- each of a list
abbrev pub Every : {A : Type 0} → (A → Type 0) → List A → Type 0
Every P [] = Unit {0}
Every P (x ∷ xs) = P x × Every P xs

abbrev mutual
  pub IsWritableStep : Step → Type 0
  IsWritableStep (Set slot value) = IsCount slot × IsWritableTerm value
  IsWritableStep (Push port values) = IsCount port × (0 < length values) × Every IsWritableTerm values
  IsWritableStep (If cond when otherwise) = IsWritableTerm cond × AreWritableSteps when × AreWritableSteps otherwise

  pub AreWritableSteps : Steps → Type 0
  AreWritableSteps Done = Unit {0}
  AreWritableSteps (Then s ss) = IsWritableStep s × AreWritableSteps ss

-- how deep `if` nests
abbrev mutual
  pub depth_once : Step → ℕ
  depth_once (Set slot value) = 0
  depth_once (Push port values) = 0
  depth_once (If cond when otherwise) = suc (max (depths when) (depths otherwise))

  pub depths : Steps → ℕ
  depths Done = 0
  depths (Then s ss) = max (depth_once s) (depths ss)

-- a body, in which `if` nests at most 16 deep
abbrev pub IsWritableBody : Steps → Type 0
IsWritableBody steps = AreWritableSteps steps × (depths steps ≤ 16)

abbrev pub IsWritableCode : CodeForm → Type 0
IsWritableCode c = IsCount c.body.inputs × IsCount c.body.slots × Every IsWidth c.outs × Every IsWritableStart c.starts × IsWritableBody c.body.steps

-- a first run of a filter with so many slots
abbrev pub IsWritableRun : ℕ → RunForm → Type 0
IsWritableRun slots r = IsCount r.peek × IsCount r.pop × IsCount r.push × IsWritableBody r.body.steps × (r.body.inputs ≡ r.peek) × (r.body.slots ≡ slots)

abbrev pub IsWritableFirst : ℕ → Option RunForm → Type 0
IsWritableFirst slots None = Unit {0}
IsWritableFirst slots (Some r) = IsWritableRun slots r

abbrev pub IsWritableFilter : FilterForm → Type 0
IsWritableFilter f =
    IsCount f.peek × IsCount f.pop × IsCount f.push × IsCount f.body.slots × Every IsWritableStart f.starts
    × IsWritableBody f.body.steps × (f.body.inputs ≡ f.peek)
    × IsWritableFirst f.body.slots f.first

abbrev pub IsWritableWindow : Window → Type 0
IsWritableWindow Now = Unit {0}
IsWritableWindow (Range t) = IsNatural t
IsWritableWindow Unbounded = Unit {0}
IsWritableWindow (Latest n) = IsCount n

abbrev pub IsWritableKernel : Kern → Type 0
IsWritableKernel (kern.code c) = IsWritableCode c
IsWritableKernel (kern.filter f) = IsWritableFilter f
IsWritableKernel (kern.duplicate n) = IsCount n
IsWritableKernel (kern.deal ws) = (0 < length ws) × Every IsNatural ws
IsWritableKernel (kern.collect ws) = (0 < length ws) × Every IsNatural ws
IsWritableKernel (kern.packed k) = IsWritableKernel k
IsWritableKernel (kern.unpack n) = IsCount n
IsWritableKernel (kern.window w) = IsWritableWindow w
IsWritableKernel (kern.select e) = IsWritableTerm e
IsWritableKernel (kern.project es) = (0 < length es) × Every IsWritableTerm es
IsWritableKernel kern.cross = Unit {0}
IsWritableKernel (kern.streamer s) = Unit {0}
IsWritableKernel kern.tally = Unit {0}
IsWritableKernel (kern.fused a b at) = IsCount at × IsWritableKernel a × IsWritableKernel b

abbrev pub IsNamed : Name → Type 0
IsNamed w = is_name w ≡ true

abbrev pub IsWritableType : QueueType → Type 0
IsWritableType (Flat t) = IsCount (width_of t)
IsWritableType (Pack t) = IsCount (width_of t)

abbrev pub IsWritableDecl : Decl → Type 0
IsWritableDecl d = IsNamed d.name × IsWritableType d.kind

abbrev pub IsWritableKind : TableKind → Type 0
IsWritableKind (Sum k) = IsCount k
IsWritableKind (Collection k) = IsCount k
IsWritableKind (Maximum best k) = IsCount best × IsCount k

abbrev pub IsWritableTable : TableDecl → Type 0
IsWritableTable t = IsNamed t.name × IsWritableKind t.kind

-- an operator: kernels nest at most 32 deep
abbrev pub IsWritableOp : OpForm → Type 0
IsWritableOp op = IsNamed op.label × IsWritableKernel op.kernel × (nesting op.kernel ≤ 32)
    × Every IsNamed op.reads × Every IsNamed op.writes × Every IsNamed op.vars

pub record IsWritable (p : PlanForm) : Type 0 where
  pub outputs : Every IsWritableDecl p.outputs
  pub inputs : Every IsWritableDecl p.inputs
  pub queues : Every IsWritableDecl p.queues
  pub tables : Every IsWritableTable p.tables
  pub vars : Every IsNamed p.vars
  pub ops : Every IsWritableOp p.ops
