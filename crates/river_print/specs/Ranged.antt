-- What the types of a plan's numbers and names say of them: each plan that is kept in memory has these ranges.
use Rattle.std.specs.Prelude.{Option, None, Some}
use Rattle.work_code.specs.Term.{Term, Const, Input, Slot, Neg, Not, Bin}
use Rattle.work_code.specs.Steps.{Step, Steps, Set, Push, If, Done, Then, BodyForm}
use Rattle.kern_rows.specs.Forms.{CodeForm, FilterForm, RunForm}
use Rattle.kern_bags.specs.declared.kernel.Window.{Window}
use Rattle.kern_bags.specs.declared.kernel.Window.TheVariants.{Now, Range, Unbounded, Latest}
use Rattle.river_kernels.specs.Kern.{Kern}
use Rattle.river_kernels.specs.Kern as kern
use Rattle.river_plan.specs.Forms.{OpForm, PlanForm}
use Rattle.river_print.specs.Writable.{IsCount, IsWritableStart, IsNamed, IsWritableDecl, IsWritableTable, IsWritableKernel, Every}

-- counts have 32 bits, values have 64 bits and a sign
abbrev pub IsRangedTerm : Term → Type 0
IsRangedTerm (Const z) = IsWritableStart z
IsRangedTerm (Input place) = IsCount place
IsRangedTerm (Slot slot) = IsCount slot
IsRangedTerm (Neg t) = IsRangedTerm t
IsRangedTerm (Not t) = IsRangedTerm t
IsRangedTerm (Bin o l r) = IsRangedTerm l × IsRangedTerm r

abbrev mutual
  pub IsRangedStep : Step → Type 0
  IsRangedStep (Set slot value) = IsCount slot × IsRangedTerm value
  IsRangedStep (Push port values) = IsCount port × Every IsRangedTerm values
  IsRangedStep (If cond when otherwise) = IsRangedTerm cond × IsRangedSteps when × IsRangedSteps otherwise

  pub IsRangedSteps : Steps → Type 0
  IsRangedSteps Done = Unit {0}
  IsRangedSteps (Then s ss) = IsRangedStep s × IsRangedSteps ss

abbrev pub IsRangedBody : BodyForm → Type 0
IsRangedBody b = IsCount b.inputs × IsCount b.slots × IsRangedSteps b.steps

abbrev pub IsRangedCode : CodeForm → Type 0
IsRangedCode c = IsRangedBody c.body × Every IsWritableStart c.outs × Every IsWritableStart c.starts

abbrev pub IsRangedRun : RunForm → Type 0
IsRangedRun r = IsCount r.peek × IsCount r.pop × IsCount r.push × IsRangedBody r.body

abbrev pub IsRangedFirst : Option RunForm → Type 0
IsRangedFirst None = Unit {0}
IsRangedFirst (Some r) = IsRangedRun r

abbrev pub IsRangedFilter : FilterForm → Type 0
IsRangedFilter f = IsCount f.peek × IsCount f.pop × IsCount f.push × IsRangedBody f.body × Every IsWritableStart f.starts × IsRangedFirst f.first

abbrev pub IsRangedWindow : Window → Type 0
IsRangedWindow Now = Unit {0}
IsRangedWindow (Range t) = IsWritableStart t
IsRangedWindow Unbounded = Unit {0}
IsRangedWindow (Latest n) = IsCount n

-- of a kernel that is not named the types say all that its text asks for
abbrev pub IsRangedKernel : Kern → Type 0
IsRangedKernel (kern.code c) = IsRangedCode c
IsRangedKernel (kern.filter f) = IsRangedFilter f
IsRangedKernel (kern.deal ws) = Every IsWritableStart ws
IsRangedKernel (kern.collect ws) = Every IsWritableStart ws
IsRangedKernel (kern.packed k) = IsRangedKernel k
IsRangedKernel (kern.window w) = IsRangedWindow w
IsRangedKernel (kern.select e) = IsRangedTerm e
IsRangedKernel (kern.project es) = Every IsRangedTerm es
IsRangedKernel (kern.fused a b at) = IsRangedKernel a × IsRangedKernel b × IsCount at
IsRangedKernel kernel = IsWritableKernel kernel

-- names are names of at most 64 bytes
abbrev pub IsRangedOp : OpForm → Type 0
IsRangedOp op = IsNamed op.label × IsRangedKernel op.kernel × Every IsNamed op.reads × Every IsNamed op.writes × Every IsNamed op.vars

pub record IsRanged (p : PlanForm) : Type 0 where
  pub outputs : Every IsWritableDecl p.outputs
  pub inputs : Every IsWritableDecl p.inputs
  pub queues : Every IsWritableDecl p.queues
  pub tables : Every IsWritableTable p.tables
  pub vars : Every IsNamed p.vars
  pub ops : Every IsRangedOp p.ops
