-- Fission: an operator becomes a splitter, n replicas and, where it has an output, a joiner.
use Rattle.std.specs.Prelude.{ℕ, zero, suc, pos, ℤ, nat_lt, Option, Some, None, List, [], ◌∷◌, ◌++◌, replicate, filter}
use Rattle.river_base.specs.declared.kind.FlatType.{FlatType}
use Rattle.river_base.specs.declared.kind.QueueType.{QueueType}
use Rattle.river_base.specs.declared.kind.QueueType.TheVariants.{Pack}
use Rattle.river_kernels.specs.Kern.{Kern, deal, collect, packed, unpack}
use Rattle.river_kernels.specs.Fits.{rows}
use Rattle.river_plan.specs.declared.plan.Decl.{Decl}
use Rattle.river_plan.specs.Forms.{Name, OpForm, PlanForm}
use Rattle.river_plan.specs.Names.{count}
use Rattle.rw_fission.specs.Made.{FissionNames, each_name}
use Rattle.plan_edits.specs.Lists.{swapped}

-- n weights
abbrev pub equal_weights : ℕ → ℕ → List ℤ
equal_weights n w = replicate n (pos w)

-- How the replicas work: how many items each gets in its turn, their kernel, their variables, and the joiner with the type of the
-- queues from the replicas to it, where there is one; and of the plan's variables those that stay and those that are new.
pub record Way : Type 0 where
  pub share : ℕ
  pub inner : Kern
  pub vars : ℕ → List Name
  pub join : Option (Kern × QueueType)
  pub stay : List Name
  pub new : List Name

-- each replica packs what it gives for an item
abbrev pub by_packs : PlanForm → OpForm → FissionNames → ℕ → FlatType → Way
by_packs p op m n u = record {
  share = 1;
  inner = packed op.kernel;
  vars = λ i. [];
  join = Some (unpack n, Pack u);
  stay = p.vars;
  new = m.splitter ∷ m.joiner ∷ [];
}

-- the names that are not among these
abbrev pub names_without : List Name → List Name → List Name
names_without gone ws = filter (λ w. nat_lt (count w gone) 1) ws

-- each replica is the filter, and gets a block
abbrev pub by_blocks : PlanForm → OpForm → FissionNames → ℕ → (pop push : ℕ) → Way
by_blocks p op m n pop push = record {
  share = pop;
  inner = op.kernel;
  vars = λ i. m.replica i ∷ [];
  join = Some (collect (equal_weights n push), rows 1);
  stay = names_without op.vars p.vars;
  new = m.splitter ∷ (each_name m.replica n ++ m.joiner ∷ []);
}

-- each replica adds to the same tables
abbrev pub by_adds : PlanForm → OpForm → FissionNames → Way
by_adds p op m = record {
  share = 1;
  inner = op.kernel;
  vars = λ i. op.vars;
  join = None;
  stay = p.vars;
  new = m.splitter ∷ [];
}

-- THE RESULT

abbrev pub splitter_op : OpForm → FissionNames → ℕ → Way → OpForm
splitter_op op m n w =
    record {
      label = m.splitter;
      kernel = deal (equal_weights n w.share);
      reads = op.reads;
      writes = each_name m.dealt n;
      vars = m.splitter ∷ [];
    }

-- what a replica writes
abbrev pub outs_of : Option (Kern × QueueType) → Name → List Name
outs_of None b = []
outs_of (Some j) b = b ∷ []

abbrev pub replica_op : Way → FissionNames → ℕ → OpForm
replica_op w m i = record { label = m.replica i; kernel = w.inner; reads = m.dealt i ∷ []; writes = outs_of w.join (m.given i); vars = w.vars i }

-- the operators that f gives for the numbers below n
abbrev pub each_op : (ℕ → OpForm) → ℕ → List OpForm
each_op f zero = []
each_op f (suc n) = f 0 ∷ each_op (λ i. f (suc i)) n

abbrev pub joiner_ops : OpForm → FissionNames → ℕ → Option (Kern × QueueType) → List OpForm
joiner_ops op m n None = []
joiner_ops op m n (Some j) = record { label = m.joiner; kernel = j.0; reads = each_name m.given n; writes = op.writes; vars = m.joiner ∷ [] } ∷ []

abbrev pub split_ops : OpForm → FissionNames → ℕ → Way → List OpForm
split_ops op m n w = splitter_op op m n w ∷ (each_op (replica_op w m) n ++ joiner_ops op m n w.join)

-- declarations of these names, all of one type
abbrev pub decls : QueueType → List Name → List Decl
decls t [] = []
decls t (w ∷ ws) = record { name = w; kind = t } ∷ decls t ws

abbrev pub given_decls : FissionNames → ℕ → Option (Kern × QueueType) → List Decl
given_decls m n None = []
given_decls m n (Some j) = decls j.1 (each_name m.given n)

abbrev pub split_by : PlanForm → Name → OpForm → FissionNames → ℕ → QueueType → Way → PlanForm
split_by p l op m n t w = record p {
  queues = p.queues ++ (decls t (each_name m.dealt n) ++ given_decls m n w.join);
  vars = w.stay ++ w.new;
  ops = swapped l (split_ops op m n w) p.ops;
}
