-- Streams that are declared, by number, and what is built of them.
use Rattle.std.specs.Prelude.{◌≡◌, ◌≤◌, ℕ, ◌+◌, ◌<◌, List, [], ◌∷◌, ◌++◌, map, Option, Some, None, slice_get, length, codes}
use Rattle.std.specs.List.{AllByRecursion}
use Rattle.std.proofs.Common.{Vec, Global}
use Rattle.kern_rows.specs.Forms.{FilterForm, filter_form}
use Rattle.river_plan.specs.Forms.{Name, OpForm, op_forms}
use Rattle.streamit_model.specs.Plan.{numbered, queues, splitter, build_line, build_branches, ops_of, queues_between, queues_within}
use Rattle.streamit_model.specs.Unrolled.{Splitter, Duplicate, RoundRobin, Stream, Filter, Pipeline, SplitJoin, Streams, Last, Then}
use Rattle.streamit_build.specs.declared.builder.Declared.{Declared}
use Rattle.streamit_build.specs.declared.builder.Declared.TheVariants as built
use Rattle.streamit_build.specs.declared.builder.Made.{Made}

-- a stream that is declared: those that it adds are named by their numbers, all but the last, and the last
pub data DeclaredForm : Type 0 where
  AFilter : Name → FilterForm → DeclaredForm
  APipe : List ℕ → ℕ → DeclaredForm
  ASplit : Splitter → List ℕ → ℕ → List ℕ → DeclaredForm

abbrev pub splitter_form : Option (Vec ℕ Global) → Splitter
splitter_form None = Duplicate
splitter_form (Some ws) = RoundRobin ws.items

abbrev pub declared_form : Declared → DeclaredForm
declared_form (built.Filter name f) = AFilter name (filter_form f)
declared_form (built.Pipeline front last) = APipe front.items last
declared_form (built.SplitJoin split front last join) = ASplit (splitter_form split) front.items last join.items

abbrev pub declared_forms : List Declared → List DeclaredForm
declared_forms us = map declared_form us

-- the parts of a stream are below number i
abbrev pub AreBelow : ℕ → List ℕ → ℕ → Type 0
AreBelow i front last = AllByRecursion (λ j. j < i) front × (last < i)

-- the children of unit i are below it
abbrev pub IsLower : ℕ → Option DeclaredForm → Type 0
IsLower i None = Unit {0}
IsLower i (Some (AFilter name f)) = Unit {0}
IsLower i (Some (APipe front last)) = AreBelow i front last
IsLower i (Some (ASplit d front last ws)) = AreBelow i front last

abbrev pub AreLower : List DeclaredForm → Type 0
AreLower us = (i : ℕ) → IsLower i (slice_get us i)

-- the names of filters have at most 40 bytes
abbrev pub HasShortFilters : Option DeclaredForm → Type 0
HasShortFilters None = Unit {0}
HasShortFilters (Some (AFilter name f)) = length name ≤ 40
HasShortFilters (Some (APipe front last)) = Unit {0}
HasShortFilters (Some (ASplit d front last ws)) = Unit {0}

abbrev pub HaveShortFilters : List DeclaredForm → Type 0
HaveShortFilters us = (i : ℕ) → HasShortFilters (slice_get us i)

-- unit i is this stream
abbrev mutual
  pub IsTree : List DeclaredForm → ℕ → Stream → Type 0
  IsTree us i (Filter name f) = slice_get us i ≡ Some (AFilter name f)
  IsTree us i (Pipeline ss) = (front : List ℕ) × (last : ℕ) × (slice_get us i ≡ Some (APipe front last)) × AreTrees us front last ss
  IsTree us i (SplitJoin d ss ws) = (front : List ℕ) × (last : ℕ) × (slice_get us i ≡ Some (ASplit d front last ws)) × AreTrees us front last ss

  pub AreTrees : List DeclaredForm → List ℕ → ℕ → Streams → Type 0
  AreTrees us [] last (Last s) = IsTree us last s
  AreTrees us (j ∷ js) last (Last s) = ⊥
  AreTrees us [] last (Then s ss) = ⊥
  AreTrees us (j ∷ js) last (Then s ss) = IsTree us j s × AreTrees us js last ss

-- one operator behind: a splitter into n branches
abbrev pub AddsSplitter : Splitter → ℕ → Name → Made → Made → Type 0
AddsSplitter d n from old new =
    op_forms new.ops ≡ op_forms old.ops ++ splitter d n (numbered (codes "split") old.next_op) from (queues old.next_queue n) ∷ []

pub record Built (old new : Made) (added : List OpForm) (n q : ℕ) : Type 0 where
  pub ops : op_forms new.ops ≡ op_forms old.ops ++ added
  pub next_op : new.next_op ≡ old.next_op + n
  pub next_queue : new.next_queue ≡ old.next_queue + q

-- by streams in a line, and by branches between these queues
abbrev pub BuiltLine : Streams → Name → Name → Made → Made → Type 0
BuiltLine ss from to old new = Built old new (build_line ss old.next_op old.next_queue from to) (ops_of ss) (queues_between ss)

abbrev pub BuiltBranches : Streams → ℕ → ℕ → Made → Made → Type 0
BuiltBranches ss first second old new = Built old new (build_branches ss old.next_op old.next_queue first second) (ops_of ss) (queues_within ss)
