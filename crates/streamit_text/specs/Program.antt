-- StreamIt's programs as trees, without their places in memory.
use Rattle.std.specs.Prelude.{ℕ, List, map, Option}
use Rattle.std.proofs.Common.{Vec, Global}
use Rattle.text_blocks.specs.Parts.{optional}
use Rattle.streamit_text.specs.Tree.{Block, Optional, block, optional_block}
use Rattle.streamit_text.specs.declared.tree.FilterTree as code
use Rattle.streamit_text.specs.declared.tree.WorkTree as written_work
use Rattle.streamit_text.specs.declared.program.RoundRobin.{RoundRobin}
use Rattle.streamit_text.specs.declared.program.Split.{Split}
use Rattle.streamit_text.specs.declared.program.Split.TheVariants as split
use Rattle.streamit_text.specs.declared.program.Adds as written
use Rattle.streamit_text.specs.declared.program.Body as tree
use Rattle.streamit_text.specs.declared.program.Body.TheVariants as body
use Rattle.streamit_text.specs.declared.program.StreamitProgram as code_program
use Rattle.streamit_text.specs.declared.program.Unit as code_unit

-- `work` or `prework`: its rates, which may be left out, and its block
pub record WorkTree : Type 0 where
  pub push : Option ℕ
  pub pop : Option ℕ
  pub peek : Option ℕ
  pub block : Block

-- a filter: its fields, `init`, `prework` and `work`; `init` and `prework` may be left out
pub record FilterTree : Type 0 where
  pub fields : List (List ℕ)
  pub init : Optional
  pub prework : Option WorkTree
  pub work : WorkTree

-- how a splitter is written: weights as they stand in its brackets, where there are brackets
pub data Dealing : Type 0 where
  Copies : Dealing
  Turns : Option (List ℕ) → Dealing

-- the names that are added: one or more
pub record Adds : Type 0 where
  pub first : List ℕ
  pub others : List (List ℕ)

-- what is declared
pub data Body : Type 0 where
  AFilter : FilterTree → Body
  APipeline : Adds → Body
  ASplitJoin : Dealing → Adds → Option (List ℕ) → Body

-- a stream that is declared: one unit of the text
pub record UnitForm : Type 0 where
  pub name : List ℕ
  pub body : Body

-- the last is the stream that is run
abbrev pub Program : Type 0
Program = List UnitForm

-- WHAT THE CODE'S TREES STAND FOR

abbrev pub work_tree : written_work.WorkTree → WorkTree
work_tree w = record { push = w.rates.push; pop = w.rates.pop; peek = w.rates.peek; block = block w.block }

abbrev pub filter_tree : code.FilterTree → FilterTree
filter_tree t = record { fields = t.fields.items; init = optional_block t.init; prework = optional work_tree t.prework; work = work_tree t.work }

abbrev pub numbers_in : Vec ℕ Global → List ℕ
numbers_in v = v.items

-- the weights in the brackets, where there are brackets
abbrev pub weights_of : RoundRobin → Option (List ℕ)
weights_of r = optional numbers_in r.weights

abbrev pub dealing_of : Split → Dealing
dealing_of split.Duplicate = Copies
dealing_of (split.RoundRobin r) = Turns (weights_of r)

abbrev pub adds_of : written.Adds → Adds
adds_of a = record { first = a.first; others = a.others.items }

abbrev pub body_of : tree.Body → Body
body_of (body.Filter t) = AFilter (filter_tree t)
body_of (body.Pipeline a) = APipeline (adds_of a)
body_of (body.SplitJoin b) = ASplitJoin (dealing_of b.split) (adds_of b.adds) (weights_of b.join)

abbrev pub unit_form : code_unit.Unit → UnitForm
unit_form d = record { name = d.name; body = body_of d.body }

abbrev pub unit_forms : List code_unit.Unit → Program
unit_forms ds = map unit_form ds

abbrev pub program_of : code_program.StreamitProgram → Program
program_of p = unit_forms p.units.items
