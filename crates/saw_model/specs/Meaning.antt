-- What a Sawzall program means. Read in this order:
--   1. the tree of a program, as it is written: saw_text/specs/Tree, and which text has which tree: saw_text/specs/Grammar;
--   2. here: what an expression says (`eval`), what a statement does (`exec`), what one record emits (`emits`), and what a program
--      means for all records (`program_tables`);
--   3. which programs are accepted, and which fault is told first: specs/Places and specs/Faults, in the order of the text;
--   4. the plan of a program, for which specs/Elaborate and specs/Judged read it once: specs/Plan. The laws on it: specs/Laws.
use Rattle.std.specs.Prelude.{ℕ, suc, length, ℤ, pos, List, [], ◌∷◌, ◌++◌, map, flat_map, max, Option, Some, None, if◌then◌else◌, slice_index_or}
use Rattle.std.specs.Ordering.{int_eq}
use Rattle.river_base.specs.Name.{name_eq}
use Rattle.river_base.specs.Number.{negate}
use Rattle.work_code.specs.Value.{applied, truth, is_true}
use Rattle.kern_tables.specs.declared.kind.TableKind.{TableKind}
use Rattle.river_plan.specs.declared.plan.TableDecl.{TableDecl}
use Rattle.river_plan.specs.Forms.{Name}
use Rattle.brooklet_model.specs.Machine.{at_name}
use Rattle.saw_text.specs.Tree.{Expression, Statement, Declare, Assign, Emit, If, Block, End, Then}
use Rattle.saw_text.specs.Tree.{Optional, Unwritten, Written, TableForm, TableUnit, StatementUnit, Program}
use Rattle.saw_text.specs.Tree as tree
use Rattle.saw_text.specs.declared.tree.Kind.{Kind}
use Rattle.saw_text.specs.declared.tree.Kind.TheVariants as code
use Rattle.kern_tables.specs.declared.kind.TableKind.TheVariants as kind
use Rattle.kern_tables.specs.Tables.{tab}

-- the names of fields mean nothing: a table has as many keys as it has indexes
abbrev pub table_kind_of : Kind → ℕ → TableKind
table_kind_of code.Sum keys = kind.Sum keys
table_kind_of code.Collection keys = kind.Collection keys
table_kind_of (code.Maximum best) keys = kind.Maximum best keys

abbrev pub table_kind : TableForm → TableKind
table_kind t = table_kind_of t.kind (length t.indexes)

abbrev pub table_decl : TableForm → TableDecl
table_decl t = record { name = t.name; kind = table_kind t }

-- the tables, in order
abbrev pub tables_in : Program → List TableDecl
tables_in [] = []
tables_in (TableUnit tb ∷ ps) = table_decl tb ∷ tables_in ps
tables_in (StatementUnit c ∷ ps) = tables_in ps

-- WHAT ONE RECORD EMITS

abbrev pub Store : Type 0
Store = Name → ℤ

-- the value of an expression, for a record and the values of names
abbrev pub eval : Expression → List ℤ → Store → ℤ
eval (tree.Number v) r env = pos v
eval (tree.Name n) r env = env n
eval (tree.Input p) r env = slice_index_or r p (pos 0)
eval (tree.Neg t) r env = negate (eval t r env)
eval (tree.Not t) r env = truth (int_eq (eval t r env) (pos 0))
eval (tree.Bin o a b) r env = applied o (eval a r env) (eval b r env)

-- a row with its table
abbrev pub Emitted : Type 0
Emitted = Name × List ℤ

-- where the run of a program stands
pub record State : Type 0 where
  pub values : Store
  pub emitted : List Emitted

abbrev pub eval_or : ℤ → Option Expression → List ℤ → Store → ℤ
eval_or z None r env = z
eval_or z (Some t) r env = eval t r env

abbrev pub eval_all : List Expression → List ℤ → Store → List ℤ
eval_all [] r env = []
eval_all (t ∷ ts) r env = eval t r env ∷ eval_all ts r env

abbrev pub listed : Option Expression → List Expression
listed None = []
listed (Some t) = t ∷ []

-- the row of an emit: the indexes, the value, the weight
abbrev pub emit_row : List Expression → Expression → Option Expression → List Expression
emit_row is v w = is ++ v ∷ listed w

abbrev mutual
  pub exec : Statement → List ℤ → State → State
  exec (Declare n t) r s = record s { values = at_name n (eval_or (pos 0) t r s.values) s.values }
  exec (Assign n t) r s = record s { values = at_name n (eval t r s.values) s.values }
  exec (Emit t is v w) r s = record s { emitted = s.emitted ++ (t, eval_all (emit_row is v w) r s.values) ∷ [] }
  exec (If t a b) r s = if is_true (eval t r s.values) then exec_block a r s else exec_optional b r s

  pub exec_block : Block → List ℤ → State → State
  exec_block End r s = s
  exec_block (Then c b) r s = exec_block b r (exec c r s)

  pub exec_optional : Optional → List ℤ → State → State
  exec_optional Unwritten r s = s
  exec_optional (Written b) r s = exec_block b r s

abbrev pub exec_units : Program → List ℤ → State → State
exec_units [] r s = s
exec_units (TableUnit tb ∷ ps) r s = exec_units ps r s
exec_units (StatementUnit c ∷ ps) r s = exec_units ps r (exec c r s)

-- with fresh locals
abbrev pub fresh_state : State
fresh_state = record { values = λ n. pos 0; emitted = [] }

abbrev pub emits : Program → List ℤ → List Emitted
emits p r = (exec_units p r fresh_state).emitted

-- WHAT A PROGRAM MEANS

-- the rows for a table
abbrev pub rows_for : Name → List Emitted → List (List ℤ)
rows_for n [] = []
rows_for n (e ∷ es) = if name_eq e.0 n then e.1 ∷ rows_for n es else rows_for n es

-- each table, of what all records emit to it
abbrev pub program_tables : Program → List (List ℤ) → List (List (List ℤ))
program_tables p records = map (λ t. tab t.kind (rows_for t.name (flat_map (emits p) records))) (tables_in p)

-- HOW MANY FIELDS ARE READ

abbrev pub reach : Expression → ℕ
reach (tree.Number v) = 0
reach (tree.Name n) = 0
reach (tree.Input p) = suc p
reach (tree.Neg t) = reach t
reach (tree.Not t) = reach t
reach (tree.Bin o a b) = max (reach a) (reach b)

abbrev pub reach_all : List Expression → ℕ
reach_all [] = 0
reach_all (t ∷ ts) = max (reach t) (reach_all ts)

abbrev mutual
  pub reach_statement : Statement → ℕ
  reach_statement (Declare n t) = reach_all (listed t)
  reach_statement (Assign n t) = reach t
  reach_statement (Emit t is v w) = reach_all (emit_row is v w)
  reach_statement (If t a b) = max (reach t) (max (reach_block a) (reach_optional b))

  pub reach_block : Block → ℕ
  reach_block End = 0
  reach_block (Then c b) = max (reach_statement c) (reach_block b)

  pub reach_optional : Optional → ℕ
  reach_optional Unwritten = 0
  reach_optional (Written b) = reach_block b

abbrev pub reach_parts : Program → ℕ
reach_parts [] = 0
reach_parts (TableUnit tb ∷ ps) = reach_parts ps
reach_parts (StatementUnit c ∷ ps) = max (reach_statement c) (reach_parts ps)

-- one more than the greatest index, at least 1
abbrev pub width : Program → ℕ
width p = max 1 (reach_parts p)
