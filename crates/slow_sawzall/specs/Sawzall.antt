-- What the evaluator of Sawzall programs keeps, and what it needs of a program.
use Rattle.std.specs.Prelude.{◌≡◌, ◌≤◌, ℕ, ℤ, pos, List, [], ◌∷◌, map, length, Option, Ok}
use Rattle.std.specs.List.{AllByRecursion}
use Rattle.work_code.specs.Steps.{Steps}
use Rattle.kern_tables.specs.Tables.{tab, table_width}
use Rattle.river_plan.specs.Forms.{Name}
use Rattle.brooklet_model.specs.Machine.{at_name}
use Rattle.saw_text.specs.Tree.{Expression}
use Rattle.saw_text.specs.Tree.{Statement, Declare, Assign, Emit, If, Block, End, Then, Optional, Unwritten, Written, UnitForm, TableUnit, StatementUnit, Program}
use Rattle.saw_model.specs.Meaning.{tables_in, Store, Emitted, State, listed, table_kind}
use Rattle.saw_model.specs.Meaning.{emit_row, exec, rows_for}
use Rattle.saw_model.specs.Elaborate.{At}
use Rattle.saw_model.specs.Judged.{judged}
use Rattle.saw_front.specs.Valued.{AreValues, AllValues}
use Rattle.slow_sawzall.specs.declared.run.Run.{Run}

-- the program has no fault
abbrev pub IsAccepted : Program → Type 0
IsAccepted p = (read : Steps × At) × (judged p ≡ Ok read)

-- WHAT IS KEPT

-- the values of names, of which the first that is listed counts; a name that is not listed has 0
abbrev pub named_values : List (Name × ℤ) → Store
named_values [] = λ n. pos 0
named_values (e ∷ es) = at_name e.0 e.1 (named_values es)

-- where the run stands
abbrev pub run_state : Run → State
run_state run = record { values = named_values run.locals.items; emitted = run.emitted.items }

-- what a unit does
abbrev pub do_part : UnitForm → List ℤ → State → State
do_part (TableUnit tb) r s = s
do_part (StatementUnit c) r s = exec c r s

-- the tables of a program, of these rows
abbrev pub tables_for : Program → List Emitted → List (List (List ℤ))
tables_for p es = map (λ t. tab t.kind (rows_for t.name es)) (tables_in p)

-- WHAT IS NEEDED

-- the numbers of an emit are values, and it has at most 16 parts
abbrev pub AreEmitted : List Expression → Expression → Option Expression → Type 0
AreEmitted is v w = AllValues is × AreValues v × AllValues (listed w) × (length (emit_row is v w) ≤ 16)

abbrev mutual
  pub IsRunnable : Statement → Type 0
  IsRunnable (Declare n t) = AllValues (listed t)
  IsRunnable (Assign n t) = AreValues t
  IsRunnable (Emit t is v w) = AreEmitted is v w
  IsRunnable (If t a b) = AreValues t × AreRunnable a × AreRunnableOptional b

  pub AreRunnable : Block → Type 0
  AreRunnable End = Unit {0}
  AreRunnable (Then c b) = IsRunnable c × AreRunnable b

  pub AreRunnableOptional : Optional → Type 0
  AreRunnableOptional Unwritten = Unit {0}
  AreRunnableOptional (Written b) = AreRunnable b

abbrev pub IsRunnablePart : UnitForm → Type 0
IsRunnablePart (TableUnit tb) = Unit {0}
IsRunnablePart (StatementUnit c) = IsRunnable c

abbrev pub AreRunnableParts : Program → Type 0
AreRunnableParts [] = Unit {0}
AreRunnableParts (c ∷ ps) = IsRunnablePart c × AreRunnableParts ps

-- each row has so many values
abbrev pub AreAllWide : ℕ → List (List ℤ) → Type 0
AreAllWide width rows = AllByRecursion (λ row. length row ≡ width) rows

-- what was emitted to a table is as wide as its rows are
abbrev pub IsWideFor : UnitForm → List Emitted → Type 0
IsWideFor (TableUnit tb) es = AreAllWide (table_width (table_kind tb)) (rows_for tb.name es)
IsWideFor (StatementUnit c) es = Unit {0}

abbrev pub AreWideFor : Program → List Emitted → Type 0
AreWideFor [] es = Unit {0}
AreWideFor (c ∷ ps) es = IsWideFor c es × AreWideFor ps es
