-- The printed text of what a plan gave: the rows of its outputs and tables, and how often each operator fired.
use Rattle.std.specs.Prelude.{ℕ, ℤ, List, [], ◌∷◌, ◌++◌, map, codes, Option, None, Some, Bool, true, false}
use Rattle.std.specs.Fmt.{signed_decimal}
use Rattle.river_base.specs.declared.item.Item as item
use Rattle.river_base.specs.declared.item.Flat.TheVariants.{One, Batch as Batched, Change as Changed}
use Rattle.river_base.specs.declared.item.Item.TheVariants.{Flat, Pack}
use Rattle.river_base.specs.Row.{in_order}
use Rattle.river_plan.specs.Forms.{Name, PlanForm, decl_names, table_names, labels}

-- each value behind a comma
abbrev pub more_values : List ℤ → List ℕ
more_values [] = []
more_values (x ∷ xs) = codes "," ++ (signed_decimal x ++ more_values xs)

-- values in decimal, joined by commas
abbrev pub row_values_text : List ℤ → List ℕ
row_values_text [] = []
row_values_text (x ∷ xs) = signed_decimal x ++ more_values xs

abbrev pub row_line : List ℤ → List ℕ
row_line row = row_values_text row ++ codes "\n"

-- a text for each element, one after another
abbrev pub texts_of : {A : Type 0} → (A → List ℕ) → List A → List ℕ
texts_of line [] = []
texts_of line (x ∷ xs) = line x ++ texts_of line xs

-- the rows that an item prints: a row, or a batch's rows in ascending order, each
-- behind the batch's instant. No output carries packs or changes
abbrev pub item_rows : item.Item → List (List ℤ)
item_rows (Flat (One row)) = row ∷ []
item_rows (Flat (Batched b)) = map (λ row. b.at ∷ row) (in_order b.rows)
item_rows (Flat (Changed c)) = []
item_rows (Pack fs) = []

abbrev pub item_text : item.Item → List ℕ
item_text i = texts_of row_line (item_rows i)

-- the line `# NAME`, and then a text
abbrev pub under_name : Name → List ℕ → List ℕ
under_name name text = codes "# " ++ (name ++ (codes "\n" ++ text))

-- the items of an output in the order of its history
abbrev pub output_text : Name → List item.Item → List ℕ
output_text name items = under_name name (texts_of item_text items)

-- the outputs, each with its items
abbrev pub outputs_text : List Name → List (List item.Item) → List ℕ
outputs_text [] outs = []
outputs_text (name ∷ names) [] = []
outputs_text (name ∷ names) (items ∷ outs) = output_text name items ++ outputs_text names outs

-- the rows of a table, whose name is without its `$`
abbrev pub table_rows_text : Name → List (List ℤ) → List ℕ
table_rows_text name rows = under_name name (texts_of row_line rows)

-- the tables, each with its rows
abbrev pub tables_text : List Name → List (List (List ℤ)) → List ℕ
tables_text [] tables = []
tables_text (name ∷ names) [] = []
tables_text (name ∷ names) (rows ∷ tables) = table_rows_text name rows ++ tables_text names tables

-- the line `LABEL,COUNT`
abbrev pub count_line : Name → ℤ → List ℕ
count_line label count = label ++ (codes "," ++ (signed_decimal count ++ codes "\n"))

-- the operators, each with its number of firings
abbrev pub count_lines : List Name → List ℤ → List ℕ
count_lines [] counts = []
count_lines (label ∷ labels) [] = []
count_lines (label ∷ labels) (count ∷ counts) = count_line label count ++ count_lines labels counts

-- the firings, where they are asked for
abbrev pub firings_text : List Name → Option (List ℤ) → List ℕ
firings_text labels None = []
firings_text labels (Some counts) = codes "## firings\n" ++ count_lines labels counts

-- the counts, if they are asked for
abbrev pub asked_counts : Bool → List ℤ → Option (List ℤ)
asked_counts true counts = Some counts
asked_counts false counts = None

-- what is printed for a plan: its outputs in order, its tables in order, and then the firings of its operators
abbrev pub printed_outcome : PlanForm → List (List item.Item) → List (List (List ℤ)) → Option (List ℤ) → List ℕ
printed_outcome p outs tables counts =
    outputs_text (decl_names p.outputs) outs ++ (tables_text (table_names p.tables) tables ++ firings_text (labels p.ops) counts)
