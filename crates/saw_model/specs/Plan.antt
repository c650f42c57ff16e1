-- The plan of a program.
use Rattle.std.specs.Prelude.{ℕ, ℤ, pos, List, [], ◌∷◌, ◌++◌, map, codes}
use Rattle.river_base.specs.declared.item.Item as item
use Rattle.river_base.specs.declared.item.Item.TheVariants.{Flat}
use Rattle.river_base.specs.declared.item.Flat.TheVariants.{One}
use Rattle.work_code.specs.Steps.{Steps}
use Rattle.kern_rows.specs.Forms.{CodeForm}
use Rattle.river_kernels.specs.Fits.{rows}
use Rattle.river_kernels.specs.Kern.{code, tally}
use Rattle.river_plan.specs.declared.plan.Decl.{Decl}
use Rattle.river_plan.specs.declared.plan.TableDecl.{TableDecl}
use Rattle.river_plan.specs.Forms.{Name, OpForm, PlanForm}
use Rattle.river_plan.specs.Kinds.{table_width}
use Rattle.saw_text.specs.Tree.{Program}
use Rattle.saw_model.specs.Meaning.{tables_in, width}
use Rattle.saw_model.specs.Elaborate.{At}

abbrev pub queue_name : Name → Name
queue_name t = t ++ codes "@q"

abbrev pub tally_name : Name → Name
tally_name t = t ++ codes "@tally"

abbrev pub queues_of : List TableDecl → List Name
queues_of ts = map (λ t. queue_name t.name) ts

abbrev pub queue_decls : List TableDecl → List Decl
queue_decls ts = map (λ t. record { name = queue_name t.name; kind = rows (table_width t.kind) }) ts

abbrev pub tally_op : TableDecl → OpForm
tally_op t = record { label = tally_name t.name; kernel = tally; reads = queue_name t.name ∷ []; writes = []; vars = t.name ∷ [] }

abbrev pub body_form : Program → Steps → ℕ → CodeForm
body_form p body slots =
    record { body = record { inputs = width p; slots = slots; steps = body }; outs = map (λ t. pos (table_width t.kind)) (tables_in p); starts = [] }

abbrev pub map_op : Program → Steps → ℕ → OpForm
map_op p body slots =
    record { label = codes "map"; kernel = code (body_form p body slots); reads = codes "in" ∷ []; writes = queues_of (tables_in p); vars = [] }

abbrev pub plan_of : Program → Steps × At → PlanForm
plan_of p read = record {
  outputs = [];
  inputs = record { name = codes "in"; kind = rows (width p) } ∷ [];
  queues = queue_decls (tables_in p);
  tables = tables_in p;
  vars = [];
  ops = map_op p read.0 read.1.slots ∷ map tally_op (tables_in p);
}

-- rows as items
abbrev pub rows_as_items : List (List ℤ) → List item.Item
rows_as_items rs = map (λ r. Flat (One r)) rs
