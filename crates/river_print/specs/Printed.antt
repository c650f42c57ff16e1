-- The printed text of a plan: one unit a line.
use Rattle.std.specs.Prelude.{ℕ, ℤ, negsuc, List, [], ◌∷◌, ◌++◌, Option, None, Some, map, codes, if◌then◌else◌}
use Rattle.std.specs.Ordering.{int_eq}
use Rattle.std.specs.Fmt.{decimal, signed_decimal}
use Rattle.work_code.specs.Printed.{text_of, body_text, items_text}
use Rattle.work_code.specs.Steps.{Steps}
use Rattle.kern_rows.specs.Forms.{CodeForm, FilterForm, RunForm}
use Rattle.kern_bags.specs.declared.kernel.Window.{Window}
use Rattle.kern_bags.specs.declared.kernel.Window.TheVariants.{Now, Range, Unbounded, Latest}
use Rattle.kern_bags.specs.declared.kernel.Streamer.{Streamer}
use Rattle.kern_bags.specs.declared.kernel.Streamer.TheVariants.{Istream, Dstream, Rstream}
use Rattle.kern_tables.specs.declared.kind.TableKind.{TableKind}
use Rattle.kern_tables.specs.declared.kind.TableKind.TheVariants.{Sum, Collection, Maximum}
use Rattle.river_base.specs.declared.kind.FlatType.{FlatType}
use Rattle.river_base.specs.declared.kind.FlatType.TheVariants.{Rows, Stream, Relation}
use Rattle.river_base.specs.declared.kind.QueueType.{QueueType}
use Rattle.river_base.specs.declared.kind.QueueType.TheVariants.{Flat, Pack}
use Rattle.river_kernels.specs.Kern as kern
use Rattle.river_plan.specs.Caps.{OwnCaps}
use Rattle.river_plan.specs.Forms.{Name, OpForm, PlanForm}
use Rattle.river_plan.specs.declared.plan.Decl.{Decl}
use Rattle.river_plan.specs.declared.plan.TableDecl.{TableDecl}

-- items between brackets, joined by a comma and a space
abbrev pub list_text : List (List ℕ) → List ℕ
list_text items = codes "(" ++ (items_text items ++ codes ")")

-- a start: the least value is min
abbrev pub start_text : ℤ → List ℕ
start_text z = if int_eq z (negsuc 9223372036854775807) then codes "min" else signed_decimal z

abbrev pub values_text : List ℤ → List ℕ
values_text zs = list_text (map signed_decimal zs)

abbrev pub starts_text : List ℤ → List ℕ
starts_text zs = list_text (map start_text zs)

-- the starts and the body
abbrev pub run_text : List ℤ → Steps → List ℕ
run_text starts steps = codes " " ++ (starts_text starts ++ (codes " " ++ body_text steps))

abbrev pub code_text : CodeForm → List ℕ
code_text c =
    codes "code" ++ (list_text (decimal c.body.inputs ∷ decimal c.body.slots ∷ []) ++ (codes " " ++ (values_text c.outs ++ run_text c.starts c.body.steps)))

-- the rates of a filter, and how many slots it has
abbrev pub rates_text : FilterForm → List ℕ
rates_text f = list_text (decimal f.peek ∷ decimal f.pop ∷ decimal f.push ∷ decimal f.body.slots ∷ [])

-- a first run of its own: its rates and its body
abbrev pub first_text : RunForm → List ℕ
first_text r = codes " first" ++ (list_text (decimal r.peek ∷ decimal r.pop ∷ decimal r.push ∷ []) ++ (codes " " ++ body_text r.body.steps))

-- that run, or nothing where the first run is as the others
abbrev pub firsts_text : Option RunForm → List ℕ
firsts_text None = []
firsts_text (Some r) = first_text r

abbrev pub filter_text : FilterForm → List ℕ
filter_text f = codes "filter" ++ (rates_text f ++ (run_text f.starts f.body.steps ++ firsts_text f.first))

abbrev pub window_text : Window → List ℕ
window_text Now = codes "now"
window_text (Range t) = codes "range" ++ list_text (signed_decimal t ∷ [])
window_text Unbounded = codes "unbounded"
window_text (Latest n) = codes "latest" ++ list_text (decimal n ∷ [])

abbrev pub streamer_text : Streamer → List ℕ
streamer_text Istream = codes "istream"
streamer_text Dstream = codes "dstream"
streamer_text Rstream = codes "rstream"

abbrev pub kernel_text : kern.Kern → List ℕ
kernel_text (kern.code c) = code_text c
kernel_text (kern.filter f) = filter_text f
kernel_text (kern.duplicate n) = codes "duplicate" ++ list_text (decimal n ∷ [])
kernel_text (kern.deal ws) = codes "deal" ++ values_text ws
kernel_text (kern.collect ws) = codes "collect" ++ values_text ws
kernel_text (kern.packed k) = codes "packed { " ++ (kernel_text k ++ codes " }")
kernel_text (kern.unpack n) = codes "unpack" ++ list_text (decimal n ∷ [])
kernel_text (kern.window w) = window_text w
kernel_text (kern.select e) = codes "select" ++ list_text (text_of e ∷ [])
kernel_text (kern.project es) = codes "project" ++ list_text (map text_of es)
kernel_text kern.cross = codes "cross"
kernel_text (kern.streamer s) = streamer_text s
kernel_text kern.tally = codes "tally"
kernel_text (kern.fused a b at) =
    codes "fused" ++ (list_text (decimal at ∷ []) ++ (codes " { " ++ (kernel_text a ++ (codes " } { " ++ (kernel_text b ++ codes " }")))))

abbrev pub flat_text : FlatType → List ℕ
flat_text (Rows w) = codes "rows" ++ list_text (decimal w ∷ [])
flat_text (Stream w) = codes "stream" ++ list_text (decimal w ∷ [])
flat_text (Relation w) = codes "relation" ++ list_text (decimal w ∷ [])

abbrev pub type_text : QueueType → List ℕ
type_text (Flat t) = flat_text t
type_text (Pack t) = codes "pack" ++ list_text (flat_text t ∷ [])

abbrev pub table_text : TableKind → List ℕ
table_text (Sum k) = codes "sum" ++ list_text (decimal k ∷ [])
table_text (Collection k) = codes "collection" ++ list_text (decimal k ∷ [])
table_text (Maximum best k) = codes "maximum" ++ list_text (decimal best ∷ decimal k ∷ [])

-- a variable, with its dollar sign
abbrev pub var_text : Name → List ℕ
var_text v = codes "$" ++ v

-- a capacity behind a space, or nothing
abbrev pub cap_text : Option ℕ → List ℕ
cap_text None = []
cap_text (Some n) = codes " cap" ++ list_text (decimal n ∷ [])

-- the units, each a line
abbrev pub decl_line : List ℕ → Decl → List ℕ
decl_line word d = word ++ (codes " " ++ (d.name ++ (codes ": " ++ (type_text d.kind ++ codes ";\n"))))

-- a queue with a capacity of its own, if it has one
abbrev pub capped_line : Decl → Option ℕ → List ℕ
capped_line d most = codes "queue " ++ (d.name ++ (codes ": " ++ (type_text d.kind ++ (cap_text most ++ codes ";\n"))))

abbrev pub queue_line : OwnCaps → Decl → List ℕ
queue_line own d = capped_line d (own d.name)

abbrev pub table_line : TableDecl → List ℕ
table_line t = codes "table " ++ (var_text t.name ++ (codes ": " ++ (table_text t.kind ++ codes ";\n")))

abbrev pub var_line : Name → List ℕ
var_line v = codes "var " ++ (var_text v ++ codes ";\n")

-- the queues and then the variables
abbrev pub ports_text : List Name → List Name → List ℕ
ports_text queues vars = list_text (queues ++ map var_text vars)

-- an operator's name, and its ports and variables
abbrev pub head_text : OpForm → List ℕ
head_text op = codes "op " ++ (op.label ++ (codes ": " ++ (ports_text op.writes op.vars ++ (codes " <- " ++ ports_text op.reads op.vars))))

abbrev pub op_line : OpForm → List ℕ
op_line op = head_text op ++ (codes " { " ++ (kernel_text op.kernel ++ codes " }\n"))

abbrev pub lines : {A : Type 0} → (A → List ℕ) → List A → List ℕ
lines line [] = []
lines line (x ∷ xs) = line x ++ lines line xs

-- the header of version 2
abbrev pub header_line : List ℕ
header_line = codes "river 2;\n"

-- the plan, with these capacities of its internal queues
abbrev pub plan_text : OwnCaps → PlanForm → List ℕ
plan_text own p =
    header_line ++ (lines (decl_line (codes "output")) p.outputs ++ (lines (decl_line (codes "input")) p.inputs ++ (lines (queue_line own) p.queues
    ++ (lines table_line p.tables ++ (lines var_line p.vars ++ lines op_line p.ops)))))

-- its header and its queues
abbrev pub queues_text : OwnCaps → PlanForm → List ℕ
queues_text own p =
    header_line ++ (lines (decl_line (codes "output")) p.outputs ++ (lines (decl_line (codes "input")) p.inputs ++ lines (queue_line own) p.queues))
