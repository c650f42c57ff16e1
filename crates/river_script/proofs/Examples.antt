-- Scripts on small plans, computed: what they make, and which step is refused by which condition.
use Rattle.std.proofs.Common.{◌≡◌, pos, None, List, [], ◌∷◌, refl}
use Rattle.std.specs.Prelude.{Ok, Err, codes}
use Rattle.river_base.specs.declared.kind.QueueType.{QueueType}
use Rattle.work_code.specs.declared.expr.BinOp.TheVariants as op
use Rattle.work_code.specs.Steps.{Push, Done, Then}
use Rattle.work_code.specs.Term.{Term, Const, Input, Neg, Bin}
use Rattle.kern_bags.specs.declared.kernel.Streamer.TheVariants.{Istream}
use Rattle.kern_bags.specs.declared.kernel.Window.TheVariants.{Range, Latest}
use Rattle.kern_tables.specs.declared.kind.TableKind.{TableKind}
use Rattle.kern_tables.specs.declared.kind.TableKind.TheVariants.{Sum}
use Rattle.river_kernels.specs.Fits.{rows, stream, relation}
use Rattle.river_kernels.specs.Kern.{Kern, code, filter, deal, window, select, project, streamer, tally, fused}
use Rattle.river_plan.specs.Forms.{Name, OpForm, PlanForm}
use Rattle.river_plan.specs.declared.plan.Decl.{Decl}
use Rattle.river_plan.specs.declared.plan.TableDecl.{TableDecl}
use Rattle.plan_edits.specs.declared.unfit.Unfit.TheVariants.{U1, U2, H3, N1, N4}
use Rattle.river_script.specs.Script.{fusing, hoisting, splitting, script_of}

abbrev decl : Name → QueueType → Decl
decl name kind = record { name = name; kind = kind }

abbrev table : Name → TableKind → TableDecl
table name kind = record { name = name; kind = kind }

abbrev made : Name → Kern → List Name → List Name → List Name → OpForm
made label kernel reads writes vars = record { label = label; kernel = kernel; reads = reads; writes = writes; vars = vars }

-- TWO OPERATORS IN A ROW

abbrev pushes : Term → Kern
pushes t = code (record { body = record { inputs = 1; slots = 0; steps = Then (Push 0 (t ∷ [])) Done }; outs = pos 1 ∷ []; starts = [] })

abbrev negated : Kern
negated = pushes (Neg (Input 0))

abbrev one_more : Kern
one_more = pushes (Bin op.Add (Input 0) (Const (pos 1)))

abbrev in_a_row : PlanForm
in_a_row = record {
  outputs = decl (codes "out") (rows 1) ∷ [];
  inputs = decl (codes "in") (rows 1) ∷ [];
  queues = decl (codes "q") (rows 1) ∷ [];
  tables = [];
  vars = [];
  ops = made (codes "a") negated (codes "in" ∷ []) (codes "q" ∷ []) [] ∷ made (codes "b") one_more (codes "q" ∷ []) (codes "out" ∷ []) [] ∷ [];
}

row_fused : script_of in_a_row (fusing (codes "q") ∷ []) ≡ Ok
    (record in_a_row { queues = []; ops = made (codes "a") (fused negated one_more 0) (codes "in" ∷ []) (codes "out" ∷ []) [] ∷ [] })
row_fused = refl

no_queue : script_of in_a_row (fusing (codes "z") ∷ []) ≡ Err (1, U1)
no_queue = refl

an_input : script_of in_a_row (fusing (codes "in") ∷ []) ≡ Err (1, U2)
an_input = refl

-- the queue is gone behind the first step
second_step : script_of in_a_row (fusing (codes "q") ∷ fusing (codes "q") ∷ []) ≡ Err (2, U1)
second_step = refl

-- TWO TABLES

abbrev map_kernel : Kern
map_kernel =
    code (record {
      body = record { inputs = 2; slots = 0; steps = Then (Push 0 (Const (pos 1) ∷ [])) (Then (Push 1 (Input 0 ∷ Input 1 ∷ [])) Done) };
      outs =
          pos 1 ∷ pos 2 ∷ [];
      starts = [];
    })

abbrev counted : PlanForm
counted = record {
  outputs = [];
  inputs = decl (codes "in") (rows 2) ∷ [];
  queues = decl (codes "count@q") (rows 1) ∷ decl (codes "total@q") (rows 2) ∷ [];
  tables = table (codes "count") (Sum 0) ∷ table (codes "total") (Sum 1) ∷ [];
  vars = [];
  ops =
      made (codes "map") map_kernel (codes "in" ∷ []) (codes "count@q" ∷ codes "total@q" ∷ []) []
      ∷ made (codes "count@tally") tally (codes "count@q" ∷ []) [] (codes "count" ∷ [])
      ∷ made (codes "total@tally") tally (codes "total@q" ∷ []) [] (codes "total" ∷ [])
      ∷ [];
}

abbrev whole : Kern
whole = fused (fused map_kernel tally 0) tally 0

abbrev copy : Name → Name → OpForm
copy label queue = made label whole (queue ∷ []) [] (codes "count" ∷ codes "total" ∷ [])

three_maps : script_of counted (fusing (codes "count@q") ∷ fusing (codes "total@q") ∷ splitting (codes "map") 3 ∷ []) ≡ Ok (record counted {
  queues = decl (codes "map@a1") (rows 2) ∷ decl (codes "map@a2") (rows 2) ∷ decl (codes "map@a3") (rows 2) ∷ [];
  vars = codes "map@d" ∷ [];
  ops =
      made (codes "map@d") (deal (pos 1 ∷ pos 1 ∷ pos 1 ∷ [])) (codes "in" ∷ []) (codes "map@a1" ∷ codes "map@a2" ∷ codes "map@a3" ∷ []) (codes "map@d" ∷ [])
      ∷ copy (codes "map@1") (codes "map@a1") ∷ copy (codes "map@2") (codes "map@a2") ∷ copy (codes "map@3") (codes "map@a3") ∷ [];
})
three_maps = refl

-- before the fusions the map has two outputs
two_outputs : script_of counted (splitting (codes "map") 3 ∷ []) ≡ Err (1, N4)
two_outputs = refl

-- A WINDOW AND A SELECTION

abbrev above : Term
above = Bin op.Gt (Input 0) (Const (pos 15))

abbrev selected : Kern → PlanForm
selected k = record {
  outputs = decl (codes "q") (stream 1) ∷ [];
  inputs = decl (codes "S") (stream 1) ∷ [];
  queues = decl (codes "q@w1") (relation 1) ∷ decl (codes "q@s") (relation 1) ∷ decl (codes "q@p") (relation 1) ∷ [];
  tables = [];
  vars = codes "q@w1" ∷ codes "q@i" ∷ [];
  ops =
      made (codes "q@w1") k (codes "S" ∷ []) (codes "q@w1" ∷ []) (codes "q@w1" ∷ [])
      ∷ made (codes "q@s") (select above) (codes "q@w1" ∷ []) (codes "q@s" ∷ []) []
      ∷ made (codes "q@p") (project (Input 0 ∷ [])) (codes "q@s" ∷ []) (codes "q@p" ∷ []) []
      ∷ made (codes "q@i") (streamer Istream) (codes "q@p" ∷ []) (codes "q" ∷ []) (codes "q@i" ∷ [])
      ∷ [];
}

ranged : script_of (selected (window (Range (pos 2)))) (hoisting (codes "q@s") ∷ []) ≡ Ok (record (selected (window (Range (pos 2)))) {
  queues = decl (codes "q@w1") (stream 1) ∷ decl (codes "q@s") (relation 1) ∷ decl (codes "q@p") (relation 1) ∷ [];
  ops =
      made (codes "q@s") (select above) (codes "S" ∷ []) (codes "q@w1" ∷ []) []
      ∷ made (codes "q@w1") (window (Range (pos 2))) (codes "q@w1" ∷ []) (codes "q@s" ∷ []) (codes "q@w1" ∷ [])
      ∷ made (codes "q@p") (project (Input 0 ∷ [])) (codes "q@s" ∷ []) (codes "q@p" ∷ []) []
      ∷ made (codes "q@i") (streamer Istream) (codes "q@p" ∷ []) (codes "q" ∷ []) (codes "q@i" ∷ [])
      ∷ [];
})
ranged = refl

latest_stops : script_of (selected (window (Latest 5))) (hoisting (codes "q@s") ∷ []) ≡ Err (1, H3)
latest_stops = refl

-- A FILTER THAT LOOKS FURTHER THAN IT TAKES

abbrev summed : PlanForm
summed = record {
  outputs = decl (codes "out") (rows 1) ∷ [];
  inputs = decl (codes "in") (rows 1) ∷ [];
  queues = [];
  tables = [];
  vars = codes "Sum@1" ∷ [];
  ops =
      made (codes "Sum@1")
      (filter (record {
        peek = 3;
        pop = 1;
        push = 1;
        body =
            record { inputs = 3; slots = 0; steps = Then (Push 0 (Bin op.Add (Bin op.Add (Input 0) (Input 1)) (Input 2) ∷ [])) Done };
        starts = [];
        first = None;
      }))
      (codes "in" ∷ []) (codes "out" ∷ []) (codes "Sum@1" ∷ []) ∷ [];
}

peeks_further : script_of summed (splitting (codes "Sum@1") 2 ∷ []) ≡ Err (1, N4)
peeks_further = refl

no_steps : script_of summed [] ≡ Ok summed
no_steps = refl

no_operator : script_of summed (splitting (codes "Sum") 2 ∷ []) ≡ Err (1, N1)
no_operator = refl
