-- A queue of a valid plan has a width.
use Rattle.std.proofs.Common.{◌≡◌, ◌<◌, List, [], ◌∷◌, ◌++◌, IsTrue, ap, ◌∙◌, arith}
use Rattle.std.specs.Prelude.{All}
use Rattle.std.proofs.lemmas.List.Elements.{All-append, All-nil, All-cons, All-head, All-tail}
use Rattle.river_plan.proofs.DeclLemmas.{names_append}
use Rattle.river_kernels.specs.Formed.{is_width}
use Rattle.river_plan.specs.declared.plan.Decl.{Decl}
use Rattle.river_plan.specs.Faults.{HasWidth, IsOuter, type_width}
use Rattle.river_plan.specs.Forms.{Name, PlanForm, decl_names, all_decls, queue_names}
use Rattle.river_plan.specs.Kinds.{kind_of}
use Rattle.river_plan.specs.Names.{count}
use Rattle.river_plan.specs.Valid.{IsPlan}
use Rattle.plan_edits.proofs.Lookups.{kind_sized}

outer : (ds : List Decl) → All IsOuter ds → All HasWidth ds
outer [] h = All-nil HasWidth
outer (d ∷ ds) h = All-cons HasWidth d ds (All-head IsOuter d ds h).0 (outer ds (All-tail IsOuter d ds h))

-- what holds of all declarations
pub all_named : (r : PlanForm) → decl_names (all_decls r) ≡ queue_names r
all_named r = names_append r.outputs (r.inputs ++ r.queues) ∙ ap (λ l. decl_names r.outputs ++ l) (names_append r.inputs r.queues)

-- a queue that is declared has a width
pub named_sized : (p : PlanForm) → IsPlan p → (q : Name) → 0 < count q (queue_names p) → IsTrue (is_width (type_width (kind_of (all_decls p) q)))
named_sized p v q lt =
    kind_sized (all_decls p) q
    (All-append HasWidth p.outputs (p.inputs ++ p.queues) (outer p.outputs v.outputs_typed)
    (All-append HasWidth p.inputs p.queues (outer p.inputs v.inputs_typed) v.queues_typed))
    (let a = ap (count q) (all_named p) in omega (arith, a, lt))
