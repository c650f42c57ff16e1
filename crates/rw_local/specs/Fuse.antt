-- Two operators become one.
use Rattle.std.specs.Prelude.{◌≡◌, Bool, ◌||◌, nat_lt, nat_eq, if◌then◌else◌, Option, Some, None, Result, Ok, Err, List, [], ◌∷◌, ◌++◌, length}
use Rattle.std.specs.List.{list_any}
use Rattle.river_base.specs.declared.item.Item as item
use Rattle.river_kernels.specs.Kern.{fused}
use Rattle.river_kernels.specs.Fits.{spliced}
use Rattle.river_kernels.specs.Limits.{nesting}
use Rattle.river_plan.specs.Forms.{Name, OpForm, PlanForm, queue_names}
use Rattle.river_plan.specs.Names.{count}
use Rattle.river_plan.specs.Uses.{writes_it, reads_it}
use Rattle.river_plan.specs.Valid.{IsPlan}
use Rattle.brooklet_model.specs.Meaning.{meaning}
use Rattle.brooklet_model.specs.Typed.{AreInputs}
use Rattle.plan_edits.specs.declared.unfit.Unfit.{Unfit}
use Rattle.plan_edits.specs.declared.unfit.Unfit.TheVariants.{U1, U2, U3, U4, U5}
use Rattle.plan_edits.specs.Lists.{place_of_name, undeclared, first_with, replaced}
use Rattle.plan_edits.specs.Meaning.{SameOuter}

-- one operator with the writer's label and inputs; the reader's outputs stand in the place of the queue among the writer's outputs
abbrev pub fused_op : Name → OpForm → OpForm → OpForm
fused_op q w r = record {
  label = w.label;
  kernel = fused w.kernel r.kernel (place_of_name q w.writes);
  reads = w.reads;
  writes = spliced (place_of_name q w.writes) w.writes r.writes;
  vars = w.vars ++ r.vars;
}

-- it stands in the writer's place; the queue and the reader's place are gone
abbrev pub fused_plan : PlanForm → Name → OpForm → OpForm → PlanForm
fused_plan p q w r = record p { queues = undeclared q p.queues; ops = replaced q (fused_op q w r ∷ []) p.ops }

-- the lists have a name in common
abbrev pub share : List Name → List Name → Bool
share vs us = list_any (λ v. nat_lt 0 (count v us)) vs

-- it nests above 32, or has more than 64 output ports
abbrev pub is_large : OpForm → Bool
is_large op = nat_lt 32 (nesting op.kernel) || nat_lt 64 (length op.writes)

abbrev pub fuse_two : PlanForm → Name → OpForm → OpForm → Result PlanForm Unfit
fuse_two p q w r =
    if nat_eq (length r.reads) 1
    then (if is_large (fused_op q w r) then Err U4 else (if share w.vars r.vars then Err U5 else Ok (fused_plan p q w r)))
    else Err U3

abbrev pub fuse_found : PlanForm → Name → Option OpForm → Option OpForm → Result PlanForm Unfit
fuse_found p q None o = Err U2
fuse_found p q (Some w) None = Err U2
fuse_found p q (Some w) (Some r) = fuse_two p q w r

-- the plan with the writer and the reader of a queue in one, or the first condition that fails
abbrev pub fuse_of : PlanForm → Name → Result PlanForm Unfit
fuse_of p q = if nat_lt 0 (count q (queue_names p)) then fuse_found p q (first_with (writes_it q) p.ops) (first_with (reads_it q) p.ops) else Err U1

-- What is fused is a valid plan with the same inputs, outputs and tables, and means the same on all inputs that fit.
abbrev pub FuseKeeps : Type 0
FuseKeeps =
    (p p' : PlanForm) (q : Name) → IsPlan p → fuse_of p q ≡ Ok p'
    → IsPlan p' × SameOuter p p' × ((inputs : List (List item.Item)) → AreInputs p.inputs inputs → meaning p' inputs ≡ meaning p inputs)
