-- A selection changes places with the operator that feeds it.
use Rattle.std.specs.Prelude.{◌≡◌, ℕ, ◌-◌, nat_lt, nat_eq, if◌then◌else◌, Option, Some, None, Result, Ok, Err, List, [], ◌∷◌, length, map, slice_get}
use Rattle.river_base.specs.declared.item.Item as item
use Rattle.river_base.specs.declared.kind.QueueType.{QueueType}
use Rattle.river_base.specs.declared.kind.QueueType.TheVariants.{Flat, Pack}
use Rattle.work_code.specs.Term.{Term, Const, Input, Slot, Neg, Not, Bin}
use Rattle.kern_bags.specs.declared.kernel.Window.{Window}
use Rattle.kern_bags.specs.declared.kernel.Window.TheVariants.{Now, Range, Unbounded, Latest}
use Rattle.river_kernels.specs.Kern.{Kern, window, select, project, cross, streamer}
use Rattle.river_kernels.specs.Fits.{width_of, spliced}
use Rattle.river_plan.specs.Forms.{Name, OpForm, PlanForm, all_decls}
use Rattle.river_plan.specs.Kinds.{kind_of}
use Rattle.river_plan.specs.Uses.{writes_it, named_it}
use Rattle.river_plan.specs.Valid.{IsPlan}
use Rattle.brooklet_model.specs.Meaning.{meaning}
use Rattle.brooklet_model.specs.Typed.{AreInputs}
use Rattle.plan_edits.specs.declared.unfit.Unfit.{Unfit}
use Rattle.plan_edits.specs.declared.unfit.Unfit.TheVariants.{H1, H2, H3, H4}
use Rattle.plan_edits.specs.Lists.{first_with, replaced, retyped}
use Rattle.plan_edits.specs.Meaning.{SameOuter}

-- FIELDS

abbrev pub two_terms : (Term → Term → Term) → Option Term → Option Term → Option Term
two_terms f None o = None
two_terms f (Some l) None = None
two_terms f (Some l) (Some r) = Some (f l r)

abbrev pub one_term : (Term → Term) → Option Term → Option Term
one_term f None = None
one_term f (Some t) = Some (f t)

abbrev pub as_input : Option ℕ → Option Term
as_input None = None
as_input (Some j) = Some (Input j)

-- the condition with other fields; None where the function gives none for a field that it reads
abbrev pub refielded : (ℕ → Option ℕ) → Term → Option Term
refielded f (Const z) = Some (Const z)
refielded f (Input i) = as_input (f i)
refielded f (Slot s) = Some (Slot s)
refielded f (Neg t) = one_term Neg (refielded f t)
refielded f (Not t) = one_term Not (refielded f t)
refielded f (Bin op l r) = two_terms (Bin op) (refielded f l) (refielded f r)

-- the field of the row below of which field i of a projection is a copy
abbrev pub plain_field : Option Term → Option ℕ
plain_field (Some (Const z)) = None
plain_field (Some (Input j)) = Some j
plain_field (Some (Slot s)) = None
plain_field (Some (Neg t)) = None
plain_field (Some (Not t)) = None
plain_field (Some (Bin op l r)) = None
plain_field None = None

abbrev pub of_projection : List Term → ℕ → Option ℕ
of_projection es i = plain_field (slice_get es i)

-- fields of the first side of a product, whose rows have this width, and of the second
abbrev pub of_first : ℕ → ℕ → Option ℕ
of_first width i = if nat_lt i width then Some i else None

abbrev pub of_second : ℕ → ℕ → Option ℕ
of_second width i = if nat_lt i width then None else Some (i - width)

-- WHERE A SELECTION GOES

-- the side at which the selection stands above an operator, and its condition there
abbrev pub at_side : ℕ → Option Term → Option (ℕ × Term)
at_side side None = None
at_side side (Some t) = Some (side, t)

abbrev pub either_side : Option (ℕ × Term) → Option (ℕ × Term) → Option (ℕ × Term)
either_side (Some x) o = Some x
either_side None o = o

abbrev pub past_window : Window → Term → Result (ℕ × Term) Unfit
past_window Now t = Ok (0, t)
past_window (Range span) t = Ok (0, t)
past_window Unbounded t = Ok (0, t)
past_window (Latest n) t = Err H3

abbrev pub or_h4 : Option (ℕ × Term) → Result (ℕ × Term) Unfit
or_h4 None = Err H4
or_h4 (Some x) = Ok x

-- the width of the rows of the first side
abbrev pub first_side_width : QueueType → ℕ
first_side_width (Flat t) = width_of t
first_side_width (Pack t) = 0

abbrev pub first_width : List QueueType → ℕ
first_width [] = 0
first_width (t ∷ ts) = first_side_width t

-- a selection by this condition passes an operator of this kernel, whose first input has rows of this width: at which of its
-- inputs it stands then, and with which condition; or H3 or H4
abbrev pub passes : ℕ → Kern → Term → Result (ℕ × Term) Unfit
passes width (window w) t = past_window w t
passes width (project es) t = or_h4 (at_side 0 (refielded (of_projection es) t))
passes width cross t = or_h4 (either_side (at_side 0 (refielded (of_first width) t)) (at_side 1 (refielded (of_second width) t)))
passes width (streamer s) t = Ok (0, t)
passes width kernel t = Err H3

-- THE PLAN

-- the selection, with this condition and these queues
abbrev pub raised : OpForm → Term → Name → Name → OpForm
raised u t src mid = record u { kernel = select t; reads = src ∷ []; writes = mid ∷ [] }

-- the operator that it has passed: it reads mid in place of its input at this side, and writes what the selection wrote
abbrev pub lowered : OpForm → ℕ → Name → Name → OpForm
lowered b side mid out = record b { reads = spliced side b.reads (mid ∷ []); writes = out ∷ [] }

-- the selection, which now feeds the operator below it
abbrev pub hoisted_ops : OpForm → OpForm → ℕ → Term → Name → Name → Name → List OpForm
hoisted_ops u b side t src mid out = raised u t src mid ∷ lowered b side mid out ∷ []

-- the queue between the two takes the type of the queue that the selection reads now
abbrev pub hoisted_plan : PlanForm → OpForm → OpForm → ℕ → Term → Name → Name → Name → PlanForm
hoisted_plan p u b side t src mid out = record p {
  queues = retyped mid (kind_of (all_decls p) src) p.queues;
  ops = replaced mid (hoisted_ops u b side t src mid out) p.ops;
}

abbrev pub hoist_at : PlanForm → OpForm → OpForm → Name → Name → ℕ × Term → Option Name → Result PlanForm Unfit
hoist_at p u b mid out x None = Err H2
hoist_at p u b mid out x (Some src) = Ok (hoisted_plan p u b x.0 x.1 src mid out)

abbrev pub hoist_passed : PlanForm → OpForm → OpForm → Name → Name → Result (ℕ × Term) Unfit → Result PlanForm Unfit
hoist_passed p u b mid out (Err f) = Err f
hoist_passed p u b mid out (Ok x) = hoist_at p u b mid out x (slice_get b.reads x.0)

abbrev pub hoist_past : PlanForm → OpForm → Term → Name → Name → Option OpForm → Result PlanForm Unfit
hoist_past p u t mid out None = Err H2
hoist_past p u t mid out (Some b) =
    if nat_eq (length b.writes) 1 then hoist_passed p u b mid out (passes (first_width (map (kind_of (all_decls p)) b.reads)) b.kernel t) else Err H2

-- the queues of an operator with one input and one output
abbrev pub hoist_between : PlanForm → OpForm → Term → List Name → List Name → Result PlanForm Unfit
hoist_between p u t [] ws = Err H1
hoist_between p u t (mid ∷ rs) [] = Err H1
hoist_between p u t (mid ∷ rs) (out ∷ ws) = hoist_past p u t mid out (first_with (writes_it mid) p.ops)

abbrev pub hoist_kernel : PlanForm → OpForm → Kern → Result PlanForm Unfit
hoist_kernel p u (select t) = hoist_between p u t u.reads u.writes
hoist_kernel p u kernel = Err H1

abbrev pub hoist_found : PlanForm → Option OpForm → Result PlanForm Unfit
hoist_found p None = Err H1
hoist_found p (Some u) = hoist_kernel p u u.kernel

-- the plan with the selection of this label before the operator that fed it, or the first condition that fails
abbrev pub hoist_of : PlanForm → Name → Result PlanForm Unfit
hoist_of p l = hoist_found p (first_with (named_it l) p.ops)

-- What is hoisted is a valid plan with the same inputs, outputs and tables, and means the same on all inputs that fit.
abbrev pub HoistKeeps : Type 0
HoistKeeps =
    (p p' : PlanForm) (l : Name) → IsPlan p → hoist_of p l ≡ Ok p'
    → IsPlan p' × SameOuter p p' × ((inputs : List (List item.Item)) → AreInputs p.inputs inputs → meaning p' inputs ≡ meaning p inputs)
