use Rattle.std.proofs.Common.{◌≡◌, [], length, ap, sym, ◌∙◌, subst, arith}
use Rattle.std.specs.Prelude.{slice_index_or}
use Rattle.river_plan.specs.Forms.{PlanForm}
use Rattle.plan_classes.proofs.Named.{few_tables}
use Rattle.fire_open.specs.Homes.{IsClassCount, kinds_from}
use Rattle.fire_open.proofs.ClassLemmas.{cells_none, cells_more, cells_are, cells_blank, class_kinds_are}
use Rattle.fire_open.proofs.cells.cells_of.Goals as goal

pub class_count-class-end-requires-clause-first : goal.class_count-class-end-requires-clause-first
class_count-class-end-requires-clause-first c = c.requires.classes.by_first

pub class_count-class-end-requires-clause-few : goal.class_count-class-end-requires-clause-few
class_count-class-end-requires-clause-few c = let m = c.requires.classes.many in let f = few_tables c.args.plan.now c.requires.valid in omega (arith, m, f)

pub empty_cell-requires-clause-many : goal.empty_cell-requires-clause-many
empty_cell-requires-clause-many c = c.requires.classes.many ∙ ap (λ (q : PlanForm). length q.tables) (sym c.raw.ensures.raw)

pub empty_cell-requires-clause-few : goal.empty_cell-requires-clause-few
empty_cell-requires-clause-few c =
    let e = ap (λ (q : PlanForm). length q.tables) c.raw.ensures.raw in
    let f = few_tables c.args.plan.now c.requires.valid in
    omega (arith, e, f)

pub loop-class-preserved : goal.loop-class-preserved
loop-class-preserved c =
    let p = c.args.plan.now in
    let kinds = ap (λ (q : PlanForm). kinds_from (λ n. slice_index_or c.args.classes.now n 0) c.loop-class.class 0 q.tables) c.raw.ensures.raw
    ∙ class_kinds_are p c.args.classes.now c.loop-class.class c.requires.classes in
    cells_more p c.loop-class.class c.loop-class.cells c.push.new.self c.in_ok-empty_cell.field-0 c.loop-class.invariant
    (c.in_ok-empty_cell.ensures ∙ ap (λ ks. record { kinds = ks; log = [] }) kinds) c.in_ok-push.ensures.ok

pub returns-clause-cells : goal.returns-clause-cells
returns-clause-cells c =
    let e : c.loop-class.class ≡ c.class_count-class-end.result = omega arith in
    cells_are c.args.plan.now c.args.classes.now c.loop-class.class c.loop-class.cells c.requires.classes
    (subst (IsClassCount c.args.classes.now) (sym e) c.class_count-class-end.ensures) c.loop-class.invariant

pub returns-clause-empty : goal.returns-clause-empty
returns-clause-empty c = cells_blank c.args.plan.now c.loop-class.class c.loop-class.cells c.loop-class.invariant

pub loop-class-init : goal.loop-class-init
loop-class-init c = cells_none c.args.plan.now c.new-cells.result c.new-cells.ensures
