use Rattle.std.proofs.Common.{List, refl, ap, ◌∙◌}
use Rattle.std.specs.Prelude.{flat_map}
use Rattle.river_kernels.specs.Limits.{first_above}
use Rattle.river_plan.specs.declared.plan.TableDecl.{TableDecl}
use Rattle.river_plan.specs.Limits.{best_rows}
use Rattle.plan_check.proofs.OverLemmas.{over-next, over-found, over-end}
use Rattle.plan_check.proofs.limit.tables_over.Goals as goal

pub loop-table-init : goal.loop-table-init
loop-table-init c = refl

pub loop-table-preserved : goal.loop-table-preserved
loop-table-preserved c =
    over-next c.args.most (λ (l : List TableDecl). flat_map (λ t. best_rows t.kind) (l)) (λ (x : TableDecl). best_rows x.kind)
    (λ x xs. refl) c.as_slice-table-items.result.now c.loop-table.table-index c.table-item.result
    c.loop-table-test.true c.table-item.is c.in_default.ensures c.loop-table.invariant

pub returns-in-Some : goal.returns-in-Some
returns-in-Some c =
    over-found c.args.most (λ (l : List TableDecl). flat_map (λ t. best_rows t.kind) (l)) (λ (x : TableDecl). best_rows x.kind)
    (λ x xs. refl) c.as_slice-table-items.result.now c.loop-table.table-index c.table-item.result c.in-Some.number
    c.loop-table-test.true c.table-item.is c.in-Some.ensures c.loop-table.invariant
    ∙ ap (λ (l : List TableDecl). first_above c.args.most (flat_map (λ t. best_rows t.kind) (l))) c.as_slice-table-items.ensures

pub returns : goal.returns
returns c =
    over-end c.args.most (λ (l : List TableDecl). flat_map (λ t. best_rows t.kind) (l)) (λ (x : TableDecl). best_rows x.kind)
    (λ x xs. refl) c.as_slice-table-items.result.now c.loop-table.table-index
    c.loop-table-test.false refl c.loop-table.invariant
    ∙ ap (λ (l : List TableDecl). first_above c.args.most (flat_map (λ t. best_rows t.kind) (l))) c.as_slice-table-items.ensures
