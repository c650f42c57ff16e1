use Rattle.std.proofs.Common.{◌≤◌, ◌∙◌, sym, ap, subst, map}
use Rattle.std.specs.Prelude.{All}
use Rattle.kern_tables.specs.Kept.{kind_of_table}
use Rattle.kern_tables.specs.Tables.{table_width}
use Rattle.river_plan.specs.declared.plan.TableDecl.{TableDecl}
use Rattle.piece_merge.specs.Added.{table_kinds}
use Rattle.piece_merge.proofs.Added.{none-added}
use Rattle.piece_merge.proofs.Sections.{kinds-none}
use Rattle.piece_merge.proofs.merger.Merger.new.Goals as goal

pub invariant_of-result : goal.invariant_of-result
invariant_of-result c =
    let copy = c.in_ok-copied.ensures in (
      ap (map kind_of_table) c.in_ok-empty_tables.ensures ∙ kinds-none c.args.tables.now ∙ ap table_kinds (sym copy),
      subst (All (λ (t : TableDecl). table_width t.kind ≤ 16)) (sym copy) c.requires,
    )

pub returns-clause-none : goal.returns-clause-none
returns-clause-none c =
    none-added _ c.args.tables.now (λ i. record { tables = c.in_ok-copied.ensures i; kept = c.in_ok-empty_tables.ensures i })
