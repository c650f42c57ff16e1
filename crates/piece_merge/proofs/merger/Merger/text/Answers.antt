use Rattle.std.proofs.Common.{◌∙◌, ◌++◌, ap, map}
use Rattle.kern_tables.specs.Kept.{rows_of}
use Rattle.river_plan.specs.Forms.{table_names}
use Rattle.csv_streams.specs.Outcome.{tables_text}
use Rattle.piece_merge.specs.Merging.{Merging}
use Rattle.piece_merge.proofs.Added.{merge-is}
use Rattle.piece_merge.proofs.merger.Merger.text.Goals as goal

pub returns : goal.returns
returns c =
    let is =
    c.in_ok-print_tables.ensures
    ∙ (λ i. c.new-text.ensures i ++ tables_text (table_names (c.as_slice.ensures i)) (map rows_of (c.as_slice-2.ensures.value i)))
    ∙ ap (λ (m : Merging). tables_text (table_names m.tables) (map rows_of m.kept)) c.self.view_is in
    record { printed = is; merged = merge-is c.args.self.now c.print_tables.new.to is }
