use Rattle.std.proofs.Common.{rules, ◌≡◌, ◌∷◌, ◌++◌, ℤ, List, map, OnOk, w64, to_z, of_z, sym, ◌∙◌, subst}
use Rattle.river_base.specs.Held.{IsAscending}
use Rattle.river_base.specs.Row.{in_order}
use Rattle.river_base.proofs.Rows.{in_order_sorted}
use Rattle.csv_streams.specs.Outcome.{texts_of, row_line}
use Rattle.csv_streams.proofs.outcome.print_batch.Goals as goal

pub returns-then-is_ascending : goal.returns-then-is_ascending
returns-then-is_ascending c =
    let rows = c.args.batch.now.rows in
    let to = c.args.to.now in
    let printed = c.print_timed_rows.new.to in
    let slice = c.as_slice-then-is_ascending.result.now in
    let at : to_z w64 (of_z w64 c.args.batch.now.at) ≡ c.args.batch.now.at = search rules in
    let up : IsAscending rows = subst IsAscending c.as_slice.ensures (c.is_ascending.ensures c.if-is_ascending.true) in
    let same : slice ≡ in_order rows = c.as_slice-then-is_ascending.ensures ∙ sym (in_order_sorted rows up) in
    subst (λ (l : List (List ℤ)). OnOk c.print_timed_rows.result (printed ≡ to ++ texts_of row_line (map (λ row. c.args.batch.now.at ∷ row) l))) same
    (subst (λ (t : ℤ). OnOk c.print_timed_rows.result (printed ≡ to ++ texts_of row_line (map (λ row. t ∷ row) slice))) at c.print_timed_rows.ensures)
