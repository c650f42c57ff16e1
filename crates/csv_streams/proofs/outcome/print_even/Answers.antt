use Rattle.std.proofs.Common.{◌≡◌, ◌+◌, ◌<◌, ◌∷◌, ◌++◌, length, drop, sym, ap, ◌∙◌, arith, append_assoc}
use Rattle.std.proofs.lemmas.List.{drop_more}
use Rattle.csv_streams.specs.Outcome.{texts_of, row_line}
use Rattle.csv_streams.proofs.outcome.print_even.Goals as goal

pub loop-place-preserved : goal.loop-place-preserved
loop-place-preserved c =
    let rows = c.args.rows.now in
    let n = c.loop-place.place in
    let x = c.at.result.now in
    let later = drop (n + 1) rows in
    let lt : n < length rows = omega (arith, c.loop-place-test.true, c.len-place-end.ensures) in
    let left : drop n rows ≡ x ∷ later = drop_more rows n x lt ∙ ap (λ y. y ∷ later) (sym (c.at.ensures.row x)) in
    ap (λ l. l ++ texts_of row_line later) c.in_ok-print_values.ensures
    ∙ append_assoc c.loop-place.to (row_line x) (texts_of row_line later)
    ∙ ap (λ l. c.loop-place.to ++ texts_of row_line l) (sym left)
    ∙ c.loop-place.invariant
