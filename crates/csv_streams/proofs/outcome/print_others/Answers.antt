use Rattle.std.proofs.Common.{◌≡◌, ◌+◌, ◌<◌, ◌∷◌, ◌++◌, length, drop, sym, ap, ◌∙◌, arith, append_assoc}
use Rattle.std.proofs.lemmas.List.{drop_more}
use Rattle.csv_streams.specs.Outcome.{texts_of, item_text}
use Rattle.csv_streams.proofs.outcome.print_others.Goals as goal

pub loop-place-preserved : goal.loop-place-preserved
loop-place-preserved c =
    let items = c.args.items.now.items in
    let n = c.loop-place.place in
    let x = c.index.result.now in
    let later = drop (n + 1) items in
    let lt : n < length items = omega (arith, c.loop-place-test.true, c.len-place-end.ensures) in
    let left : drop n items ≡ x ∷ later = drop_more items n x lt ∙ ap (λ y. y ∷ later) (sym c.index.ensures) in
    ap (λ l. l ++ texts_of item_text later) c.in_ok-print_item.ensures
    ∙ append_assoc c.loop-place.to (item_text x) (texts_of item_text later)
    ∙ ap (λ l. c.loop-place.to ++ texts_of item_text l) (sym left)
    ∙ c.loop-place.invariant
