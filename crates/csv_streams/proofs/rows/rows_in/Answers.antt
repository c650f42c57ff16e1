use Rattle.std.proofs.Common.{◌<◌, ℤ, List, [], ◌∷◌, ◌++◌, length, take, sym, ap, ◌∙◌, arith}
use Rattle.std.proofs.lemmas.List.{take_more}
use Rattle.csv_streams.proofs.rows.rows_in.Goals as goal

pub loop-place-preserved : goal.loop-place-preserved
loop-place-preserved c =
    let even = c.args.even.now in
    let n = c.loop-place.place in
    let lt : n < length even = omega (arith, c.loop-place-test.true, c.len-place-end.ensures) in
    c.in_ok-push.ensures.ok
    ∙ ap (λ l. l ++ c.from_slice.result ∷ []) c.loop-place.invariant
    ∙ ap (λ (r : List ℤ). take n even ++ r ∷ []) (c.from_slice.ensures ∙ c.at.ensures.row [])
    ∙ sym (take_more even n [] lt)
