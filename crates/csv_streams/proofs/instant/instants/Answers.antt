use Rattle.std.proofs.Common.{◌≡◌, ◌+◌, ◌<◌, ◌∷◌, ◌++◌, ℤ, List, length, drop, map, sym, ap, ◌∙◌, arith, append_assoc}
use Rattle.std.proofs.lemmas.List.{drop_more}
use Rattle.river_base.specs.Instants.{stamps}
use Rattle.csv_streams.proofs.instant.instants.Goals as goal

pub loop-place-preserved : goal.loop-place-preserved
loop-place-preserved c =
    let files = c.args.files.now in
    let n = c.loop-place.place in
    let file = c.at.result.now in
    let later = drop (n + 1) files in
    let lt : n < length files = omega (arith, c.loop-place-test.true, c.len-place-end.ensures) in
    let left : drop n files ≡ file ∷ later = drop_more files n file lt ∙ ap (λ y. y ∷ later) (sym (c.at.ensures file)) in
    ap (λ l. l ++ stamps later) c.in_ok-add_stamps.ensures.ok
    ∙ append_assoc c.loop-place.stamps (map (λ (e : ℤ × List ℤ). e.0) file) (stamps later)
    ∙ ap (λ l. c.loop-place.stamps ++ stamps l) (sym left)
    ∙ c.loop-place.invariant
