use Rattle.std.proofs.Common.{ℤ, List, ◌++◌, length, set, drop, ap, ◌∙◌}
use Rattle.kern_changes.specs.Keyed.{at_place}
use Rattle.kern_changes.proofs.Turning.{turned_copy}
use Rattle.kern_changes.proofs.keyed.put_turned.Goals as goal

pub returns-then-place-count : goal.returns-then-place-count
returns-then-place-count c =
    let k = c.args.place in
    let rest : List ℤ = drop (length c.args.values.now) c.args.to.now in
    let both : List ℤ → List ℤ = λ l. set (set (l ++ rest) 0 (at_place k (l ++ rest))) k (at_place 0 (l ++ rest)) in
    c.change_places.ensures ∙ ap both c.copy_from_slice.ensures.after ∙ turned_copy k c.args.values.now rest c.if-place-gt0.true c.if-place-count.true
