use Rattle.std.proofs.Common.{◌≡◌, ◌+◌, [], ◌∷◌, ◌++◌, drop, sym, ap, ◌∙◌, append_assoc}
use Rattle.std.proofs.lemmas.List.{drop_more}
use Rattle.river_base.specs.Instants.{stamps}
use Rattle.river_road.specs.Inputs.{timed_files}
use Rattle.river_road.proofs.Items.{stamps-more}
use Rattle.river_road.proofs.item_lists.instants_of.Goals as goal

pub loop-place-preserved : goal.loop-place-preserved
loop-place-preserved c =
    let files = c.args.files.now in
    let n = c.loop-place.place in
    let file = c.index-files-place.result in
    let later = drop (n + 1) files in
    let left : drop n files ≡ file ∷ later = drop_more files n file c.loop-place-test.true ∙ ap (λ y. y ∷ later) (sym c.index-files-place.is) in
    ap (λ l. l ++ stamps (timed_files later)) c.in_ok-add_stamps_of.ensures
    ∙ append_assoc c.loop-place.stamps (stamps (timed_files (file ∷ []))) (stamps (timed_files later))
    ∙ ap (λ l. c.loop-place.stamps ++ l) (sym (stamps-more file later))
    ∙ ap (λ l. c.loop-place.stamps ++ stamps (timed_files l)) (sym left)
    ∙ c.loop-place.invariant
