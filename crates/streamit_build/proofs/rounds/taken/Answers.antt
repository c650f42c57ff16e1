use Rattle.std.proofs.Common.{◌≡◌, ◌<◌, [], ◌∷◌, ◌++◌, length, take, get_or, sym, ap, ◌∙◌, rules, arith}
use Rattle.std.specs.Prelude.{slice_index_or}
use Rattle.std.proofs.lemmas.List.{take_more}
use Rattle.streamit_build.proofs.Weights.{weight_below}
use Rattle.streamit_build.proofs.rounds.taken.Goals as goal

pub overflow_cast-weight : goal.overflow_cast-weight
overflow_cast-weight c =
    let ws = c.args.written.now in
    let i = c.loop-weight.weight-index in
    let lt : i < length ws = search rules in
    let is : slice_index_or ws i 0 ≡ get_or ws i 0 = search rules in
    let b = weight_below ws i lt in
    let low = c.requires in
    omega (arith, b, is, low)

pub loop-weight-preserved : goal.loop-weight-preserved
loop-weight-preserved c =
    let ws = c.args.written.now in
    let i = c.loop-weight.weight-index in
    let lt : i < length ws = search rules in
    let is : slice_index_or ws i 0 ≡ get_or ws i 0 = search rules in
    c.in_ok-push.ensures.items ∙ ap (λ l. l ++ slice_index_or ws i 0 ∷ []) c.loop-weight.invariant ∙ ap (λ x. take i ws ++ x ∷ []) is
    ∙ sym (take_more ws i 0 lt)
