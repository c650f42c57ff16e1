use Rattle.std.proofs.Common.{◌≡◌, ◌++◌, length, take, ap, ◌∙◌, sym}
use Rattle.std.proofs.lemmas.List.{map-id}
use Rattle.std.proofs.lemmas.Iterator.Adapters.{YieldsList-from_vec}
use Rattle.std.proofs.lemmas.Iterator.Consumers.{YieldsList-so_far}
use Rattle.river_base.specs.declared.item.Item.TheVariants.{Flat}
use Rattle.river_base.specs.declared.item.Flat.TheVariants.{Change as Changed}
use Rattle.river_base.proofs.LoopLemmas.{grew_by_map}
use Rattle.river_base.proofs.PlaceLemmas.{on_err}
use Rattle.kern_bags.specs.Following.{as_changes}
use Rattle.kern_bags.proofs.given.give_changes.Goals as goal

pub returns-in_err-give_change-clause-err : goal.returns-in_err-give_change-clause-err
returns-in_err-give_change-clause-err c =
    let b = c.into_iter-change-iterator.ensures.into_iter_gives in
    let items = c.into_vec-change-items.result in
    let e = YieldsList-so_far (YieldsList-from_vec {s = c.into_iter-change-iterator.result} items.items b.0 (b.1 ∙ items.ok.0))
    c.loop-change.yielded _ c.loop-change.yielded_by in
    let f : c.loop-change.yielded ≡ take (length c.loop-change.yielded) c.args.changes =
    sym (map-id c.loop-change.yielded) ∙ e ∙ ap (take (length c.loop-change.yielded)) c.into_vec-change-items.ensures in
    on_err c.from_residual.result (grew_by_map (λ d. Flat (Changed d)) c.args.out.now c.give_change.new.out c.args.changes (length c.loop-change.yielded)
    (c.in_err-give_change.ensures.err ∙ c.loop-change.invariant ∙ ap (λ ds. c.args.out.now ++ as_changes ds) f))
