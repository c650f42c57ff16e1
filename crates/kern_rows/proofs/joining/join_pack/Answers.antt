use Rattle.std.proofs.Common.{◌≡◌, length, take, refl, ap, ◌∙◌, sym}
use Rattle.std.proofs.lemmas.List.{map-id}
use Rattle.std.proofs.lemmas.Iterator.Adapters.{YieldsList-from_vec}
use Rattle.std.proofs.lemmas.Iterator.Consumers.{YieldsList-so_far}
use Rattle.river_base.proofs.PlaceLemmas.{on_err}
use Rattle.kern_rows.proofs.JoinLaws.{flats_start, flats_step, flats_part}
use Rattle.kern_rows.proofs.joining.join_pack.Goals as goal

pub loop-flat-init : goal.loop-flat-init
loop-flat-init c = flats_start c.args.place c.args.owed.now c.args.out.now

pub loop-flat-preserved : goal.loop-flat-preserved
loop-flat-preserved c =
    flats_step c.args.place c.loop-flat.yielded c.in-Some.flat c.in_ok-given.given c.args.owed.now c.loop-flat.owed c.join_flat.new.owed c.args.out.now
    c.loop-flat.out
    c.push.new.self c.loop-flat.invariant c.in_ok-given.ensures c.in_ok-push.ensures.ok

pub returns-in_err-given-clause-err : goal.returns-in_err-given-clause-err
returns-in_err-given-clause-err c =
    let b = c.into_iter-flat-iterator.ensures.into_iter_gives in
    let items = c.into_vec-flat-items.result in
    let n = length c.loop-flat.yielded in
    let e = YieldsList-so_far (YieldsList-from_vec {s = c.into_iter-flat-iterator.result} items.items b.0 (b.1 ∙ items.ok.0)) c.loop-flat.yielded _
    c.loop-flat.yielded_by in
    let f : c.loop-flat.yielded ≡ take n c.args.pack = sym (map-id c.loop-flat.yielded) ∙ e ∙ ap (take n) c.into_vec-flat-items.ensures in
    on_err c.from_residual.result
    (flats_part c.args.place n c.loop-flat.yielded c.args.pack c.args.owed.now c.loop-flat.owed c.args.out.now c.loop-flat.out c.loop-flat.out
    c.loop-flat.invariant f refl)

pub returns-in_err-push-clause-err : goal.returns-in_err-push-clause-err
returns-in_err-push-clause-err c =
    let b = c.into_iter-flat-iterator.ensures.into_iter_gives in
    let items = c.into_vec-flat-items.result in
    let n = length c.loop-flat.yielded in
    let e = YieldsList-so_far (YieldsList-from_vec {s = c.into_iter-flat-iterator.result} items.items b.0 (b.1 ∙ items.ok.0)) c.loop-flat.yielded _
    c.loop-flat.yielded_by in
    let f : c.loop-flat.yielded ≡ take n c.args.pack = sym (map-id c.loop-flat.yielded) ∙ e ∙ ap (take n) c.into_vec-flat-items.ensures in
    on_err c.from_residual-in_err-push.result
    (flats_part c.args.place n c.loop-flat.yielded c.args.pack c.args.owed.now c.loop-flat.owed c.args.out.now c.loop-flat.out c.push.new.self
    c.loop-flat.invariant f
    c.in_err-push.ensures.err)
