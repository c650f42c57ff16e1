use Rattle.std.proofs.Common.{[], ◌∷◌, sym, subst}
use Rattle.std.proofs.lemmas.Result.{on_ok_weaker}
use Rattle.kern_bags.specs.Following.{WindowSteps, GaveChange}
use Rattle.river_kernels.specs.Kern.{window}
use Rattle.brooklet_step.specs.declared.state.State.TheVariants as state
use Rattle.brooklet_step.specs.Given.{FiresAt}
use Rattle.brooklet_step.proofs.BagLeaves.{window_item, window_kept, window_room}
use Rattle.brooklet_step.proofs.WindowFires.{window_step_does}
use Rattle.brooklet_step.proofs.bag.fire_window.Goals as goal

pub batch_of-requires : goal.batch_of-requires
batch_of-requires c = window_item c.args.window.now c.args.item c.args.state.now c.args.out.now c.requires

pub step-requires : goal.step-requires
step-requires c = window_kept c.args.window.now c.args.item c.args.state.now c.args.out.now c.requires c.in-Window.rows c.in-Window.is

pub give_all-requires : goal.give_all-requires
give_all-requires c = window_room c.args.window.now c.args.item c.args.state.now c.args.out.now c.requires

pub returns : goal.returns
returns c =
    let v = c.args.window.now in
    let b = c.batch_of.result in
    let old = c.in-Window.rows in
    let new = c.step.new.state in
    let items = c.step.new.out in
    let out = c.args.out.now in
    let out' = c.give_all.new.self in
    let one = subst (λ l. GaveChange (WindowSteps v b old new) l items) c.take_items-items.ensures c.in_ok-step-in-Window.ensures.ok in
    on_ok_weaker c.give_all.result (λ took.
    subst (λ s. FiresAt (window v) 0 c.args.item out out' (s ∷ []) (state.Window new ∷ [])) (sym c.in-Window.is)
    (subst (λ i. FiresAt (window v) 0 i out out' (state.Window old ∷ []) (state.Window new ∷ [])) c.batch_of.ensures
    (window_step_does v b items old new out out' one took))
    ) c.give_all.ensures
