use Rattle.std.proofs.Common.{◌≡◌, Some, arith}
use Rattle.std.specs.Prelude.{slice_get}
use Rattle.std.proofs.lemmas.Option.{slice_get_within}
use Rattle.river_base.specs.declared.item.Item as item
use Rattle.brooklet_model.specs.Fit.{instant_of}
use Rattle.brooklet_run.proofs.FitLemmas.{never, always, not_so, until, same_here, not_same, same_by}
use Rattle.brooklet_run.proofs.inputs.have_same_instants.Goals as goal

pub returns-then-not-is_same_instant : goal.returns-then-not-is_same_instant
returns-then-not-is_same_instant c =
    never (not_same c.args.a.now c.args.b.now c.loop-place.place c.at.result.now c.at-in-loop-place.result.now (omega arith) (omega arith)
    (c.at.ensures c.at.result.now) (c.at-in-loop-place.ensures c.at-in-loop-place.result.now)
    (not_so c.is_same_instant.result c.if-not-is_same_instant.true c.is_same_instant.ensures))

pub loop-place-preserved : goal.loop-place-preserved
loop-place-preserved c =
    until (λ i. (x y : item.Item) → slice_get c.args.a.now i ≡ Some x → slice_get c.args.b.now i ≡ Some y
    → instant_of x ≡ instant_of y) c.loop-place.place c.loop-place.invariant
    (same_here c.args.a.now c.args.b.now c.loop-place.place c.at.result.now c.at-in-loop-place.result.now (omega arith) (omega arith)
    (c.at.ensures c.at.result.now) (c.at-in-loop-place.ensures c.at-in-loop-place.result.now) (c.is_same_instant.ensures.0 c.if-not-is_same_instant.false))

pub returns : goal.returns
returns c =
    always (same_by c.args.a.now c.args.b.now (omega arith)
    (λ i x y g h. c.loop-place.invariant i (let w = slice_get_within c.args.a.now i x g in omega (arith, w)) x y g h))
