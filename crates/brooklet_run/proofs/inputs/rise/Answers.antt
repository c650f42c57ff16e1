use Rattle.std.proofs.Common.{suc, ◌-◌, arith}
use Rattle.std.proofs.lemmas.Option.{slice_get_within}
use Rattle.brooklet_run.proofs.FitLemmas.{never, always, not_so, later_next, not_later, rises_by}
use Rattle.brooklet_run.proofs.inputs.rise.Goals as goal

pub returns-then-not-is_earlier : goal.returns-then-not-is_earlier
returns-then-not-is_earlier c =
    never (not_later c.args.items.now (c.loop-place.place - 1) c.loop-place.place c.at.result.now c.at-in-loop-place.result.now (omega arith)
    (c.at.ensures c.at.result.now) (c.at-in-loop-place.ensures c.at-in-loop-place.result.now) (omega arith)
    (not_so c.is_earlier.result c.if-not-is_earlier.true c.is_earlier.ensures))

pub loop-place-preserved : goal.loop-place-preserved
loop-place-preserved c =
    later_next c.args.items.now (c.loop-place.place - 1) c.loop-place.place c.at.result.now c.at-in-loop-place.result.now (omega arith)
    (c.at.ensures c.at.result.now) (c.at-in-loop-place.ensures c.at-in-loop-place.result.now) (omega arith)
    (c.is_earlier.ensures.0 c.if-not-is_earlier.false) c.loop-place.invariant

pub returns : goal.returns
returns c =
    always (rises_by c.args.items.now
    (λ i x y g h. c.loop-place.invariant i (let w = slice_get_within c.args.items.now (suc i) y h in omega (arith, w)) x y g h))
