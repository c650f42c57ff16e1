use Rattle.std.proofs.Common.{◌≡◌, Some, arith, []}
use Rattle.std.specs.Prelude.{slice_get}
use Rattle.std.proofs.lemmas.Option.{slice_get_within}
use Rattle.river_base.specs.Places.{list_at}
use Rattle.river_plan.specs.declared.plan.Decl.{Decl}
use Rattle.brooklet_model.specs.Fit.{HasInstants, instants_in}
use Rattle.brooklet_run.proofs.FitLemmas.{never, always, not_so, until, follows_here, not_follows, instants_by}
use Rattle.brooklet_run.proofs.inputs.all_follow.Goals as goal

pub returns-then-not-follow : goal.returns-then-not-follow
returns-then-not-follow c =
    never (not_follows c.args.decls.now
    (instants_in c.args.first.now) c.args.inputs.now c.loop-place.place c.at.result.now c.at-in-loop-place.result.now c.requires (omega arith)
    (c.at.ensures c.at.result.now) (c.at-in-loop-place.ensures []) (not_so c.follow.result c.if-not-follow.true c.follow.ensures))

pub loop-place-preserved : goal.loop-place-preserved
loop-place-preserved c =
    until (λ i. (d : Decl) → slice_get c.args.decls.now i ≡ Some d
    → HasInstants d.kind (instants_in c.args.first.now) (list_at c.args.inputs.now i)) c.loop-place.place c.loop-place.invariant
    (follows_here c.args.decls.now (instants_in c.args.first.now) c.args.inputs.now c.loop-place.place c.at.result.now c.at-in-loop-place.result.now
    (omega arith) (c.at.ensures c.at.result.now) (c.at-in-loop-place.ensures []) (c.follow.ensures.0 c.if-not-follow.false))

pub returns : goal.returns
returns c =
    always (instants_by c.args.decls.now (instants_in c.args.first.now) c.args.inputs.now
    (λ i d g. c.loop-place.invariant i (let w = slice_get_within c.args.decls.now i d g in omega (arith, w)) d g))
