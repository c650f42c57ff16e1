use Rattle.std.proofs.Common.{◌≡◌, Some, arith, []}
use Rattle.std.specs.Prelude.{All, slice_get}
use Rattle.std.proofs.lemmas.Option.{slice_get_within}
use Rattle.brooklet_step.proofs.StartLemmas.{inputs_many}
use Rattle.river_base.specs.Held.{HasType}
use Rattle.river_base.specs.Places.{list_at}
use Rattle.river_plan.specs.declared.plan.Decl.{Decl}
use Rattle.brooklet_run.proofs.FitLemmas.{never, always, not_so, until, typed_here, not_typed, inputs_by}
use Rattle.brooklet_run.proofs.inputs.are_typed.Goals as goal

pub returns-then-len : goal.returns-then-len
returns-then-len c = never (λ a. let e = inputs_many c.args.decls.now c.args.inputs.now a in let t = c.if-len.true in omega (arith, e, t))

pub returns-then-not-all_fit : goal.returns-then-not-all_fit
returns-then-not-all_fit c =
    never (not_typed c.args.decls.now c.args.inputs.now c.loop-place.place c.at.result.now c.at-in-loop-place.result.now (omega arith)
    (c.at.ensures c.at.result.now) (c.at-in-loop-place.ensures []) (not_so c.all_fit.result c.if-not-all_fit.true c.all_fit.ensures))

pub loop-place-preserved : goal.loop-place-preserved
loop-place-preserved c =
    until (λ i. (d : Decl) → slice_get c.args.decls.now i ≡ Some d
    → All (HasType d.kind) (list_at c.args.inputs.now i)) c.loop-place.place c.loop-place.invariant
    (typed_here c.args.decls.now c.args.inputs.now c.loop-place.place c.at.result.now c.at-in-loop-place.result.now (omega arith)
    (c.at.ensures c.at.result.now) (c.at-in-loop-place.ensures []) (c.all_fit.ensures.0 c.if-not-all_fit.false))

pub returns : goal.returns
returns c =
    always (inputs_by c.args.decls.now c.args.inputs.now (omega arith)
    (λ i d g. c.loop-place.invariant i (let w = slice_get_within c.args.decls.now i d g in omega (arith, w)) d g))
