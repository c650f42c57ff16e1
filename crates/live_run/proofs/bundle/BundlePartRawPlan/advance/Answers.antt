use Rattle.std.proofs.Common.{true≢false, ◌≡◌, ◌∙◌, false, sym, subst}
use Rattle.std.specs.Prelude.{Ok}
use Rattle.river_plan.specs.Forms.{plan_form}
use Rattle.fire_tasks.specs.declared.bundle.Bundle.{Bundle}
use Rattle.fire_tasks.specs.Bundles.{IsBundle}
use Rattle.live_run.specs.Passes.{HasPassed}
use Rattle.live_run.proofs.PassLemmas.{passed_by, passed_looks}
use Rattle.live_run.proofs.bundle.BundlePartRawPlan.advance.Goals as goal

pub pass-requires-clause-bundle : goal.pass-requires-clause-bundle
pass-requires-clause-bundle g c =
    subst (IsBundle (plan_form c.args.plan.now)) (sym c.set_looks.ensures)
    (record { rests = c.requires.bundle.rests; keeps = c.requires.bundle.keeps })

pub pass-requires-clause-calm : goal.pass-requires-clause-calm
pass-requires-clause-calm g c = subst (λ (b : Bundle). b.refused ≡ false) (sym c.set_looks.ensures) c.requires.calm

pub returns-clause-goes : goal.returns-clause-goes
returns-clause-goes g c =
    let raw = c.args.plan.now in
    let u = c.set_looks.new.self in
    let w = c.pass.new.self in
    let calm = subst (λ (b : Bundle). b.refused ≡ false) (sym c.set_looks.ensures) c.requires.calm in
    passed_looks raw c.args.self.now w _ (subst (λ (b : Bundle). HasPassed raw b w) c.set_looks.ensures
    (passed_by raw u w (Ok c.in_ok-moved.moved) calm c.pass.ensures.bundle c.pass.ensures.seat c.in_ok-moved.ensures.gone tt))

pub returns-in_err-moved-clause-goes : goal.returns-in_err-moved-clause-goes
returns-in_err-moved-clause-goes g c =
    let raw = c.args.plan.now in
    let w = c.pass.new.self in
    let e = c.pass.ensures in
    let h : HasPassed raw c.set_looks.new.self w = record {
      bundle = e.bundle;
      lot = e.seat.lot;
      round = e.seat.round;
      went = λ calm. absurd (true≢false (sym c.in_err-moved.ensures.refused ∙ calm));
    } in
    passed_looks raw c.args.self.now w _ (subst (λ (b : Bundle). HasPassed raw b w) c.set_looks.ensures h)
