use Rattle.std.proofs.Common.{inl, inr, refl}
use Rattle.fire_run.specs.declared.running.Round.TheVariants.{Moved, Still}
use Rattle.fire_run.proofs.RunLemmas.{goes_move}
use Rattle.fire_run.proofs.running.move_once.Goals as goal

pub returns-then-branch-clause-goes : goal.returns-then-branch-clause-goes
returns-then-branch-clause-goes g c =
    let e = c.in_ok-one.ensures in
    goes_move c.args.plan.now c.args.net c.one.new.self c.in_ok-one.field-0 Moved e.stays e.same e.goes e.moved (λ q. c.if-branch.true)
    (λ q. absurd (q refl))

pub returns-then-branch-clause-once : goal.returns-then-branch-clause-once
returns-then-branch-clause-once g c = inl (c.in_ok-one.ensures.step c.if-branch.true)

pub returns-else-branch-clause-goes : goal.returns-else-branch-clause-goes
returns-else-branch-clause-goes g c =
    let e = c.in_ok-one.ensures in
    goes_move c.args.plan.now c.args.net c.one.new.self c.in_ok-one.field-0 Still e.stays e.same e.goes e.moved (λ q. absurd (cc q))
    (λ q. c.if-branch.false)

pub returns-else-branch-clause-once : goal.returns-else-branch-clause-once
returns-else-branch-clause-once g c = inr (c.in_ok-one.ensures.still c.if-branch.false)
