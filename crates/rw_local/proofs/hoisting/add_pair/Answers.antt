use Rattle.std.proofs.lemmas.Result.{on_ok_weaker}
use Rattle.work_code.specs.Term.{term}
use Rattle.river_plan.specs.Forms.{op_form}
use Rattle.rw_local.specs.Hoist.{raised, lowered}
use Rattle.rw_local.proofs.HoistCode.{two_pushed}
use Rattle.rw_local.proofs.hoisting.add_pair.Goals as goal

pub returns : goal.returns
returns c =
    let x = c.args.pair.now in
    on_ok_weaker c.push-2.result
    (λ e. two_pushed c.args.all.now c.push.new.self c.push-2.new.self c.in_ok-raised.field-0 c.in_ok-lowered.field-0
    (raised (op_form x.above.now) (term x.cond.now) x.src x.mid) (lowered (op_form x.below.now) x.side x.mid x.out)
    c.in_ok-push.ensures.ok c.in_ok-raised.ensures e c.in_ok-lowered.ensures)
    c.push-2.ensures.ok
