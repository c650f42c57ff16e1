use Rattle.std.proofs.Common.{refl}
use Rattle.work_code.proofs.Calcs.{calc-more}
use Rattle.work_code.proofs.calc.with_step.Goals as goal

pub returns : goal.returns
returns c = calc-more c.args.c _ c.args.step refl c.in_ok-push.ensures.items
