use Rattle.std.proofs.Common.{arith}
use Rattle.std.proofs.lemmas.Result.{IfOk-weaker}
use Rattle.brooklet_step.proofs.NextLemmas.{blank_found}
use Rattle.brooklet_step.proofs.ReadLemmas.{ops_many}
use Rattle.brooklet_run.proofs.turn.blank_of.Goals as goal

pub at-requires : goal.at-requires
at-requires c = let m = ops_many c.raw.result.now c.args.plan.now c.raw.ensures.raw in let r = c.requires in omega (arith, m, r)

pub returns : goal.returns
returns c =
    IfOk-weaker c.blank_for.result _ _
    (λ e b. blank_found c.raw.result.now c.args.plan.now c.args.op c.at.result.now e c.raw.ensures.raw c.requires (c.at.ensures c.at.result.now) b)
    c.blank_for.ensures
