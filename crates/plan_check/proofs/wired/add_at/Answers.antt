use Rattle.std.proofs.Common.{sym, ◌∷◌, [], ◌∙◌, arith}
use Rattle.river_base.proofs.PlaceLemmas.{each_grew-only}
use Rattle.river_plan.proofs.UserLemmas.{nothing-beyond}
use Rattle.plan_check.proofs.wired.add_at.Goals as goal

pub returns-in_ok-push_at : goal.returns-in_ok-push_at
returns-in_ok-push_at c = c.in_ok-push_at.ensures.ok ∙ sym (each_grew-only c.args.all.now c.args.place (c.args.number ∷ []))

pub returns-else-place-len : goal.returns-else-place-len
returns-else-place-len c = sym (nothing-beyond c.args.all.now c.args.place (c.args.number ∷ []) (omega arith))
