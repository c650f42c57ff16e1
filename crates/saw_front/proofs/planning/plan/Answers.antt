use Rattle.saw_text.specs.Tree.{unit_forms}
use Rattle.saw_front.proofs.Planned.{lists-valid, lists-plan}
use Rattle.saw_front.proofs.planning.plan.Goals as goal

-- the lists are those of a plan that is valid
pub plan_of-requires : goal.plan_of-requires
plan_of-requires c = lists-valid (unit_forms c.args.units.now) c.in_ok-raw.raw c.requires.shallow c.in_ok-raw.ensures

-- and the plan is theirs
pub returns : goal.returns
returns c = lists-plan (unit_forms c.args.units.now) c.in_ok-raw.raw c.in_ok-plan.plan c.in_ok-raw.ensures c.in_ok-plan.ensures
