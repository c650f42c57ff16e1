use Rattle.plan_classes.proofs.Numbers.{numbers_are_classes}
use Rattle.plan_classes.proofs.laws.numbers_are_classes.Goals as goal

pub returns : goal.returns
returns c = numbers_are_classes
