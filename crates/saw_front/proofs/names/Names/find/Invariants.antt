use Rattle.std.proofs.Common.{◌≡◌, ◌≤◌, length, take}
use Rattle.saw_model.specs.Elaborate.{find}
use Rattle.saw_front.specs.View.{scope_of}
use Rattle.saw_front.proofs.names.Names.find.Given as goal

abbrev pub invariant-loop-i : goal.invariant-loop-i
invariant-loop-i l = record {
  within : l.i ≤ length l.self.items.items;
  same : find (scope_of (take l.i l.self.items.items)) l.name ≡ find (scope_of l.self.items.items) l.name;
}

abbrev pub decreases-loop-i : goal.decreases-loop-i
decreases-loop-i l = l.i
