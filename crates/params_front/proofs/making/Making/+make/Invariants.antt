use Rattle.std.proofs.Common.{◌≡◌, ◌+◌, ◌*◌, ◌-◌, suc, drop, map, length}
use Rattle.streamit_model.specs.Meaning.{numbers_from}
use Rattle.params_text.specs.Program.{steps_in_turn, step_of, steps_of}
use Rattle.params_text.specs.declared.program.Step.{size-Step}
use Rattle.params_text.specs.declared.program.Steps.{size-Steps}
use Rattle.params_model.specs.Constants.{HaveFitConstants}
use Rattle.params_model.specs.Making.{Made, steps_made, turns_made}
use Rattle.params_front.specs.Standing.{Stands, adding, turn_steps}
use Rattle.params_front.proofs.Growing.{SoFar}
use Rattle.params_front.specs.Valued.{AreValued}
use Rattle.params_front.proofs.Sources.{room, body_size}
use Rattle.params_front.proofs.making.Making.+make.Given as goal

abbrev pub decreases-instance : goal.decreases-instance
decreases-instance l = room l.seen.units.now

abbrev pub decreases-make : goal.decreases-make
decreases-make l = room l.seen.units.now + (body_size l.unit.now.body * 8 + 15)

abbrev pub decreases-body : goal.decreases-body
decreases-body l = room l.seen.units.now + (body_size l.body.now * 8 + 14)

abbrev pub decreases-pipeline : goal.decreases-pipeline
decreases-pipeline l = room l.seen.units.now + (size-Steps l.steps.now * 8 + 13)

abbrev pub decreases-split_join : goal.decreases-split_join
decreases-split_join l = room l.seen.units.now + (size-Steps l.all.now.steps * 8 + 13)

abbrev pub decreases-children : goal.decreases-children
decreases-children l = room l.seen.units.now + (size-Steps l.steps.now * 8 + 12)

abbrev pub decreases-some_children : goal.decreases-some_children
decreases-some_children l = room l.seen.units.now + (size-Steps l.steps.now * 8 + 8)

abbrev pub decreases-steps : goal.decreases-steps
decreases-steps l = room l.seen.units.now + (size-Steps l.steps.now * 8 + 4)

abbrev pub decreases-step : goal.decreases-step
decreases-step l = room l.seen.units.now + (size-Step l.step.now * 8 + 3)

abbrev pub decreases-add : goal.decreases-add
decreases-add l = room l.seen.units.now + 1

abbrev pub decreases-enter : goal.decreases-enter
decreases-enter l = room l.seen.units.now + (size-Steps l.steps.now * 8 + 7)

abbrev pub decreases-turns : goal.decreases-turns
decreases-turns l = room l.seen.units.now + (size-Steps l.steps.now * 8 + 6)

abbrev pub decreases-turn : goal.decreases-turn
decreases-turn l = room l.seen.units.now + (size-Steps l.steps.now * 8 + 5)

abbrev pub invariant-steps-items : goal.invariant-steps-items
invariant-steps-items l = record {
  far :
      (m : Made) → Stands l.initial.self m
      → SoFar (steps_made (adding l.seen.units.now l.seen.sizes.now l.seen.depth) (suc (length l.seen.units.now)) l.initial.scope.known
      (steps_in_turn (map step_of l.each-items)) m)
      (steps_made (adding l.seen.units.now l.seen.sizes.now l.seen.depth) (suc (length l.seen.units.now)) l.initial.scope.known
      (steps_in_turn (map step_of (drop l.each-index l.each-items))))
      l.initial.scope l.scope l.self;
  fit : HaveFitConstants (steps_in_turn (map step_of (drop l.each-index l.each-items)));
  place : l.place ≡ l.each-index;
  same : l.scope.known ≡ l.initial.scope.known;
  valued : AreValued l.initial.scope.known (steps_in_turn (map step_of (drop l.each-index l.each-items))) (drop l.place l.bounds);
}

abbrev pub invariant-turns-range : goal.invariant-turns-range
invariant-turns-range l = record {
  same : l.scope.known ≡ l.initial.scope.known;
  far :
      (m : Made) → Stands l.initial.self m
      → SoFar (turns_made (suc (length l.seen.units.now))
      (turn_steps (adding l.seen.units.now l.seen.sizes.now l.seen.depth) (suc (length l.seen.units.now)) l.initial.scope.known l.fn.turns.name
      (steps_of l.steps)) (numbers_from l.fn.turns.span.low (l.fn.turns.span.end - l.fn.turns.span.low)) m)
      (turns_made (suc (length l.seen.units.now))
      (turn_steps (adding l.seen.units.now l.seen.sizes.now l.seen.depth) (suc (length l.seen.units.now)) l.initial.scope.known l.fn.turns.name
      (steps_of l.steps)) (numbers_from l.each (l.fn.turns.span.end - l.each)))
      l.initial.scope l.scope l.self;
}
