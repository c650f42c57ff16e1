use Rattle.std.proofs.Common.{◌+◌, drop, rules, sym, ap, ◌∙◌}
use Rattle.std.specs.Prelude.{max}
use Rattle.saw_model.specs.Meaning.{reach_parts}
use Rattle.saw_text.specs.Tree.{unit_form, unit_forms}
use Rattle.saw_front.specs.Reach.{reach_unit}
use Rattle.saw_front.proofs.Reaching.{reach-parts, so_far_next, so_far_end}
use Rattle.saw_front.proofs.JudgedUnits.{parts_at, parts_none}
use Rattle.saw_front.proofs.reach.reach_units.Goals as goal

pub loop-unit-preserved : goal.loop-unit-preserved
loop-unit-preserved c =
    let us = c.args.units.now in
    let i = c.loop-unit.unit-index in
    let u = c.unit-item.result in
    let rest = unit_forms (drop (i + 1) us) in
    so_far_next c.loop-unit.most (reach_unit (unit_form u)) (reach_parts rest) (reach_parts (unit_forms us)) c.greater-most.result
    (ap (max c.loop-unit.most) (sym (ap reach_parts (parts_at us i u (search rules) c.unit-item.is) ∙ reach-parts (unit_form u) rest)) ∙ c.loop-unit.invariant)
    (c.greater-most.ensures ∙ ap (max c.loop-unit.most) c.reach_unit.ensures)

pub returns : goal.returns
returns c =
    let us = c.args.units.now in
    so_far_end c.loop-unit.most (reach_parts (unit_forms us))
    (ap (λ p. max c.loop-unit.most (reach_parts p)) (sym (parts_none us c.loop-unit.unit-index (search rules))) ∙ c.loop-unit.invariant)
