use Rattle.std.proofs.Common.{rules, length, map, sym, subst, to_z, of_z, w64}
use Rattle.work_code.specs.Calcs.{calc_term, further_of}
use Rattle.work_code.proofs.Calcs.{SoFar, leaf_within, so_far_start}
use Rattle.work_code.proofs.calc.+value.Goals as goal

pub value_of-leaf_value-value-requires : goal.value_of-leaf_value-value-requires
value_of-leaf_value-value-requires t c = leaf_within (length c.args.input.now) (length c.args.slots.now) c.args.c.now c.requires

pub value_of-loop-step-init : goal.value_of-loop-step-init
value_of-loop-step-init t c =
    let input = c.args.input.now in let slots = c.args.slots.now in let v = to_z w64 (of_z w64 c.leaf_value-value.result) in
    subst (λ l. SoFar input slots (calc_term c.args.c.now) (map further_of l) v) (sym c.as_slice-step-items.ensures.value)
    (so_far_start input slots c.args.c.now v (search rules) c.requires)
