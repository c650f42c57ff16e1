use Rattle.brooklet_step.proofs.kinds.is_normal.Goals as goal

pub returns-then-both_ascend : goal.returns-then-both_ascend
returns-then-both_ascend c =
    let a = c.both_ascend.ensures.0 c.if-both_ascend.true in (
      (λ t. record { plus = a.0; minus = a.1; apart = c.are_apart.ensures.0 t }),
      (λ n. c.are_apart.ensures.1 n.apart),
    )
