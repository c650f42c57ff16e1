use Rattle.std.proofs.Common.{arith, ap, sym, ◌∙◌}
use Rattle.std.specs.Prelude.{Some}
use Rattle.std.proofs.lemmas.Result.{IfOk-weaker}
use Rattle.river_base.specs.WideRows.{rows_type}
use Rattle.fire_open.proofs.rings.ring_for.Goals as goal

pub returns-in-Some-clause-fits : goal.returns-in-Some-clause-fits
returns-in-Some-clause-fits c =
    IfOk-weaker c.row_ring.result _ _ (λ r e some. c.in-Some.ensures.kind ∙ ap (λ n. Some (rows_type n)) (sym e)) c.row_ring.ensures.width

pub returns-in-None-clause-fits : goal.returns-in-None-clause-fits
returns-in-None-clause-fits c = IfOk-weaker c.item_ring.result _ _ (λ r e some. absurd (omega (arith, e, some))) c.item_ring.ensures.width
