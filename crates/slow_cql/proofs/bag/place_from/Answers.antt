use Rattle.std.proofs.Common.{◌≡◌, true, false, sym, ap, ◌∙◌, arith}
use Rattle.std.specs.Ordering.{is_lt}
use Rattle.river_base.specs.Row.{row_lt}
use Rattle.kern_changes.proofs.Merged.{place_next, place_found}
use Rattle.slow_cql.proofs.bag.place_from.Goals as goal

pub loop-place-preserved : goal.loop-place-preserved
loop-place-preserved c =
    let y = c.at.result.now in
    let l : row_lt y c.args.row.now ≡ true = ap is_lt (sym c.compare.ensures) ∙ sym c.is_lt.ensures ∙ c.if-is_lt.true in
    record {
      within = omega arith;
      rest = place_next c.args.row.now y c.args.rows.now c.loop-place.place (omega arith) (c.at.ensures y) l ∙ c.loop-place.invariant.rest;
    }

pub returns-else-is_lt-clause-rest : goal.returns-else-is_lt-clause-rest
returns-else-is_lt-clause-rest c =
    let y = c.at.result.now in
    let l : row_lt y c.args.row.now ≡ false = ap is_lt (sym c.compare.ensures) ∙ sym c.is_lt.ensures ∙ c.if-is_lt.false in
    place_found c.args.row.now y c.args.rows.now c.loop-place.place (omega arith) (c.at.ensures y) l ∙ c.loop-place.invariant.rest
