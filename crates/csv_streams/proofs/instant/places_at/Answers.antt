use Rattle.std.proofs.Common.{◌≡◌, ℤ, w64, to_z, of_z, sym, subst}
use Rattle.std.proofs.lemmas.Int.{to_z-of_z}
use Rattle.csv_streams.specs.SpreadOut.{IsFirstItem, IsEnd}
use Rattle.csv_streams.proofs.Spreading.{rows_between}
use Rattle.csv_streams.proofs.instant.places_at.Goals as goal

pub returns-clause-rows : goal.returns-clause-rows
returns-clause-rows c =
    let rows = c.args.rows.now in
    let n = c.first_at-first.result in
    let m = c.end_at.result in
    let at : to_z w64 (of_z w64 c.args.at) ≡ c.args.at = to_z-of_z w64 c.args.at c.ranges.at in
    let first : IsFirstItem rows c.args.at n = subst (λ (t : ℤ). IsFirstItem rows t n) at c.first_at-first.ensures.first in
    let end : IsEnd rows c.args.at m = subst (λ (t : ℤ). IsEnd rows t m) at c.end_at.ensures.end in
    sym (rows_between rows c.args.at n m c.end_at.ensures.order c.end_at.ensures.within first end)
