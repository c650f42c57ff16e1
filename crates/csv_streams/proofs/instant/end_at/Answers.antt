use Rattle.std.proofs.Common.{◌≡◌, ℤ, true, false, get_or, int_le, w64, to_z, of_z, subst, arith}
use Rattle.std.proofs.lemmas.Int.{ints, to_z-of_z}
use Rattle.csv_streams.specs.Timed.{Entry}
use Rattle.csv_streams.proofs.Spreading.{up_to_in_front, ends_there, read_there}
use Rattle.csv_streams.proofs.instant.end_at.Goals as goal

pub returns-else-rows-end-clause-end : goal.returns-else-rows-end-clause-end
returns-else-rows-end-clause-end c =
    let rows = c.args.rows.now in
    let n = c.loop-end.end in
    let p = λ (e : Entry). int_le e.0 c.args.at in
    let at : to_z w64 (of_z w64 c.args.at) ≡ c.args.at = to_z-of_z w64 c.args.at c.ranges.at in
    ends_there p rows n (up_to_in_front rows c.args.at c.requires.sorted)
    (λ k d lt. subst (λ (t : ℤ). int_le (get_or rows k d).0 t ≡ true) at (c.loop-end.invariant.passed k d lt))
    (λ d lt. read_there p false rows n c.index-rows-end.result d lt c.index-rows-end.is (grind (arith, ints)))
