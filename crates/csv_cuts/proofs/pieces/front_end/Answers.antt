use Rattle.std.proofs.Common.{arith, ◌≤◌, ◌-◌, length}
use Rattle.std.proofs.lemmas.List.{take_rest}
use Rattle.csv_cuts.proofs.Sizes.{part-within}
use Rattle.csv_cuts.proofs.pieces.front_end.Goals as goal

pub returns-then-end-clause-size : goal.returns-then-end-clause-size
returns-then-end-clause-size c =
    let m = c.min-most.ensures in
    let s = c.saturating_sub.ensures in
    let most : c.min-most.result ≤ c.args.size.bytes = omega (arith, m) in
    let within : c.min-most.result ≤ length c.args.window.now - c.args.from = omega (arith, m, s) in
    part-within c.args.window.now c.args.from c.args.size.records c.min-most.result c.args.size.bytes c.piece_end-end.result.place most within
    (rw (take_rest c.args.window.now c.args.from) at c.piece_end-end.ensures.end)
