use Rattle.std.proofs.Common.{arith, ◌≡◌, ◌≤◌, ◌-◌, length, drop}
use Rattle.std.proofs.lemmas.List.{take_rest, length-drop}
use Rattle.csv_cuts.proofs.Sizes.{part-within, rest-within}
use Rattle.csv_cuts.proofs.pieces.rest_end.Goals as goal

pub returns-then-end-clause-size : goal.returns-then-end-clause-size
returns-then-end-clause-size c =
    let m = c.min-most.ensures in
    let most : c.min-most.result ≤ c.args.size.bytes = omega (arith, m) in
    let within : c.min-most.result ≤ length c.args.bytes.now - c.args.from = omega (arith, m) in
    λ l w. part-within c.args.bytes.now c.args.from c.args.size.records c.min-most.result c.args.size.bytes c.piece_end-end.result.place most within
    (rw (take_rest c.args.bytes.now c.args.from) at c.piece_end-end.ensures.end) l

pub returns-then-rest-size-clause-size : goal.returns-then-rest-size-clause-size
returns-then-rest-size-clause-size c =
    let m = c.min-most.ensures in
    let most : c.min-most.result ≤ c.args.size.bytes = omega (arith, m) in
    let within : c.min-most.result ≤ length c.args.bytes.now - c.args.from = omega (arith, m) in
    λ l w. part-within c.args.bytes.now c.args.from c.args.size.records c.min-most.result c.args.size.bytes c.piece_end-end.result.place most within
    (rw (take_rest c.args.bytes.now c.args.from) at c.piece_end-end.ensures.end) l

pub returns-else-rest-size-clause-whole : goal.returns-else-rest-size-clause-whole
returns-else-rest-size-clause-whole c =
    let m = c.min-most.ensures in
    let n = length-drop c.args.from c.args.bytes.now in
    let s = c.if-rest-size.false in
    let long : length (drop c.args.from c.args.bytes.now) ≤ c.args.size.bytes = omega (arith, n, s) in
    let most : c.min-most.result ≡ length (drop c.args.from c.args.bytes.now) = omega (arith, m, n, long) in
    λ e. rest-within (drop c.args.from c.args.bytes.now) c.args.size.records c.min-most.result c.args.size.bytes c.piece_end-end.result.place long most
    (rw (take_rest c.args.bytes.now c.args.from) at (c.piece_end-end.ensures.few c.if-end.false))
    (rw (take_rest c.args.bytes.now c.args.from) at c.piece_end-end.ensures.none)
