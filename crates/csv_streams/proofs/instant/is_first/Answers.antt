use Rattle.std.proofs.Common.{◌-◌, true, false, int_lt, arith}
use Rattle.std.proofs.lemmas.Int.{ints}
use Rattle.csv_streams.specs.Timed.{Entry}
use Rattle.csv_streams.proofs.Spreading.{below_in_front, turns_there, read_there}
use Rattle.csv_streams.proofs.instant.is_first.Goals.{else-place-gt0-via-then-place-gt0+else-rows-place, else-place-gt0-via-else-place-gt0}
use Rattle.csv_streams.proofs.instant.is_first.Goals as goal

pub returns-then-place-rows : goal.returns-then-place-rows
returns-then-place-rows c =
    let rows = c.args.rows.now in
    let n = c.args.place in
    let p = λ (e : Entry). int_lt e.0 c.args.at in
    let parted = below_in_front rows c.args.at c.requires.sorted in
    elim c.else-place-gt0.branch [
      | else-place-gt0-via-then-place-gt0+else-rows-place w ↦
          λ end. turns_there p rows n c.requires.place parted
          (λ d lt. read_there p true rows (n - 1) w.index-rows-place.result d (omega arith) w.index-rows-place.is (grind (arith, ints)))
          (λ d lt. absurd (omega arith))
      | else-place-gt0-via-else-place-gt0 w ↦
          λ end. turns_there p rows n c.requires.place parted (λ d lt. absurd (omega arith)) (λ d lt. absurd (omega arith))
    ]

pub returns-else-place-rows : goal.returns-else-place-rows
returns-else-place-rows c =
    let rows = c.args.rows.now in
    let n = c.args.place in
    let p = λ (e : Entry). int_lt e.0 c.args.at in
    let parted = below_in_front rows c.args.at c.requires.sorted in
    let here = c.index-rows-place-else-place-rows in
    elim c.else-place-gt0.branch [
      | else-place-gt0-via-then-place-gt0+else-rows-place w ↦
          λ above. turns_there p rows n c.requires.place parted
          (λ d lt. read_there p true rows (n - 1) w.index-rows-place.result d (omega arith) w.index-rows-place.is (grind (arith, ints)))
          (λ d lt. read_there p false rows n here.result d lt here.is (grind (arith, ints, above)))
      | else-place-gt0-via-else-place-gt0 w ↦
          λ above. turns_there p rows n c.requires.place parted (λ d lt. absurd (omega arith))
          (λ d lt. read_there p false rows n here.result d lt here.is (grind (arith, ints, above)))
    ]
