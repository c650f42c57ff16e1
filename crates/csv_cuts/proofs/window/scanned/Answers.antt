use Rattle.std.proofs.Common.{arith, sym, ◌∙◌, ◌≡◌, ◌≤◌, ◌<◌, ◌+◌, ℕ, length, refl, subst}
use Rattle.std.proofs.lemmas.List.{take_rest}
use Rattle.csv_cuts.specs.Cut.{csv_state, mark_length}
use Rattle.csv_cuts.specs.Window.{at_last}
use Rattle.csv_cuts.proofs.Scan.{Stands, scan-many, scan-count, not-many, scan-first, scan-next, scan-full, count_on-le}
use Rattle.csv_cuts.proofs.window.scanned.Goals as goal

pub loop-place-init : goal.loop-place-init
loop-place-init c = record {
  so = scan-first c.args.bytes.now c.args.records c.args.front c.requires.front;
  few = omega arith;
}

pub returns-then-count-records-clause-end : goal.returns-then-count-records-clause-end
returns-then-count-records-clause-end c =
    let front = c.requires.front in
    let behind : mark_length c.args.bytes.now ≤ c.loop-place.place = omega (arith, front) in
    let within : c.loop-place.place < length c.args.bytes.now = omega arith in
    λ l. scan-full c.args.bytes.now c.args.records c.args.most c.loop-place.place 0 (csv_state c.loop-place.stand) c.loop-place.count c.loop-place.last _ behind within
    refl c.loop-place.invariant.so (sym c.ends-ended.ensures ∙ c.if-ended.true) l c.if-count-records.true c.loop-place-test.true

pub loop-place-preserved : goal.loop-place-preserved
loop-place-preserved c =
    let front = c.requires.front in
    let behind : mark_length c.args.bytes.now ≤ c.loop-place.place = omega (arith, front) in
    let within : c.loop-place.place < length c.args.bytes.now = omega arith in
    record {
      so = rw (c.better-last.ensures, c.is_end-here.ensures, take_rest c.args.bytes.now (c.loop-place.place + 1), c.after-stand.ensures, c.count_on-count.ensures, c.ends-ended.ensures)
          (scan-next c.args.bytes.now c.args.records c.loop-place.place 0 (csv_state c.loop-place.stand) c.loop-place.count c.loop-place.last _ behind within
          refl c.loop-place.invariant.so);
      few = rw c.count_on-count.ensures (count_on-le c.ends-ended.result c.loop-place.count c.loop-place.place c.loop-place.invariant.few);
    }

pub returns-then-count-records-clause-full : goal.returns-then-count-records-clause-full
returns-then-count-records-clause-full c =
    let front = c.requires.front in
    let behind : mark_length c.args.bytes.now ≤ c.loop-place.place = omega (arith, front) in
    let within : c.loop-place.place < length c.args.bytes.now = omega arith in
    λ t. (
      c.if-last-gt0.true,
      scan-many c.args.bytes.now c.args.records c.args.most c.loop-place.place 0 (csv_state c.loop-place.stand) c.loop-place.count
          c.loop-place.last _ behind within refl c.loop-place.invariant.so (sym c.ends-ended.ensures ∙ c.if-ended.true) c.if-count-records.true
          c.loop-place-test.true,
    )

pub returns-then-last-gt0-2-clause-full : goal.returns-then-last-gt0-2-clause-full
returns-then-last-gt0-2-clause-full c =
    let e : c.loop-place.place ≡ c.args.most = omega arith in
    let n = scan-count c.args.bytes.now c.args.most (csv_state c.loop-place.stand) c.loop-place.count
    (subst (λ (k : ℕ). Stands c.args.bytes.now k (csv_state c.loop-place.stand) c.loop-place.count) e c.loop-place.invariant.so.stands) in
    λ t. (c.if-last-gt0-2.true, (let l = c.is_many.ensures.0 t in omega (arith, n, l)))

pub returns-then-last-gt0-2-clause-few : goal.returns-then-last-gt0-2-clause-few
returns-then-last-gt0-2-clause-few c =
    let e : c.loop-place.place ≡ c.args.most = omega arith in
    let n = scan-count c.args.bytes.now c.args.most (csv_state c.loop-place.stand) c.loop-place.count
    (subst (λ (k : ℕ). Stands c.args.bytes.now k (csv_state c.loop-place.stand) c.loop-place.count) e c.loop-place.invariant.so.stands) in
    λ t l. (let m : c.loop-place.count + at_last (csv_state c.loop-place.stand) ≤ c.args.records =
    not-many c.is_many.result c.args.records (c.loop-place.count + at_last (csv_state c.loop-place.stand)) c.is_many.ensures t in omega (arith, n, m))
