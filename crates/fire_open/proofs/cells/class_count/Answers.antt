use Rattle.std.proofs.Common.{◌≡◌, length, take, ap, sym, ◌∙◌, subst, arith}
use Rattle.std.proofs.lemmas.List.{take_all, length-take-le}
use Rattle.fire_open.proofs.ClassLemmas.{Counted, counted_none, counted_next, counted_all}
use Rattle.fire_open.specs.Homes.{AreByFirst}
use Rattle.fire_open.proofs.cells.class_count.Goals as goal

pub loop-class-init : goal.loop-class-init
loop-class-init c = counted_none

pub counted-count-requires : goal.counted-count-requires
counted-count-requires c =
    let n = c.loop-class.class-index in
    let items = c.as_slice-class-items.result.now in
    let lt = c.loop-class-test.true in
    let few = c.loop-class.invariant.few in
    let l = length-take-le n items (omega (arith, lt)) in
    let e = ap length c.as_slice-class-items.ensures in
    let m = c.requires.few in
    omega (arith, lt, few, l, e, m)

pub loop-class-preserved : goal.loop-class-preserved
loop-class-preserved c =
    counted_next c.as_slice-class-items.result.now c.loop-class.class-index c.loop-class.count c.counted-count.result
    (subst AreByFirst (sym c.as_slice-class-items.ensures) c.requires.first) c.loop-class-test.true c.loop-class.invariant c.counted-count.ensures

pub returns : goal.returns
returns c =
    let all : take c.loop-class.class-index c.as_slice-class-items.result.now ≡ c.args.classes.now
    = take_all c.loop-class.class-index c.as_slice-class-items.result.now (omega arith) ∙ c.as_slice-class-items.ensures in
    counted_all c.args.classes.now c.loop-class.count (subst (λ l. Counted l c.loop-class.count) all c.loop-class.invariant)
