use Rattle.std.proofs.Common.{◌≡◌, ℕ, subst, sym, false, refl, arith, inl, inr}
use Rattle.fire_tasks.proofs.BundleLemmas.{seat_then, gone_moved, gone_none, gone_still, passes_next, passes_none, passes_of}
use Rattle.fire_tasks.specs.declared.bundle.Bundle.{Bundle}
use Rattle.fire_tasks.specs.Bundles.{HasGone, ManyPasses, most_passes}
use Rattle.fire_tasks.proofs.bundle.make_passes.Goals as goal

pub loop-pass-init : goal.loop-pass-init
loop-pass-init g c =
    let b : Bundle = record c.args.bundle.now { moved = false } in
    let n = gone_none b in
    record {
      calm = c.if-bundle.false;
      bundle = record { rests = c.requires.1.rests; keeps = c.requires.1.keeps };
      seat = record { lot = refl; round = record { seats = refl; starts = refl; parts = refl }; looks = refl };
      many = passes_none b _ refl;
      gone = record { ends = n.ends; goes_on = n.goes_on; number = n.number; grew = n.grew; stayed = n.stayed };
    }

pub loop-pass-preserved : goal.loop-pass-preserved
loop-pass-preserved g c =
    let b : Bundle = record c.args.bundle.now { moved = false } in
    let u = c.loop-pass.bundle in
    let w = c.pass_among.new.self in
    let e = c.pass_among.ensures in
    let last = subst (HasGone u w) c.if-not-moved.false c.in-Ok.ensures.gone in
    let gone = gone_moved b u w u.moved c.loop-pass.invariant.gone last in
    let seat = seat_then b u w c.loop-pass.invariant.seat e.seat in
    record {
      calm = c.in-Ok.ensures.calm;
      bundle = record { rests = e.bundle.rests; keeps = e.bundle.keeps };
      seat = record { lot = seat.lot; round = seat.round; looks = seat.looks };
      many = passes_next c.loop-pass._pass b u _ c.loop-pass.invariant.many
          (record { lot = e.seat.lot; round = e.seat.round; looks = e.seat.looks })
          (record { ends = last.ends; goes_on = last.goes_on; number = last.number; grew = last.grew; stayed = last.stayed });
      gone = record { ends = gone.ends; goes_on = gone.goes_on; number = gone.number; grew = gone.grew; stayed = gone.stayed };
    }

pub returns-then-not-moved : goal.returns-then-not-moved
returns-then-not-moved g c =
    let b : Bundle = record c.args.bundle.now { moved = false } in
    let u = c.loop-pass.bundle in
    let w = c.pass_among.new.self in
    let seat = seat_then b u w c.loop-pass.invariant.seat c.pass_among.ensures.seat in
    let last = subst (HasGone u w) c.if-not-moved.true c.in-Ok.ensures.gone in
    let gone = gone_still b u w u.moved c.loop-pass.invariant.gone last in
    let was = subst (HasGone b w) (sym c.pass_among.ensures.told) gone in
    let before = subst (HasGone b u) (sym c.pass_among.ensures.told) c.loop-pass.invariant.gone in
    record {
      bundle = c.pass_among.ensures.bundle;
      seat = record { lot = seat.lot; round = seat.round; looks = seat.looks };
      went = λ calm. record { ends = was.ends; goes_on = was.goes_on; number = was.number; grew = was.grew; stayed = was.stayed };
      ended = λ calm. inl (record {
        last = u;
        seat = record { lot = c.loop-pass.invariant.seat.lot; round = c.loop-pass.invariant.seat.round; looks = c.loop-pass.invariant.seat.looks };
        before = record { ends = before.ends; goes_on = before.goes_on; number = before.number; grew = before.grew; stayed = before.stayed };
        still = last;
        stuck = c.in-Ok.ensures.stuck c.if-not-moved.true;
      });
    }

pub returns : goal.returns
returns g c =
    let i = c.loop-pass.invariant in
    let b : Bundle = record c.args.bundle.now { moved = false } in
    let u : Bundle = c.loop-pass.bundle in
    record {
      bundle = i.bundle;
      seat = record { lot = i.seat.lot; round = i.seat.round; looks = i.seat.looks };
      went = λ calm. record { ends = i.gone.ends; goes_on = i.gone.goes_on; number = i.gone.number; grew = i.gone.grew; stayed = i.gone.stayed };
      ended = λ calm. inr (let q : c.loop-pass._pass ≡ most_passes = omega arith in
          passes_of most_passes b c.args.bundle.now u refl (subst (λ (n : ℕ). ManyPasses n b u) q i.many));
    }
