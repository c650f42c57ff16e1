use Rattle.std.proofs.Common.{[], refl, sym, ap, ◌∙◌, subst}
use Rattle.std.proofs.lemmas.List.{append-nil}
use Rattle.class_locks.specs.Seats.{Chair}
use Rattle.class_locks.specs.declared.view.View.{View}
use Rattle.class_locks.specs.Views.{both_views}
use Rattle.fire_run.specs.Shares.{seats_of}
use Rattle.fire_run.proofs.GatherLemmas.{Merging, merging_first, merging_next, popped_rest}
use Rattle.fire_run.proofs.joining.one_seat.Goals as goal

pub loop-bundle-init : goal.loop-bundle-init
loop-bundle-init c =
    let bs0 = c.args.bundles.items in
    let rest = c.pop.new.self.items in
    record {
      merging = subst (λ (s : Chair). Merging (seats_of bs0) (seats_of rest) s.view) (sym c.into_seat-seat.ensures)
          (merging_first bs0 rest c.in-Some.last c.in-Some.ensures.items);
      lot = refl;
      rests = ap (λ (s : Chair). s.view.held) c.into_seat-seat.ensures
          ∙ (popped_rest bs0 bs0 rest c.in-Some.last [] c.requires (sym (append-nil (seats_of bs0))) c.in-Some.ensures.items).1;
    }

pub join-requires-clause-lot : goal.join-requires-clause-lot
join-requires-clause-lot c =
    let bs0 = c.args.bundles.items in
    let m = c.loop-bundle.invariant.merging in
    ap (λ (s : Chair). s.lot) c.into_seat-own.ensures
    ∙ (popped_rest bs0 c.loop-bundle.bundles.items c.pop-in-loop-bundle.new.self.items c.in-Some-pop.bundle _ c.requires m.all c.in-Some-pop.ensures.items).0
    ∙ sym (popped_rest bs0 bs0 c.pop.new.self.items c.in-Some.last [] c.requires (sym (append-nil (seats_of bs0))) c.in-Some.ensures.items).0
    ∙ sym (ap (λ (s : Chair). s.lot) c.into_seat-seat.ensures)
    ∙ sym c.loop-bundle.invariant.lot

pub join-requires-clause-rests : goal.join-requires-clause-rests
join-requires-clause-rests c =
    let bs0 = c.args.bundles.items in
    let m = c.loop-bundle.invariant.merging in (
      c.loop-bundle.invariant.rests,
      ap (λ (s : Chair). s.view.held) c.into_seat-own.ensures
          ∙ (popped_rest bs0 c.loop-bundle.bundles.items c.pop-in-loop-bundle.new.self.items c.in-Some-pop.bundle _ c.requires m.all c.in-Some-pop.ensures.items).1,
    )

pub loop-bundle-preserved : goal.loop-bundle-preserved
loop-bundle-preserved c =
    let i = c.loop-bundle.invariant in
    record {
      merging = merging_next c.args.bundles.items c.loop-bundle.bundles.items c.pop-in-loop-bundle.new.self.items c.in-Some-pop.bundle _ _ i.merging
          c.in-Some-pop.ensures.items
          (c.join.ensures.both ∙ ap (λ (s : Chair). both_views c.loop-bundle.seat.view s.view) c.into_seat-own.ensures);
      lot = c.join.ensures.lot ∙ i.lot;
      rests = ap (λ (v : View). v.held) c.join.ensures.both ∙ i.rests;
    }
