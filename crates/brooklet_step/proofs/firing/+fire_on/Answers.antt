use Rattle.std.specs.Result.{OnOk}
use Rattle.std.proofs.Common.{◌≡◌, ℤ, List, [], ◌∷◌, length, drop, get_or, Box, Global, refl, sym, ap, ◌∙◌, subst, arith}
use Rattle.std.proofs.lemmas.List.{length-set, nil_from_length}
use Rattle.std.proofs.lemmas.Result.{on_ok_weaker}
use Rattle.river_kernels.proofs.KernLemmas.{kern_of-packed, kern_of-fused, kern_of-cross, kern_of-select, kern_of-code, kern_of-filter}
use Rattle.work_code.specs.Term.{term}
use Rattle.river_kernels.specs.declared.kernel.Kernel.{Kernel}
use Rattle.river_base.specs.declared.item.Item as item
use Rattle.river_base.specs.Places.{each_grew, list_at}
use Rattle.river_kernels.specs.Kern.{kern_of, code, filter, cross, fused, packed}
use Rattle.brooklet_model.specs.Firings.{beside}
use Rattle.brooklet_step.specs.Joins.{BeginsWithSelection, IsSelection}
use Rattle.brooklet_step.specs.Given.{CanTake, CanTakeAll, FiresAt, FiresEach}
use Rattle.brooklet_step.proofs.Counted.{blank_by}
use Rattle.brooklet_model.proofs.Ports.{shaped}
use Rattle.brooklet_step.proofs.GivenLemmas.{fit_length}
use Rattle.brooklet_step.proofs.Growth.{through_can, through}
use Rattle.brooklet_step.proofs.NestedJoin.{behind, opened, fused_first, nested_can, third_can, nested_fires}
use Rattle.brooklet_step.proofs.Ones.{only_one, zero_can, zero_fires, first_can, first_fires}
use Rattle.brooklet_step.proofs.RowFires.{code_applies, code_does, filter_applies, filter_does}
use Rattle.brooklet_step.proofs.Fires.{on_ok}
use Rattle.kern_rows.specs.Forms.{code_form, filter_form}
use Rattle.river_base.specs.declared.item.Item.TheVariants as variant
use Rattle.river_base.specs.declared.item.Flat.TheVariants as flat
use Rattle.brooklet_step.proofs.Size.{size}
use Rattle.brooklet_step.proofs.Fused.{Parts, spliced_taken, result_both}
use Rattle.brooklet_step.proofs.GivenCode.{some_left, so_far_start, so_far_takes, so_far_step, so_far_end, packed_taken, packed_port, packed_whole, count_fits, first_taken, takes_on}
use Rattle.brooklet_step.proofs.GivenCode.{second_room, both_fire}
use Rattle.brooklet_step.proofs.firing.+fire_on.Goals as goal

pub fire_each-front-init : goal.fire_each-front-init
fire_each-front-init t c = so_far_start (kern_of c.args.kernel.now) c.args.items.now c.args.out.now c.args.states.now c.requires

pub fire_each-fire_front-requires : goal.fire_each-fire_front-requires
fire_each-fire_front-requires t c = (
  omega (arith, c.decreases),
  (some_left (length c.front.items) c.is_empty.result c.is_empty.ensures.1 c.front-test.true, c.front.invariant.takes),
)

pub fire_each-front-smaller : goal.fire_each-front-smaller
fire_each-front-smaller t c = let e = ap length c.in_ok-fire_front.ensures.is in omega (arith, e)

pub fire_each-front-preserved : goal.fire_each-front-preserved
fire_each-front-preserved t c =
    let f = c.in_ok-fire_front.ensures in
    so_far_step (kern_of c.args.kernel.now) c.args.items.now c.front.items c.fire_front.new.items f.front c.args.out.now c.front.out c.fire_front.new.out
    c.args.states.now c.front.states c.fire_front.new.states f.is c.front.invariant f.fires

pub fire_each-returns : goal.fire_each-returns
fire_each-returns t c =
    so_far_end (kern_of c.args.kernel.now) c.args.items.now c.front.items c.args.out.now c.front.out c.args.states.now c.front.states
    (nil_from_length c.front.items (c.is_empty.ensures.0 c.front-test.false)) c.front.invariant

pub fire_on-fire_packed-requires : goal.fire_on-fire_packed-requires
fire_on-fire_packed-requires t c =
    let k = kern_of c.args.kernel.now in
    let ek : k ≡ packed (kern_of c.in-Packed.inner.value) = ap kern_of c.in-Packed.is ∙ kern_of-packed c.in-Packed.inner in
    let ej = ap kern_of c.deref.ensures in (
      omega (arith, c.decreases, ap size ek, ap size ej),
      subst (λ i. CanTake i c.args.port c.args.item c.args.states.now c.args.out.now) (ek ∙ ap packed (sym ej)) c.requires,
    )

pub fire_on-fire_join-requires : goal.fire_on-fire_join-requires
fire_on-fire_join-requires t c =
    let at = c.in-Fused.at in
    let j = c.is_join.ensures c.if-is_join.true in
    let second = c.deref-then-is_join.result.now in
    let same = c.deref-then-is_join.ensures ∙ sym c.deref-in-Fused-2.ensures in
    let ea = ap kern_of c.deref-in-Fused.ensures in
    let ep = ap kern_of j.product ∙ kern_of-cross in
    let eb = ap kern_of c.deref-then-is_join.ensures in
    let ek : kern_of c.args.kernel.now ≡ fused cross (kern_of second) at = ap kern_of c.in-Fused.is ∙ kern_of-fused c.in-Fused.first c.in-Fused.second at
    ∙ ap (λ i. fused i (kern_of c.in-Fused.second.value) at) (sym ea ∙ ep) ∙ ap (λ i. fused cross i at) (sym eb) in
    record {
      selection = subst IsSelection (sym same) j.selection;
      can = subst (λ i. CanTake i c.args.port c.args.item c.args.states.now c.args.out.now) ek c.requires;
    }

pub fire_on-fire_nested-requires : goal.fire_on-fire_nested-requires
fire_on-fire_nested-requires t c =
    let at = c.in-Fused.at in
    let j = c.is_nested_join.ensures c.if-is_nested_join.true in
    let second = c.deref-then-is_nested_join.result.now in
    let same = c.deref-then-is_nested_join.ensures ∙ sym c.deref-in-Fused-4.ensures in
    let ea = ap kern_of c.deref-in-Fused-3.ensures in
    let ep = ap kern_of j.product ∙ kern_of-cross in
    let eb = ap kern_of c.deref-then-is_nested_join.ensures in
    let ek : kern_of c.args.kernel.now ≡ fused cross (kern_of second) at = ap kern_of c.in-Fused.is ∙ kern_of-fused c.in-Fused.first c.in-Fused.second at
    ∙ ap (λ i. fused i (kern_of c.in-Fused.second.value) at) (sym ea ∙ ep) ∙ ap (λ i. fused cross i at) (sym eb) in (
      omega (arith, c.decreases, ap size ek),
      (subst BeginsWithSelection (sym same) j.nested, subst (λ i. CanTake i c.args.port c.args.item c.args.states.now c.args.out.now) ek c.requires),
    )

pub fire_nested-fire_selected-requires : goal.fire_nested-fire_selected-requires
fire_nested-fire_selected-requires t c =
    let at = c.args.at in
    let n = c.requires.nested in
    let same = fused_first n.first n.second n.at c.in-Fused.first c.in-Fused.third c.in-Fused.inner (sym n.is ∙ c.in-Fused.is) in
    let ek = opened c.args.second.now c.deref.result.now c.deref-in-Fused.result.now c.in-Fused.first c.in-Fused.third c.in-Fused.inner c.in-Fused.is
    c.deref.ensures c.deref-in-Fused.ensures in (
      omega (arith, c.decreases, ap size ek),
      (
        subst IsSelection (ap (λ (b : Box Kernel Global). b.value) same ∙ sym c.deref.ensures) n.selection,
        subst (λ i. CanTake (fused cross i at) c.args.port c.args.item c.args.states.now c.args.out.now) ek c.requires.can,
      ),
    )

pub fire_nested-returns : goal.fire_nested-returns
fire_nested-returns t c =
    let at = c.args.at in
    let ek = opened c.args.second.now c.deref.result.now c.deref-in-Fused.result.now c.in-Fused.first c.in-Fused.third c.in-Fused.inner c.in-Fused.is
    c.deref.ensures c.deref-in-Fused.ensures in
    subst (λ i. OnOk c.fire_selected.result (FiresAt (fused cross i at) c.args.port c.args.item c.args.out.now c.fire_selected.new.out c.args.states.now
    c.fire_selected.new.states)) (sym ek) c.fire_selected.ensures

pub fire_selected-fire_third-requires : goal.fire_selected-fire_third-requires
fire_selected-fire_third-requires t c =
    let e = ap kern_of c.in-Select.is ∙ kern_of-select c.in-Select.cond in (
      omega (arith, c.decreases),
      subst (λ i. CanTake (fused cross (fused i (kern_of c.args.third.now) c.args.inner) c.args.at) c.args.port c.args.item c.args.states.now c.args.out.now) e
          c.requires.can,
    )

pub fire_selected-returns : goal.fire_selected-returns
fire_selected-returns t c =
    let e = ap kern_of c.in-Select.is ∙ kern_of-select c.in-Select.cond in
    subst (λ i. OnOk c.fire_third.result (FiresAt (fused cross (fused i (kern_of c.args.third.now) c.args.inner) c.args.at) c.args.port c.args.item
    c.args.out.now c.fire_third.new.out c.args.states.now c.fire_third.new.states)) (sym e) c.fire_third.ensures

pub fire_third-split_at_mut-mine-requires : goal.fire_third-split_at_mut-mine-requires
fire_third-split_at_mut-mine-requires t c =
    let b = behind (term c.args.cond.now) (kern_of c.args.third.now) c.args.inner in
    count_fits (fused cross b c.args.at) cross b c.args.at 1 c.args.port c.args.item c.args.states.now c.args.out.now refl refl c.requires

pub fire_third-kept_pairs-requires : goal.fire_third-kept_pairs-requires
fire_third-kept_pairs-requires t c =
    let mine = c.split_at_mut-mine.result.0.now in
    let d = c.index-mine-0.result in
    let front_len = c.split_at_mut-mine.ensures.front_len in
    nested_can (term c.args.cond.now) (kern_of c.args.third.now) c.args.inner c.args.at c.args.port c.args.item c.args.states.now mine
    c.split_at_mut-mine.result.1.now (get_or mine 0 d) c.args.out.now
    (record { kernel = refl; counted = refl; front = c.split_at_mut-mine.ensures.front; back = c.split_at_mut-mine.ensures.back })
    (only_one mine d (get_or mine 0 d) (omega (arith, front_len)) refl) c.requires

pub fire_third-fire_behind-requires : goal.fire_third-fire_behind-requires
fire_third-fire_behind-requires t c =
    let mine = c.split_at_mut-mine.result.0.now in
    let d = c.index-mine-0.result in
    let front_len = c.split_at_mut-mine.ensures.front_len in (
      omega (arith, c.decreases),
      third_can (term c.args.cond.now) (kern_of c.args.third.now) c.args.inner c.args.at c.args.port c.args.item c.args.states.now mine
          c.split_at_mut-mine.result.1.now (get_or mine 0 d) c.args.out.now
          (record { kernel = refl; counted = refl; front = c.split_at_mut-mine.ensures.front; back = c.split_at_mut-mine.ensures.back })
          (only_one mine d (get_or mine 0 d) (omega (arith, front_len)) refl) c.requires c.in_ok-mid.mid c.kept_pairs.new.state c.in_ok-mid.ensures,
    )

pub fire_third-returns : goal.fire_third-returns
fire_third-returns t c =
    let mine = c.split_at_mut-mine.result.0.now in
    let d = c.index-mine-0.result in
    let front_len = c.split_at_mut-mine.ensures.front_len in
    on_ok_weaker c.fire_behind.result
    (nested_fires (term c.args.cond.now) (kern_of c.args.third.now) c.args.inner c.args.at c.args.port c.args.item c.args.states.now mine
    c.split_at_mut-mine.result.1.now (get_or mine 0 d) c.args.out.now
    (record { kernel = refl; counted = refl; front = c.split_at_mut-mine.ensures.front; back = c.split_at_mut-mine.ensures.back })
    (only_one mine d (get_or mine 0 d) (omega (arith, front_len)) refl) c.requires c.in_ok-mid.mid c.kept_pairs.new.state c.in_ok-mid.ensures
    c.fire_behind.new.out c.fire_behind.new.states)
    c.fire_behind.ensures

pub fire_on-fire_fused-requires : goal.fire_on-fire_fused-requires
fire_on-fire_fused-requires t c =
    let k = kern_of c.args.kernel.now in
    let at = c.in-Fused.at in
    let a = kern_of c.deref-in-Fused-5.result.now in
    let b = kern_of c.deref-in-Fused-6.result.now in
    let ea = ap kern_of c.deref-in-Fused-5.ensures in
    let eb = ap kern_of c.deref-in-Fused-6.ensures in
    let ek : k ≡ fused a b at = ap kern_of c.in-Fused.is ∙ kern_of-fused c.in-Fused.first c.in-Fused.second at
    ∙ ap (λ i. fused i (kern_of c.in-Fused.second.value) at) (sym ea) ∙ ap (λ i. fused a i at) (sym eb) in
    (omega (arith, c.decreases, ap size ek), subst (λ i. CanTake i c.args.port c.args.item c.args.states.now c.args.out.now) ek c.requires)

pub fire_on-returns-in-Packed : goal.fire_on-returns-in-Packed
fire_on-returns-in-Packed t c =
    let ek : kern_of c.args.kernel.now ≡ packed (kern_of c.deref.result.now) = ap kern_of c.in-Packed.is ∙ kern_of-packed c.in-Packed.inner
    ∙ ap (λ j. packed (kern_of j)) (sym c.deref.ensures) in
    subst (λ i. OnOk c.fire_packed.result (FiresAt i c.args.port c.args.item c.args.out.now c.fire_packed.new.out c.args.states.now
    c.fire_packed.new.states)) (sym ek) c.fire_packed.ensures

pub fire_blank-fire_on-requires : goal.fire_blank-fire_on-requires
fire_blank-fire_on-requires t c = (omega (arith, c.decreases), c.requires c.in_ok-given.given c.in_ok-given.ensures.outs c.in_ok-given.ensures.adds)

pub fire_blank-returns : goal.fire_blank-returns
fire_blank-returns t c = (c.in_ok-given.given, c.in_ok-given.ensures.outs, c.in_ok-given.ensures.adds, c.in_ok-fire_on.ensures)

pub fire_row_blank-fire_row_on-requires : goal.fire_row_blank-fire_row_on-requires
fire_row_blank-fire_row_on-requires t c = (
  omega (arith, c.decreases),
  (c.requires.some, (c.requires.at_most, c.requires.can c.in_ok-given.given c.in_ok-given.ensures.outs c.in_ok-given.ensures.adds)),
)

pub fire_row_blank-returns : goal.fire_row_blank-returns
fire_row_blank-returns t c = (c.in_ok-given.given, c.in_ok-given.ensures.outs, c.in_ok-given.ensures.adds, c.in_ok-fire_row_on.ensures)

pub fire_packed-fire_blank-requires : goal.fire_packed-fire_blank-requires
fire_packed-fire_blank-requires t c =
    let j = kern_of c.args.inner.now in
    (omega (arith, c.decreases), λ e o a. packed_taken (packed j) j j c.args.port c.args.item c.args.states.now c.args.out.now e refl refl c.requires o a)

pub fire_packed-give_pack-requires-clause-given : goal.fire_packed-give_pack-requires-clause-given
fire_packed-give_pack-requires-clause-given t c =
    let j = kern_of c.args.inner.now in
    let g = c.in_ok-given.ensures in
    let u = packed_taken (packed j) j j c.args.port c.args.item c.args.states.now c.args.out.now g.0 refl refl c.requires g.1 g.2 in
    packed_port j c.args.port c.args.item c.args.states.now c.fire_blank.new.states c.args.out.now g.0 c.in_ok-given.given c.requires u g.3

pub fire_packed-returns : goal.fire_packed-returns
fire_packed-returns t c =
    let j = kern_of c.args.inner.now in
    let g = c.in_ok-given.ensures in
    let given = c.in_ok-given.given in
    on_ok_weaker c.give_pack.result
    (λ took. packed_whole (packed j) j j c.args.port c.args.item c.args.states.now c.fire_blank.new.states c.args.out.now c.give_pack.new.out g.0
    given (list_at given.outs 0) _ refl refl c.requires g.1 g.3 refl refl took)
    c.give_pack.ensures

pub fire_fused-first_counts-requires : goal.fire_fused-first_counts-requires
fire_fused-first_counts-requires t c =
    let k = fused (kern_of c.args.first.now) (kern_of c.args.second.now) c.args.at in
    let can = c.requires in
    record {
      place = (shaped k can.reads can.fitting.writes can.fitting.vars can.fitting.fits).2;
      states = fit_length k can.reads c.args.states.now can.fitting.state;
      lists = can.room;
    }

pub fire_fused-split_at_mut-mine-requires : goal.fire_fused-split_at_mut-mine-requires
fire_fused-split_at_mut-mine-requires t c =
    let a = kern_of c.args.first.now in
    let b = kern_of c.args.second.now in
    let k = fused a b c.args.at in
    let is = c.in_ok-counts.ensures in
    let count = c.in_ok-counts.counts.privates in
    count_fits k a b c.args.at count c.args.port c.args.item c.args.states.now c.args.out.now refl
    (is.privates_are) c.requires

pub fire_fused-fire_blank-requires : goal.fire_fused-fire_blank-requires
fire_fused-fire_blank-requires t c =
    let a = kern_of c.args.first.now in
    let b = kern_of c.args.second.now in
    let k = fused a b c.args.at in
    let is = c.in_ok-counts.ensures in
    let count = c.in_ok-counts.counts.privates in
    let st = c.args.states.now in
    let mine = c.split_at_mut-mine.result.0.now in
    let rest = c.split_at_mut-mine.result.1.now in
    let p : Parts k a b c.args.at count st mine rest =
    record {
      kernel = refl;
      counted = is.privates_are;
      front = c.split_at_mut-mine.ensures.front;
      back =
          c.split_at_mut-mine.ensures.back;
    } in (
      omega (arith, c.decreases),
      λ e o n. first_taken k a b c.args.at count c.args.port c.args.item st mine rest c.args.out.now e p c.requires
          (blank_by a c.in_ok-counts.counts e is o n),
    )

pub fire_fused-fire_behind-fired-requires : goal.fire_fused-fire_behind-fired-requires
fire_fused-fire_behind-fired-requires t c =
    let a = kern_of c.args.first.now in
    let b = kern_of c.args.second.now in
    let k = fused a b c.args.at in
    let is = c.in_ok-counts.ensures in
    let count = c.in_ok-counts.counts.privates in
    let st = c.args.states.now in
    let mine = c.split_at_mut-mine.result.0.now in
    let rest = c.split_at_mut-mine.result.1.now in
    let m = c.in_ok-mid.ensures in
    let p : Parts k a b c.args.at count st mine rest =
    record {
      kernel = refl;
      counted = is.privates_are;
      front = c.split_at_mut-mine.ensures.front;
      back =
          c.split_at_mut-mine.ensures.back;
    } in (
      omega (arith, c.decreases),
      takes_on k a b c.args.at count c.args.port c.args.item st mine rest c.fire_blank.new.states c.args.out.now m.0
          c.in_ok-mid.mid p c.requires (blank_by a c.in_ok-counts.counts m.0 is m.1 m.2) m.3,
    )

pub fire_fused-returns : goal.fire_fused-returns
fire_fused-returns t c =
    let a = kern_of c.args.first.now in
    let b = kern_of c.args.second.now in
    let k = fused a b c.args.at in
    let is = c.in_ok-counts.ensures in
    let count = c.in_ok-counts.counts.privates in
    let st = c.args.states.now in
    let mine = c.split_at_mut-mine.result.0.now in
    let rest = c.split_at_mut-mine.result.1.now in
    let m = c.in_ok-mid.ensures in
    let p : Parts k a b c.args.at count st mine rest =
    record {
      kernel = refl;
      counted = is.privates_are;
      front = c.split_at_mut-mine.ensures.front;
      back =
          c.split_at_mut-mine.ensures.back;
    } in
    on_ok_weaker c.fire_behind-fired.result
    (λ r. both_fire k a b c.args.at count c.args.port c.args.item st mine rest c.fire_blank.new.states c.fire_behind-fired.new.states c.args.out.now
    c.fire_behind-fired.new.out m.0 c.in_ok-mid.mid p c.requires (blank_by a c.in_ok-counts.counts m.0 is m.1 m.2) m.3 r)
    c.fire_behind-fired.ensures

pub fire_fused_row-first_counts-requires : goal.fire_fused_row-first_counts-requires
fire_fused_row-first_counts-requires t c =
    let k = fused (kern_of c.args.first.now) (kern_of c.args.second.now) c.args.at in
    let can = c.requires.can in
    record {
      place = (shaped k can.reads can.fitting.writes can.fitting.vars can.fitting.fits).2;
      states = fit_length k can.reads c.args.states.now can.fitting.state;
      lists = can.room;
    }

pub fire_fused_row-split_at_mut-mine-requires : goal.fire_fused_row-split_at_mut-mine-requires
fire_fused_row-split_at_mut-mine-requires t c =
    let item = variant.Flat (flat.One c.args.row.now) in
    let a = kern_of c.args.first.now in
    let b = kern_of c.args.second.now in
    let k = fused a b c.args.at in
    let is = c.in_ok-counts.ensures in
    let count = c.in_ok-counts.counts.privates in
    count_fits k a b c.args.at count c.args.port item c.args.states.now c.args.out.now refl
    (is.privates_are) c.requires.can

pub fire_fused_row-fire_row_blank-requires : goal.fire_fused_row-fire_row_blank-requires
fire_fused_row-fire_row_blank-requires t c =
    let item = variant.Flat (flat.One c.args.row.now) in
    let a = kern_of c.args.first.now in
    let b = kern_of c.args.second.now in
    let k = fused a b c.args.at in
    let is = c.in_ok-counts.ensures in
    let count = c.in_ok-counts.counts.privates in
    let st = c.args.states.now in
    let mine = c.split_at_mut-mine.result.0.now in
    let rest = c.split_at_mut-mine.result.1.now in
    let p : Parts k a b c.args.at count st mine rest =
    record {
      kernel = refl;
      counted = is.privates_are;
      front = c.split_at_mut-mine.ensures.front;
      back =
          c.split_at_mut-mine.ensures.back;
    } in (
      omega (arith, c.decreases),
      (
        c.requires.some,
        (
          c.requires.at_most,
          λ e o n. first_taken k a b c.args.at count c.args.port item st mine rest c.args.out.now e p c.requires.can
              (blank_by a c.in_ok-counts.counts e is o n),
        ),
      ),
    )

pub fire_fused_row-fire_behind-fired-requires : goal.fire_fused_row-fire_behind-fired-requires
fire_fused_row-fire_behind-fired-requires t c =
    let item = variant.Flat (flat.One c.args.row.now) in
    let a = kern_of c.args.first.now in
    let b = kern_of c.args.second.now in
    let k = fused a b c.args.at in
    let is = c.in_ok-counts.ensures in
    let count = c.in_ok-counts.counts.privates in
    let st = c.args.states.now in
    let mine = c.split_at_mut-mine.result.0.now in
    let rest = c.split_at_mut-mine.result.1.now in
    let m = c.in_ok-mid.ensures in
    let p : Parts k a b c.args.at count st mine rest =
    record {
      kernel = refl;
      counted = is.privates_are;
      front = c.split_at_mut-mine.ensures.front;
      back =
          c.split_at_mut-mine.ensures.back;
    } in (
      omega (arith, c.decreases),
      takes_on k a b c.args.at count c.args.port item st mine rest c.fire_row_blank.new.states c.args.out.now m.0
          c.in_ok-mid.mid p c.requires.can (blank_by a c.in_ok-counts.counts m.0 is m.1 m.2) m.3,
    )

pub fire_fused_row-returns : goal.fire_fused_row-returns
fire_fused_row-returns t c =
    let item = variant.Flat (flat.One c.args.row.now) in
    let a = kern_of c.args.first.now in
    let b = kern_of c.args.second.now in
    let k = fused a b c.args.at in
    let is = c.in_ok-counts.ensures in
    let count = c.in_ok-counts.counts.privates in
    let st = c.args.states.now in
    let mine = c.split_at_mut-mine.result.0.now in
    let rest = c.split_at_mut-mine.result.1.now in
    let m = c.in_ok-mid.ensures in
    let p : Parts k a b c.args.at count st mine rest =
    record {
      kernel = refl;
      counted = is.privates_are;
      front = c.split_at_mut-mine.ensures.front;
      back =
          c.split_at_mut-mine.ensures.back;
    } in
    on_ok_weaker c.fire_behind-fired.result
    (λ r. both_fire k a b c.args.at count c.args.port item st mine rest c.fire_row_blank.new.states c.fire_behind-fired.new.states c.args.out.now
    c.fire_behind-fired.new.out m.0 c.in_ok-mid.mid p c.requires.can (blank_by a c.in_ok-counts.counts m.0 is m.1 m.2) m.3 r)
    c.fire_behind-fired.ensures

pub fire_behind-fire_each-requires : goal.fire_behind-fire_each-requires
fire_behind-fire_each-requires t c = (
  omega (arith, c.decreases),
  subst (λ (l : List item.Item). CanTakeAll (kern_of c.args.second.now) l c.args.states.now c.args.out.now) (sym (c.at_mut-between.ensures.value []))
      (through_can (kern_of c.args.second.now) c.args.at c.args.states.now c.args.mid.now c.args.out.now c.requires (sym c.len.ensures ∙ c.if-len-eq1.true)
      (ap length (c.is_empty.ensures.0 c.if-is_empty.true))),
)

pub fire_behind-returns-then-is_empty : goal.fire_behind-returns-then-is_empty
fire_behind-returns-then-is_empty t c =
    let k = kern_of c.args.second.now in
    on_ok_weaker c.fire_each.result
    (λ f. through k c.args.at c.args.states.now c.args.mid.now c.args.out.now c.requires (sym c.len.ensures ∙ c.if-len-eq1.true)
    (ap length (c.is_empty.ensures.0 c.if-is_empty.true)) c.fire_each.new.out c.fire_each.new.states
    (subst (λ (l : List item.Item). FiresEach k l c.args.out.now c.fire_each.new.out c.args.states.now c.fire_each.new.states)
    (c.at_mut-between.ensures.value []) f))
    c.fire_each.ensures

pub fire_second-take_port-between-requires : goal.fire_second-take_port-between-requires
fire_second-take_port-between-requires t c = c.requires.place

pub fire_second-fire_each-requires : goal.fire_second-fire_each-requires
fire_second-fire_each-requires t c = (
  omega (arith, c.decreases),
  subst (λ (l : List item.Item). CanTakeAll (kern_of c.args.second.now) l c.args.states.now c.in_ok-last.last)
      (sym c.take_port-between.ensures.taken) (c.requires.takes c.in_ok-last.last c.in_ok-last.ensures),
)

pub fire_second-splice-requires-clause-place : goal.fire_second-splice-requires-clause-place
fire_second-splice-requires-clause-place t c =
    let r = c.requires.place in
    let m = ap length c.take_port-between.ensures.outs ∙ length-set c.args.mid.now.outs c.args.at [] in
    omega (arith, r, m)

pub fire_second-splice-requires-clause-ports : goal.fire_second-splice-requires-clause-ports
fire_second-splice-requires-clause-ports t c =
    let r = c.requires.outs in
    let l = (second_room (kern_of c.args.second.now) c.args.at c.args.states.now c.fire_each.new.states c.args.mid.now c.args.out.now
    c.in_ok-last.last c.fire_each.new.out c.take_port-between.result c.requires c.in_ok-last.ensures c.take_port-between.ensures.taken
    c.in_ok-fire_each.ensures).outs in
    let m = ap length c.take_port-between.ensures.outs ∙ length-set c.args.mid.now.outs c.args.at [] in
    omega (arith, r, l, m)

pub fire_second-splice-requires-clause-tables : goal.fire_second-splice-requires-clause-tables
fire_second-splice-requires-clause-tables t c =
    let r = c.requires.adds in
    let l = (second_room (kern_of c.args.second.now) c.args.at c.args.states.now c.fire_each.new.states c.args.mid.now c.args.out.now
    c.in_ok-last.last c.fire_each.new.out c.take_port-between.result c.requires c.in_ok-last.ensures c.take_port-between.ensures.taken
    c.in_ok-fire_each.ensures).adds in
    let m = ap length c.take_port-between.ensures.adds in
    omega (arith, r, l, m)

pub fire_second-returns : goal.fire_second-returns
fire_second-returns t c =
    let mid = c.args.mid.now in
    let last = c.fire_each.new.out in
    result_both c.splice.result
    (λ eo ea. record {
      blank = c.in_ok-last.last;
      last = last;
      is_blank = c.in_ok-last.ensures;
      fires =
          subst (λ (l : List item.Item). FiresEach (kern_of c.args.second.now) l c.in_ok-last.last last c.args.states.now c.fire_each.new.states)
          c.take_port-between.ensures.taken c.in_ok-fire_each.ensures;
      outs =
          spliced_taken c.args.at (length last.outs) c.args.out.now.outs c.splice.new.self.outs mid.outs c.take_port-between.new.self.outs
          (list_at last.outs) c.take_port-between.ensures.outs eo;
      adds =
          ea
          ∙ ap (λ (l : List (List (List ℤ))). each_grew c.args.out.now.adds (beside (length l) (list_at l) (list_at last.adds)))
          c.take_port-between.ensures.adds;
    })
    c.splice.ensures.outs c.splice.ensures.adds

pub fire_row_on-run_row-requires : goal.fire_row_on-run_row-requires
fire_row_on-run_row-requires t c =
    let f = code_form c.in-Code.code in
    let item = variant.Flat (flat.One c.args.row.now) in
    code_applies f 0 item c.args.states.now c.args.out.now
    (zero_can (kern_of c.args.kernel.now) (code f) c.args.port item c.args.states.now c.args.out.now
    (ap kern_of c.in-Code.is ∙ kern_of-code c.in-Code.code) refl c.requires.can)

pub fire_row_on-returns-in-Code : goal.fire_row_on-returns-in-Code
fire_row_on-returns-in-Code t c =
    let f = code_form c.in-Code.code in
    let item = variant.Flat (flat.One c.args.row.now) in
    on_ok _ _ c.run_row.result
    (λ h. zero_fires (kern_of c.args.kernel.now) (code f) c.args.port item c.args.states.now c.run_row.new.states c.args.out.now c.run_row.new.out
    (ap kern_of c.in-Code.is ∙ kern_of-code c.in-Code.code) refl c.requires.can
    (code_does f 0 item c.args.out.now c.run_row.new.out c.args.states.now c.run_row.new.states h))
    c.run_row.ensures

pub fire_row_on-filter_row-requires-clause-applies : goal.fire_row_on-filter_row-requires-clause-applies
fire_row_on-filter_row-requires-clause-applies t c =
    let f = filter_form c.in-Filter.filter in
    let item = variant.Flat (flat.One c.args.row.now) in
    filter_applies f 0 item _ c.args.out.now
    (first_can (kern_of c.args.kernel.now) (filter f) c.args.port item c.args.states.now c.index-states-0.result
    (get_or c.args.states.now 0 c.index-states-0.result) c.args.out.now
    (ap kern_of c.in-Filter.is ∙ kern_of-filter c.in-Filter.filter) refl refl refl c.requires.can)

pub fire_row_on-returns-in-Filter : goal.fire_row_on-returns-in-Filter
fire_row_on-returns-in-Filter t c =
    let f = filter_form c.in-Filter.filter in
    let item = variant.Flat (flat.One c.args.row.now) in
    let s = get_or c.args.states.now 0 c.index-states-0.result in
    on_ok _ _ c.filter_row.result
    (λ h. first_fires (kern_of c.args.kernel.now)
    (filter f) c.args.port item c.args.states.now c.index-states-0.result s c.filter_row.new.state c.args.out.now c.filter_row.new.out
    (ap kern_of c.in-Filter.is ∙ kern_of-filter c.in-Filter.filter) refl refl refl c.requires.can
    (filter_does f 0 item c.args.out.now c.filter_row.new.out _ _ h))
    c.filter_row.ensures

pub fire_row_on-fire_fused_row-requires : goal.fire_row_on-fire_fused_row-requires
fire_row_on-fire_fused_row-requires t c =
    let ek = opened c.args.kernel.now c.deref.result.now c.deref-in-Fused.result.now c.in-Fused.first c.in-Fused.second c.in-Fused.at c.in-Fused.is
    c.deref.ensures c.deref-in-Fused.ensures in (
      omega (arith, c.decreases, ap size ek),
      (
        c.requires.some,
        (
          c.requires.at_most,
          subst (λ i. CanTake i c.args.port (variant.Flat (flat.One c.args.row.now)) c.args.states.now c.args.out.now) ek c.requires.can,
        ),
      ),
    )

pub fire_row_on-returns-in-Fused : goal.fire_row_on-returns-in-Fused
fire_row_on-returns-in-Fused t c =
    let ek = opened c.args.kernel.now c.deref.result.now c.deref-in-Fused.result.now c.in-Fused.first c.in-Fused.second c.in-Fused.at c.in-Fused.is
    c.deref.ensures c.deref-in-Fused.ensures in
    subst (λ i. OnOk c.fire_fused_row.result (FiresAt i c.args.port (variant.Flat (flat.One c.args.row.now)) c.args.out.now c.fire_fused_row.new.out
    c.args.states.now c.fire_fused_row.new.states)) (sym ek) c.fire_fused_row.ensures

pub fire_row_on-fire_on-requires : goal.fire_row_on-fire_on-requires
fire_row_on-fire_on-requires t c = (
  omega (arith, c.decreases),
  subst (λ (r : List ℤ). CanTake (kern_of c.args.kernel.now) c.args.port (variant.Flat (flat.One r)) c.args.states.now c.args.out.now)
      (sym c.from_slice.ensures) c.requires.can,
)

pub fire_front-fire_row_on-requires : goal.fire_front-fire_row_on-requires
fire_front-fire_row_on-requires t c =
    let k = kern_of c.args.kernel.now in
    let front = c.in-Some.ensures.front in (
      omega (arith, c.decreases),
      (
        c.in-Some.ensures.some,
        (
          c.in-Some.ensures.at_most,
          so_far_takes k c.args.items.now c.args.items.now front.0 (variant.Flat (flat.One c.in-Some.row.now)) c.args.out.now c.args.out.now
              c.args.states.now c.args.states.now front.1 (so_far_start k c.args.items.now c.args.out.now c.args.states.now c.requires.can),
        ),
      ),
    )

pub fire_front-returns-in-Some : goal.fire_front-returns-in-Some
fire_front-returns-in-Some t c =
    let x = variant.Flat (flat.One c.in-Some.row.now) in
    let front = c.in-Some.ensures.front in
    record {
      front = x;
      is = front.1 ∙ ap (λ l. x ∷ l) (sym (c.drop_front.ensures ∙ ap (λ (l : List item.Item). drop 1 l) front.1));
      fires = c.in_ok-fire_row_on.ensures;
    }

pub fire_front-fire_on-requires : goal.fire_front-fire_on-requires
fire_front-fire_on-requires t c =
    let k = kern_of c.args.kernel.now in (
      omega (arith, c.decreases),
      so_far_takes k c.args.items.now c.args.items.now c.pop.new.self c.in-Some-pop.item c.args.out.now c.args.out.now c.args.states.now c.args.states.now
          c.in-Some-pop.ensures (so_far_start k c.args.items.now c.args.out.now c.args.states.now c.requires.can),
    )

pub fire_front-returns-in-Some-pop : goal.fire_front-returns-in-Some-pop
fire_front-returns-in-Some-pop t c =
    on_ok_weaker c.fire_on.result (λ f. record { front = c.in-Some-pop.item; is = c.in-Some-pop.ensures; fires = f }) c.fire_on.ensures

pub fire_front-returns-in-None : goal.fire_front-returns-in-None
fire_front-returns-in-None t c =
    let e = ap length c.in-None.ensures.0 in
    let s = c.requires.some in
    absurd (omega (arith, e, s))
