use Rattle.std.proofs.Common.{rules, ◌≡◌, ◌<◌, ◌+◌, suc, ℕ, List, [], ◌∷◌, ◌++◌, length, take, take-suc, get_or, refl, sym, ap, ◌∙◌, subst, arith}
use Rattle.std.specs.Prelude.{slice_index}
use Rattle.std.proofs.lemmas.List.{take_all, length-append}
use Rattle.std.proofs.lemmas.Option.{slice_get-get_or}
use Rattle.class_locks.specs.declared.view.View.{View}
use Rattle.class_locks.specs.declared.view.Held.{Held}
use Rattle.class_locks.specs.Piles.{Piled, AllBelow, HasTaken}
use Rattle.class_locks.proofs.Piles.{above_pile, none_taken, taken_more, tried_pile, put_back, none_tried, took_tried, busy_tried, busy_found}
use Rattle.class_locks.proofs.pile.take_each.Goals as goal

pub loop-class-init : goal.loop-class-init
loop-class-init c =
    let seat = c.args.seat.now.view in
    record {
      lot = refl;
      taken = subst (λ (ps : List Piled). HasTaken [] seat seat ps) (sym c.requires.blank) (none_taken seat c.requires.rests);
      tries = none_tried seat;
      below = λ lt. subst (λ (hs : List Held). AllBelow (slice_index c.args.classes.now 0) hs) (sym c.requires.rests) tt;
      count = ap length c.requires.blank;
      room = c.requires.room;
      same = refl;
    }

pub try_take-requires-clause-there : goal.try_take-requires-clause-there
try_take-requires-clause-there c =
    let i = c.loop-class.class-index in
    subst (λ (n : ℕ). get_or c.args.classes.now i 0 < n) (ap length (sym c.loop-class.invariant.taken.looked.starts))
    (c.requires.there i 0 c.loop-class-test.true)

pub try_take-requires-clause-above : goal.try_take-requires-clause-above
try_take-requires-clause-above c =
    above_pile c.loop-class.seat.view (get_or c.args.classes.now c.loop-class.class-index 0) (c.loop-class.invariant.below c.loop-class-test.true)

pub put_each-requires : goal.put_each-requires
put_each-requires c =
    let i = c.loop-class.class-index in
    tried_pile c.args.seat.now.view c.loop-class.seat.view (take i c.args.classes.now) c.loop-class.pile.items c.loop-class.invariant.taken
    (get_or c.args.classes.now i 0) c.try_take.new.self.view c.in-Err.ensures.busy.0

pub returns-in-Err-clause-busy : goal.returns-in-Err-clause-busy
returns-in-Err-clause-busy c =
    let i = c.loop-class.class-index in (
      put_back c.args.seat.now.view c.loop-class.seat.view (take i c.args.classes.now) c.loop-class.pile.items c.loop-class.invariant.taken
          (get_or c.args.classes.now i 0) c.try_take.new.self.view c.put_each.new.seat.view
          c.in-Err.ensures.busy.0 c.put_each.ensures.put,
      c.put_each.ensures.put.rests,
      c.put_each.ensures.blank,
    )

pub loop-class-preserved : goal.loop-class-preserved
loop-class-preserved c =
    let i = c.loop-class.class-index in
    let xs = c.args.classes.now in
    let x = get_or xs i 0 in
    let lt = c.loop-class-test.true in
    let inv = c.loop-class.invariant in
    let next : suc i ≡ i + 1 = omega arith in
    let more : take (i + 1) xs ≡ take i xs ++ x ∷ [] = ap (λ (k : ℕ). take k xs) (sym next) ∙ take-suc xs i 0 lt in
    let below = inv.below lt in
    let there = subst (λ (n : ℕ). x < n) (ap length (sym inv.taken.looked.starts)) (c.requires.there i 0 lt) in
    let taken = taken_more c.args.seat.now.view c.loop-class.seat.view
    (take i xs) c.loop-class.pile.items inv.taken x c.in-Ok.cell c.try_take.new.self.view c.push_reserved.new.self.items below there c.in-Ok.ensures.ok.0
    c.in-Ok.ensures.ok.1 c.push_reserved.ensures.items in
    let held = ap (λ (v : View). v.held) c.in-Ok.ensures.ok.0 in
    let n = ap length c.push_reserved.ensures.items in
    let m = length-append c.loop-class.pile.items ((x, c.in-Ok.cell) ∷ []) in
    let count = inv.count in
    record {
      lot = c.try_take.ensures.lot ∙ inv.lot;
      taken = subst (λ (done : List ℕ). HasTaken done c.args.seat.now.view c.try_take.new.self.view c.push_reserved.new.self.items) (sym more) taken;
      tries = took_tried c.args.seat.now.view c.loop-class.seat.view c.try_take.new.self.view x c.in-Ok.cell inv.tries c.in-Ok.ensures.ok.0;
      below = λ lt'. subst (λ (hs : List Held). AllBelow (slice_index xs (i + 1)) hs) (sym held) (c.requires.ascend i lt', below);
      count = omega (arith, n, m, count);
      room = search rules;
      same = c.push_reserved.ensures.capacity ∙ inv.same;
    }

pub returns-clause-ok : goal.returns-clause-ok
returns-clause-ok c =
    subst (λ (done : List ℕ). HasTaken done c.args.seat.now.view c.loop-class.seat.view c.loop-class.pile.items)
    (take_all c.loop-class.class-index c.args.classes.now c.loop-class-test.false) c.loop-class.invariant.taken

pub returns-in-Err-clause-tries : goal.returns-in-Err-clause-tries
returns-in-Err-clause-tries c =
    let x = get_or c.args.classes.now c.loop-class.class-index 0 in
    busy_tried c.args.seat.now.view c.loop-class.seat.view c.try_take.new.self.view c.put_each.new.seat.view x c.loop-class.invariant.tries
    c.in-Err.ensures.busy.0 c.put_each.ensures.takes

pub returns-in-Err-clause-found : goal.returns-in-Err-clause-found
returns-in-Err-clause-found c =
    let i = c.loop-class.class-index in
    let xs = c.args.classes.now in
    busy_found xs i c.args.seat.now.view c.loop-class.seat.view c.try_take.new.self.view c.put_each.new.seat.view (get_or xs i 0)
    (slice_get-get_or xs i 0 c.loop-class-test.true) c.loop-class.invariant.tries c.in-Err.ensures.busy.0 c.put_each.ensures.takes
