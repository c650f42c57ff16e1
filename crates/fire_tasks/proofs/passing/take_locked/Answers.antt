use Rattle.std.proofs.Common.{◌<◌, ◌%◌, ℕ, List, length, sym, subst}
use Rattle.std.specs.Prelude.{All}
use Rattle.river_plan.specs.Forms.{plan_form}
use Rattle.class_locks.specs.Piles.{HasTaken, FoundTaken}
use Rattle.class_locks.specs.Views.{StandsIn}
use Rattle.fire_tasks.proofs.SeatLemmas.{grown_pile}
use Rattle.fire_tasks.proofs.TurnLemmas.{classes_there, cells_of, tried_busy, tried_took}
use Rattle.fire_tasks.proofs.passing.take_locked.Goals as goal

pub take_all-requires-clause-there : goal.take_all-requires-clause-there
take_all-requires-clause-there g c =
    let v = c.args.seat.now.view in
    subst (All (λ (k : ℕ). k < length v.starts)) (sym c.as_slice.ensures)
    (classes_there (plan_form c.args.plan.now) c.requires.valid v c.args.task.now c.requires.task c.requires.seat.cells)

pub take_at-taken-requires-clause-pile : goal.take_at-taken-requires-clause-pile
take_at-taken-requires-clause-pile g c =
    let v = c.args.seat.now.view in
    let u = c.take_all.new.seat.view in
    cells_of (plan_form c.args.plan.now) v u c.args.task.now.classes c.in-Ok.pile.items c.requires.seat.cells
    (subst (λ (cs : List ℕ). HasTaken cs v u c.in-Ok.pile.items) c.as_slice.ensures c.in-Ok.ensures.ok)

pub put_all-requires : goal.put_all-requires
put_all-requires g c =
    let u = c.take_all.new.seat.view in
    let h = c.in-Ok.ensures.ok in
    grown_pile u c.args.task.now.op c.in-Ok.pile.items c.take_at-taken.new.pile.items
    (subst (λ (ps : List ℕ). StandsIn (c.args.task.now.op % u.seats) ps) (sym h.looked.parts)
    (subst (λ (n : ℕ). StandsIn (c.args.task.now.op % n) c.args.seat.now.view.parts) (sym h.looked.seats) c.requires.seat.part))
    h.pile c.take_at-taken.ensures.gained

pub returns-in_default-clause-tried : goal.returns-in_default-clause-tried
returns-in_default-clause-tried g c =
    let v = c.args.seat.now.view in
    let w = c.take_all.new.seat.view in
    tried_busy (plan_form c.args.plan.now) v w c.args.task.now c.requires.task c.in_default.ensures.busy.0 c.in_default.ensures.busy.1
    c.in_default.ensures.tries
    (subst (λ (cs : List ℕ). FoundTaken cs v w) c.as_slice.ensures c.in_default.ensures.found)

pub returns-clause-tried : goal.returns-clause-tried
returns-clause-tried g c =
    let v = c.args.seat.now.view in
    let u = c.take_all.new.seat.view in
    let h = subst (λ (cs : List ℕ). HasTaken cs v u c.in-Ok.pile.items) c.as_slice.ensures c.in-Ok.ensures.ok in
    tried_took (plan_form c.args.plan.now) c.requires.valid v u c.put_all.new.seat.view c.args.task.now c.take_at-taken.new.task
    c.in-Ok.pile.items c.take_at-taken.new.pile.items
    c.requires.task c.requires.seat.part h c.in_ok-taken.ensures.taken c.put_all.ensures.put c.take_all.ensures.tries c.put_all.ensures.takes

pub returns-in_default-clause-sits : goal.returns-in_default-clause-sits
returns-in_default-clause-sits g c =
    let v = c.args.seat.now.view in
    let w = c.take_all.new.seat.view in
    let h = tried_busy (plan_form c.args.plan.now) v w c.args.task.now c.requires.task c.in_default.ensures.busy.0 c.in_default.ensures.busy.1
    c.in_default.ensures.tries
    (subst (λ (cs : List ℕ). FoundTaken cs v w) c.as_slice.ensures c.in_default.ensures.found) in
    record { round = h.sat.round; rests = h.sat.rests }

pub returns-clause-sits : goal.returns-clause-sits
returns-clause-sits g c =
    let v = c.args.seat.now.view in
    let u = c.take_all.new.seat.view in
    let t = subst (λ (cs : List ℕ). HasTaken cs v u c.in-Ok.pile.items) c.as_slice.ensures c.in-Ok.ensures.ok in
    let h = tried_took (plan_form c.args.plan.now) c.requires.valid v u c.put_all.new.seat.view c.args.task.now c.take_at-taken.new.task
    c.in-Ok.pile.items c.take_at-taken.new.pile.items
    c.requires.task c.requires.seat.part t c.in_ok-taken.ensures.taken c.put_all.ensures.put c.take_all.ensures.tries c.put_all.ensures.takes in
    record { round = h.sat.round; rests = h.sat.rests }
