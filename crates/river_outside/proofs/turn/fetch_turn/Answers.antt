use Rattle.std.proofs.Common.{List, ℕ, sym, subst, refl}
use Rattle.river_outside.specs.Causes.{Rose}
use Rattle.river_outside.specs.Order.{Fetch, Refused, EndsIn}
use Rattle.river_outside.proofs.Turns.{EndsIn-large, Stops-failed, Stops-absent, fetched-passes}
use Rattle.river_outside.proofs.turn.fetch_turn.Goals as goal

pub returns-in_ok-from_slice-in-Err-Large-clause-passes : goal.returns-in_ok-from_slice-in-Err-Large-clause-passes
returns-in_ok-from_slice-in-Err-Large-clause-passes g c next =
    let held = g.S.Shelf.held c.args.shelf.now in
    let name = c.args.name.now in
    let large = c.args.large.now in
    let end : EndsIn (Fetch name c.args.limit large next) held (Refused large) =
    EndsIn-large held name c.args.limit large next ((rw c.in-Err-Large.field-0-is at c.in-Err-Large.ensures.large) refl) in
    subst (λ (text : List ℕ). EndsIn (Fetch name c.args.limit large next) held (Refused text)) (sym c.in_ok-from_slice-in-Err-Large.ensures) end

pub returns-in_ok-failed-in-Err-Failed-clause-passes : goal.returns-in_ok-failed-in-Err-Failed-clause-passes
returns-in_ok-failed-in-Err-Failed-clause-passes g c next =
    let held = g.S.Shelf.held c.args.shelf.now in
    let rose = Rose g.S.Shelf.stays_at_last (g.S.Shelf.faults c.args.shelf.now) (g.S.Shelf.faults c.fetch.new.shelf) in
    Stops-failed held rose c.args.name.now c.args.limit c.args.large.now next c.in_ok-failed-in-Err-Failed.field-0 c.in_ok-failed-in-Err-Failed.ensures
    ((rw c.in-Err-Failed.field-0-is at c.in-Err-Failed.ensures.failed) refl)

pub returns-in_ok-absent-in-Err-Absent-clause-passes : goal.returns-in_ok-absent-in-Err-Absent-clause-passes
returns-in_ok-absent-in-Err-Absent-clause-passes g c next =
    let held = g.S.Shelf.held c.args.shelf.now in
    let rose = Rose g.S.Shelf.stays_at_last (g.S.Shelf.faults c.args.shelf.now) (g.S.Shelf.faults c.fetch.new.shelf) in
    Stops-absent held rose c.args.name.now c.args.limit c.args.large.now next c.in_ok-absent-in-Err-Absent.field-0 c.in_ok-absent-in-Err-Absent.ensures
    ((rw c.in-Err-Absent.field-0-is at c.in-Err-Absent.ensures.absent) refl)

pub returns-in-Ok-clause-passes : goal.returns-in-Ok-clause-passes
returns-in-Ok-clause-passes g c =
    let rose = Rose g.S.Shelf.stays_at_last (g.S.Shelf.faults c.args.shelf.now) (g.S.Shelf.faults c.fetch.new.shelf) in
    fetched-passes (g.S.Shelf.held c.args.shelf.now) rose c.args.name.now c.args.limit c.args.large.now c.in-Ok.bytes c.in-Ok.ensures.bytes
    c.in-Ok.ensures.within
