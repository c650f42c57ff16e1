use Rattle.std.proofs.Common.{length, arith, sym, subst, ap, ◌∙◌}
use Rattle.fire_run.specs.Frames.{AreBundlesOf}
use Rattle.fire_run.proofs.SplitNet.{dealt_all, dealt_moves, few_cells, seats_long, split_bundles}
use Rattle.fire_run.proofs.net.Net.split.Goals as goal

pub begin-requires-clause-classes : goal.begin-requires-clause-classes
begin-requires-clause-classes c = let few = few_cells c.requires.net.0 c.args.self.cells c.requires.net.1 c.requires.net.2.is.cells in omega (arith, few)

pub bundles_of-requires-clause-seats : goal.bundles_of-requires-clause-seats
bundles_of-requires-clause-seats c = ap length c.in-Ok.ensures.seats.1 ∙ seats_long c.in-Ok.ensures.seats.0 c.args.workers c.args.self.cells 0 c.args.workers

pub returns-clause-bundles : goal.returns-clause-bundles
returns-clause-bundles c = λ p v h.
    let w = c.requires.workers.0 in
    subst (λ n. AreBundlesOf p (record { net = n; workers = c.args.workers }) c.in_ok-bundles.bundles.items) (sym c.of-whole.ensures)
    (split_bundles c.in-Ok.ensures.seats.0 c.args.self c.args.workers c.in-Ok.seats.items c.in_ok-bundles.bundles.items
    (omega (arith, w)) c.in_ok-bundles.ensures.many
    c.in-Ok.ensures.seats.1 c.in_ok-bundles.ensures.shares p v h)

pub returns-clause-dealt : goal.returns-clause-dealt
returns-clause-dealt c =
    let w = c.requires.workers.0 in
    dealt_all c.in-Ok.ensures.seats.0 c.args.self c.args.workers c.in-Ok.seats.items c.in_ok-bundles.bundles.items
    (omega (arith, w)) c.in_ok-bundles.ensures.many
    c.in-Ok.ensures.seats.1 c.in_ok-bundles.ensures.shares

pub returns-clause-moves : goal.returns-clause-moves
returns-clause-moves c =
    let w = c.requires.workers.0 in
    dealt_moves c.in-Ok.ensures.seats.0 c.args.self c.args.workers c.in-Ok.seats.items c.in_ok-bundles.bundles.items
    (omega (arith, w)) c.in_ok-bundles.ensures.many
    c.in-Ok.ensures.seats.1 c.in_ok-bundles.ensures.shares
