use Rattle.std.proofs.Common.{◌≤◌, ◌+◌, length, arith, ap, ◌∙◌}
use Rattle.std.proofs.lemmas.List.{length-drop}
use Rattle.piece_work.proofs.Blocks.{window-on, window-told, end-told}
use Rattle.lap_cuts.proofs.Held.{laps-on, laps-held}
use Rattle.lap_cuts.proofs.files.laps_from.Goals as goal

pub loop-window-preserved : goal.loop-window-preserved
loop-window-preserved g c =
    let inv = c.loop-window.invariant in
    let o = g.S.Shelf.held c.args.shelf.now in
    let window = c.fill.new.window.items in
    let full : 67108864 + 3 ≤ length c.fill.new.window.items = rw c.if-branch.true at c.in_ok-fill.ensures.full in
    let so = window-told o (g.S.Shelf.held c.loop-window.shelf) c.args.file.now window c.loop-window.start inv.stays c.in_ok-fill.ensures.so in
    let took = rw c.as_slice.ensures.value at c.in_ok-count.ensures.took in
    record {
      stays = c.fill.ensures.stays ∙ inv.stays;
      later = omega (arith, inv.later, c.fill.ensures.later);
      to_later = omega (arith, inv.to_later, c.laps_of_front.ensures.later);
      within = (let e = ap length c.let_go.ensures in
          let n = length-drop c.in_ok-count.count window in omega (arith, e, n, took.within, c.in_ok-fill.ensures.within));
      so = window-on o c.args.file.now window c.let_go.new.window.items c.loop-window.start c.in_ok-count.count took.within (omega (arith, full)) c.let_go.ensures so;
      taken =
          laps-on o c.args.file.now window c.args.from c.loop-window.start c.in_ok-count.count c.args.laps.records c.args.laps.step
          (g.P.PieceSink.taken c.args.to.now) (g.P.PieceSink.taken c.loop-window.to) (g.P.PieceSink.taken c.laps_of_front.new.to) took so inv.taken;
    }

pub returns-then-branch-2-clause-cut : goal.returns-then-branch-2-clause-cut
returns-then-branch-2-clause-cut g c =
    let inv = c.loop-window.invariant in
    let o = g.S.Shelf.held c.args.shelf.now in
    let window = c.fill.new.window.items in
    laps-held o c.args.file.now window c.args.from c.loop-window.start c.args.laps.records c.args.laps.step (g.P.PieceSink.taken c.args.to.now)
    (g.P.PieceSink.taken c.loop-window.to) (g.P.PieceSink.taken c.laps_of_rest.new.to)
    (window-told o (g.S.Shelf.held c.loop-window.shelf) c.args.file.now window c.loop-window.start inv.stays c.in_ok-fill.ensures.so) inv.taken
    (end-told o (g.S.Shelf.held c.loop-window.shelf) c.args.file.now (c.loop-window.start + length window) inv.stays
    (rw c.if-branch.false at c.in_ok-fill.ensures.end))
    (rw (c.if-branch-2.true, c.as_slice-2.ensures.value) at c.in_ok-laps_of_rest.ensures.took)
