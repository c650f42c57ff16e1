use Rattle.std.proofs.Common.{◌≤◌, ◌+◌, length, arith, ap, ◌∙◌}
use Rattle.std.proofs.lemmas.List.{length-drop}
use Rattle.csv_cuts.proofs.Sizes.{within-more}
use Rattle.piece_work.proofs.Blocks.{window-on, taken-on, cut-held, uncut-held, stuck-held, window-told, end-told}
use Rattle.piece_work.proofs.windows.cut_windows.Goals as goal

pub returns-then-count-eq0-clause-refused : goal.returns-then-count-eq0-clause-refused
returns-then-count-eq0-clause-refused g c =
    let inv = c.loop-window.invariant in
    let o = g.S.Shelf.held c.args.shelf.now in
    let full : c.args.size.bytes + 3 ≤ length c.fill.new.window.items = rw c.if-branch.true at c.in_ok-fill.ensures.full in
    stuck-held o c.args.file.now c.fill.new.window.items c.args.from c.loop-window.start c.args.size.bytes (g.P.PieceSink.taken c.args.to.now)
    (g.P.PieceSink.taken c.loop-window.to) inv.behind
    (window-told o (g.S.Shelf.held c.loop-window.shelf) c.args.file.now c.fill.new.window.items c.loop-window.start inv.stays c.in_ok-fill.ensures.so)
    inv.taken full (rw c.as_slice.ensures.value at (c.in_ok-count.ensures.none c.if-count-eq0.true))

pub loop-window-preserved : goal.loop-window-preserved
loop-window-preserved g c =
    let inv = c.loop-window.invariant in
    let o = g.S.Shelf.held c.args.shelf.now in
    let window = c.fill.new.window.items in
    let full : c.args.size.bytes + 3 ≤ length c.fill.new.window.items = rw c.if-branch.true at c.in_ok-fill.ensures.full in
    let so = window-told o (g.S.Shelf.held c.loop-window.shelf) c.args.file.now window c.loop-window.start inv.stays c.in_ok-fill.ensures.so in
    let took = rw c.as_slice.ensures.value at c.in_ok-count.ensures.cut in
    record {
      stays = c.fill.ensures.stays ∙ inv.stays;
      later = omega (arith, inv.later, c.fill.ensures.later);
      to_later = omega (arith, inv.to_later, c.cut_front.ensures.later);
      behind = omega (arith, inv.behind);
      within = (let e = ap length c.let_go.ensures in
          let n = length-drop c.in_ok-count.count window in omega (arith, e, n, took.within, c.in_ok-fill.ensures.within));
      so = window-on o c.args.file.now window c.let_go.new.window.items c.loop-window.start c.in_ok-count.count took.within (omega (arith, full)) c.let_go.ensures so;
      sized =
          within-more c.args.size.records c.args.size.bytes (g.P.PieceSink.taken c.args.to.now) (g.P.PieceSink.taken c.loop-window.to)
          (g.P.PieceSink.taken c.cut_front.new.to) inv.sized c.in_ok-count.ensures.within;
      taken =
          taken-on o c.args.file.now window c.args.from c.loop-window.start c.in_ok-count.count (g.P.PieceSink.taken c.args.to.now)
          (g.P.PieceSink.taken c.loop-window.to) (g.P.PieceSink.taken c.cut_front.new.to) took so inv.taken;
    }

pub returns-then-branch-2-clause-cut : goal.returns-then-branch-2-clause-cut
returns-then-branch-2-clause-cut g c =
    let inv = c.loop-window.invariant in
    let o = g.S.Shelf.held c.args.shelf.now in
    let window = c.fill.new.window.items in
    cut-held o c.args.file.now window c.args.from c.loop-window.start c.args.skip_first (g.P.PieceSink.taken c.args.to.now)
    (g.P.PieceSink.taken c.loop-window.to) (g.P.PieceSink.taken c.cut_rest.new.to) inv.behind
    (window-told o (g.S.Shelf.held c.loop-window.shelf) c.args.file.now window c.loop-window.start inv.stays c.in_ok-fill.ensures.so) inv.taken
    (end-told o (g.S.Shelf.held c.loop-window.shelf) c.args.file.now (c.loop-window.start + length window) inv.stays
    (rw c.if-branch.false at c.in_ok-fill.ensures.end))
    (rw (c.if-branch-2.true, c.as_slice-2.ensures.value) at c.in_ok-cut_rest.ensures.cut)

pub returns-else-branch-2-clause-refused : goal.returns-else-branch-2-clause-refused
returns-else-branch-2-clause-refused g c =
    let inv = c.loop-window.invariant in
    let o = g.S.Shelf.held c.args.shelf.now in
    let window = c.fill.new.window.items in
    uncut-held o c.args.file.now window c.args.from c.loop-window.start c.args.size.bytes (g.P.PieceSink.taken c.args.to.now)
    (g.P.PieceSink.taken c.loop-window.to) inv.behind
    (window-told o (g.S.Shelf.held c.loop-window.shelf) c.args.file.now window c.loop-window.start inv.stays c.in_ok-fill.ensures.so) inv.taken
    (end-told o (g.S.Shelf.held c.loop-window.shelf) c.args.file.now (c.loop-window.start + length window) inv.stays
    (rw c.if-branch.false at c.in_ok-fill.ensures.end))
    (rw (c.if-branch-2.false, c.as_slice-2.ensures.value) at c.in_ok-cut_rest.ensures.uncut)

pub returns-then-branch-2-clause-within : goal.returns-then-branch-2-clause-within
returns-then-branch-2-clause-within g c =
    within-more c.args.size.records c.args.size.bytes (g.P.PieceSink.taken c.args.to.now) (g.P.PieceSink.taken c.loop-window.to)
    (g.P.PieceSink.taken c.cut_rest.new.to) c.loop-window.invariant.sized c.in_ok-cut_rest.ensures.within
