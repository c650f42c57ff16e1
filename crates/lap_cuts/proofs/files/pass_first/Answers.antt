use Rattle.std.proofs.Common.{◌+◌, length, IfSome}
use Rattle.river_outside.specs.Held.{EndsBy}
use Rattle.lap_cuts.proofs.Held.{window-passed, passed-header, on-false}
use Rattle.lap_cuts.proofs.files.pass_first.Goals as goal

pub returns-clause-so : goal.returns-clause-so
returns-clause-so g c =
    window-passed (g.S.Shelf.held c.args.shelf.now) c.args.file.now c.fill.new.window.items c.let_go.new.window.items c.in-Some.count
    (rw c.as_slice.ensures.value at c.in-Some.ensures.within) c.let_go.ensures c.in_ok-full.ensures.so

pub returns-clause-passed : goal.returns-clause-passed
returns-clause-passed g c =
    passed-header (g.S.Shelf.held c.args.shelf.now) c.args.file.now c.fill.new.window.items c.in-Some.count c.in_ok-full.full
    (rw c.as_slice.ensures.value at c.in-Some.ensures.ends) c.in_ok-full.ensures.so
    (on-false c.in_ok-full.full (IfSome (g.S.Shelf.held c.args.shelf.now) (λ h. EndsBy (h c.args.file.now) (0 + length c.fill.new.window.items)))
    c.in_ok-full.ensures.end)
