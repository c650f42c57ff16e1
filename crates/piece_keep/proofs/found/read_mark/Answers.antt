use Rattle.std.proofs.Common.{[]}
use Rattle.piece_keep.proofs.Finds.{marked-shorter, marked-behind, marked-other, marked-so}
use Rattle.piece_keep.proofs.found.read_mark.Goals as goal

pub returns-then-not-branch-clause-marked : goal.returns-then-not-branch-clause-marked
returns-then-not-branch-clause-marked g c =
    marked-shorter (g.S.Shelf.held c.args.shelf.now) c.args.file.now c.args.mark.now c.args.header c.args.program.now c.args.tables.now
    c.extent_in-extent.result.at c.extent_in-extent.ensures.at (rw c.if-not-branch.true at c.in_ok-feeds.ensures.shorter)

pub returns-then-branch-clause-marked : goal.returns-then-branch-clause-marked
returns-then-branch-clause-marked g c =
    marked-behind (g.S.Shelf.held c.args.shelf.now) (g.S.Shelf.held c.feeds.new.shelf) c.args.file.now c.args.mark.now c.args.header c.args.program.now
    c.args.tables.now c.extent_in-extent.result.at c.in_ok-marked_at.field-0 c.extent_in-extent.ensures.at c.feeds.ensures.stays
    c.in_ok-marked_at.ensures.marked c.if-branch.true

pub returns-then-branch-2-clause-marked : goal.returns-then-branch-2-clause-marked
returns-then-branch-2-clause-marked g c =
    marked-so (g.S.Shelf.held c.args.shelf.now) (g.S.Shelf.held c.feeds.new.shelf) c.args.file.now c.args.mark.now c.args.header c.args.program.now
    c.args.tables.now (record { extent = c.extent_in-extent.result; hasher = c.feeds.new.to }) c.in_ok-marked_at.field-0 c.in_ok-is_mark.field-0
    c.feeds.ensures.stays ((rw c.if-not-branch.false at c.in_ok-feeds.ensures.fed) [] c.new-hasher.ensures) c.in_ok-marked_at.ensures.marked c.if-branch.false
    c.in_ok-is_mark.ensures c.if-branch-2.true

pub returns-else-branch-2-clause-marked : goal.returns-else-branch-2-clause-marked
returns-else-branch-2-clause-marked g c =
    marked-other (g.S.Shelf.held c.args.shelf.now) c.args.file.now c.args.mark.now c.args.header c.args.program.now c.args.tables.now
    (record { extent = c.extent_in-extent.result; hasher = c.feeds.new.to }) c.in_ok-is_mark.field-0 c.extent_in-extent.ensures.at
    c.extent_in-extent.ensures.records ((rw c.if-not-branch.false at c.in_ok-feeds.ensures.fed) [] c.new-hasher.ensures) c.in_ok-is_mark.ensures
    c.if-branch-2.false
