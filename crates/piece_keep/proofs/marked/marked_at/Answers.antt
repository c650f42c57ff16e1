use Rattle.std.proofs.Common.{◌≡◌, ◌∙◌, Bool, sym, subst, drop}
use Rattle.std.specs.Prelude.{IfSome}
use Rattle.csv_cuts.specs.Cut.{is_marked}
use Rattle.piece_work.specs.Held.{bytes_of}
use Rattle.piece_keep.proofs.MarkBytes.{marked-is}
use Rattle.piece_keep.proofs.marked.marked_at.Goals as goal

pub returns-clause-marked : goal.returns-clause-marked
returns-clause-marked g c =
    let o = g.S.Shelf.held c.args.shelf.now in
    subst (λ (r : Bool). IfSome o (λ h. r ≡ is_marked (drop c.args.at (bytes_of (h c.args.file.now))))) (sym c.are_all.ensures)
    (marked-is o (g.S.Shelf.held c.byte_at.new.shelf) (g.S.Shelf.held c.byte_at-2.new.shelf) c.args.file.now c.args.at c.in_ok-first.first c.in_ok-second.second
    c.in_ok-third.third c.byte_at.ensures.stays (c.byte_at-2.ensures.stays ∙ c.byte_at.ensures.stays) c.in_ok-first.ensures.has c.in_ok-second.ensures.has
    c.in_ok-third.ensures.has)
