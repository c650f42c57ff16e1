use Rattle.std.proofs.Common.{◌≡◌, ◌+◌, length, rules}
use Rattle.piece_work.proofs.Blocks.{window-next}
use Rattle.piece_work.proofs.windows.next_block.Goals as goal

pub returns-in-Ok-extend_from_slice-clause-so : goal.returns-in-Ok-extend_from_slice-clause-so
returns-in-Ok-extend_from_slice-clause-so g c =
    let at : c.args.start + c.len.result ≡ c.args.start + length c.args.window.now.items = search rules in
    window-next (g.S.Shelf.held c.args.shelf.now) c.args.file.now c.args.window.now.items c.extend_from_slice.new.self.items c.read.new.into c.args.start
    (c.args.start + c.len.result) c.in-Ok.count at c.in-Ok.ensures.bound c.in-Ok-extend_from_slice.ensures.items c.in-Ok.ensures.bytes c.requires.so
