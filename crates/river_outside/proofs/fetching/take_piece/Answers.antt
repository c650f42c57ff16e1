use Rattle.river_outside.proofs.Starts.{IsStart-piece}
use Rattle.river_outside.proofs.fetching.take_piece.Goals as goal

pub returns-in-Ok-extend-clause-start : goal.returns-in-Ok-extend-clause-start
returns-in-Ok-extend-clause-start g c =
    let bytes = rw c.len-2.ensures at c.in-Ok.ensures.bytes in
    IsStart-piece (g.S.Shelf.held c.args.shelf.now) c.args.name.now c.args.got.now c.extend.new.self c.read.new.into _ c.in-Ok.count c.in-Ok.ensures.bound
    c.in-Ok-extend.ensures.ok bytes
