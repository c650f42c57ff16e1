use Rattle.std.proofs.Common.{◌≡◌, ◌++◌, ◌∷◌, [], length, rules}
use Rattle.streamit_build.proofs.Knowing.{declares}
use Rattle.streamit_build.proofs.streams.Known.declare.Goals as goal

pub returns : goal.returns
returns c = λ known s k lower short t o n.
    let old = c.args.self.now in
    let items : c.note.new.self.declared.items ≡ old.declared.items ++ c.args.stream ∷ [] = search rules in
    let number : c.in-Ok.number ≡ length old.declared.items = search rules in
    declares c.note.result old c.note.new.self c.args.stream
    (record { number = c.in-Ok.number; ops = c.args.ops; nesting = c.args.depth }) c.args.name s known c.note.ensures.entries items lower short number k t o n
