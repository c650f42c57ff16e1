use Rattle.std.proofs.Common.{refl}
use Rattle.streamit_text.specs.Program.{adds_of}
use Rattle.streamit_build.specs.declared.builder.Declared.TheVariants as made
use Rattle.streamit_build.proofs.Judging.{Made, pipe_declared}
use Rattle.streamit_build.proofs.streams.Known.pipeline.Goals as goal

pub returns : goal.returns
returns c = λ known k.
    let cs = c.in_ok-children.children in
    let d = made.Pipeline cs.front cs.last in
    let m : Made c.args.self.now c.declare.new.self d c.args.name cs.ops c.in_ok-depth.depth = c.in_ok-declare.ensures {u = tt} in
    let all = c.in_ok-children.ensures known k in
    pipe_declared c.args.self.now c.declare.new.self d c.args.name
    (adds_of c.args.adds.now) cs c.in_ok-depth.depth all.0 known refl c.in_ok-depth.ensures m k all.1 all.2
