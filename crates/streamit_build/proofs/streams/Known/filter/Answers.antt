use Rattle.std.proofs.Common.{refl}
use Rattle.kern_rows.specs.Forms.{filter_form}
use Rattle.streamit_text.specs.Program.{filter_tree}
use Rattle.streamit_build.specs.declared.builder.Declared.TheVariants as made
use Rattle.streamit_build.proofs.Judging.{Made, filter_declared}
use Rattle.streamit_build.proofs.streams.Known.filter.Goals as goal

pub returns : goal.returns
returns c = λ known k.
    let f = c.in_ok-filter.filter in
    let d = made.Filter c.args.name f in
    let m : Made c.args.self.now c.declare.new.self d c.args.name 1 1 = c.in_ok-declare.ensures {u = tt} in
    filter_declared c.args.self.now c.declare.new.self d c.args.name (filter_tree c.args.tree.now)
    (filter_form f) known refl c.requires.short m k c.in_ok-filter.ensures
