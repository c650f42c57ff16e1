use Rattle.std.proofs.Common.{sym, ◌∙◌}
use Rattle.std.specs.Cmp.Lexicographic.{pointwise_decides}
use Rattle.river_kernels.proofs.EqualLemmas.{queue_decides}
use Rattle.kern_check.proofs.ports.are_same_types.Goals as goal

pub returns : goal.returns
returns c =
    let d = pointwise_decides queue_decides c.args.a.now c.args.b.now in
    (λ h. d.0 (sym c.eq.ensures ∙ h), λ e. c.eq.ensures ∙ d.1 e)
