use Rattle.std.proofs.Common.{◌∷◌, [], ap, ◌∙◌}
use Rattle.river_kernels.proofs.KernLemmas.{kern_of-tally}
use Rattle.saw_front.proofs.lists.tally.Goals as goal

pub returns : goal.returns
returns c =
    let reads = c.in_ok-reads.ensures ∙ ap (λ q. q ∷ []) c.in_ok-queue.ensures in
    λ i. record { label = c.in_ok-label.ensures i; kernel = kern_of-tally i; reads = reads i; writes = c.new.ensures i; vars = c.in_ok-vars.ensures i }
