use Rattle.std.proofs.Common.{◌≡◌, ℕ, Option, ap, sym, ◌∙◌}
use Rattle.river_kernels.specs.declared.kernel.Kernel.{Kernel}
use Rattle.river_kernels.specs.Kern.{kern_of}
use Rattle.river_kernels.specs.Limits.{either, first_above, part_numbers}
use Rattle.river_kernels.proofs.KernLemmas.{kern_of-fused}
use Rattle.kern_check.proofs.LimitLemmas.{first_above-append}
use Rattle.kern_check.proofs.above.+first_above.Goals as goal

pub returns-in-Fused : goal.returns-in-Fused
returns-in-Fused t c =
    let found : Kernel → Option ℕ = λ k. first_above c.args.most (part_numbers c.args.limit (kern_of k)) in
    let a : c.first_above-number.result ≡ found c.in-Fused.first.value = c.first_above-number.ensures ∙ ap found c.deref-in-Fused.ensures in
    let b : c.first_above-in-Fused.result ≡ found c.in-Fused.second.value = c.first_above-in-Fused.ensures ∙ ap found c.deref-in-Fused-2.ensures in
    c.either.ensures ∙ ap (λ o. either o c.first_above-in-Fused.result) a ∙ ap (λ o. either (found c.in-Fused.first.value) o) b
    ∙ sym (ap (λ k. first_above c.args.most (part_numbers c.args.limit k))
    (ap kern_of c.in-Fused.is ∙ kern_of-fused c.in-Fused.first c.in-Fused.second c.in-Fused.at)
    ∙ first_above-append c.args.most (part_numbers c.args.limit (kern_of c.in-Fused.first.value)) (part_numbers c.args.limit (kern_of c.in-Fused.second.value)))
