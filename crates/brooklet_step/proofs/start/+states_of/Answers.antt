use Rattle.std.proofs.Common.{◌≡◌, sym, ap, ◌∙◌, subst}
use Rattle.river_kernels.proofs.KernLemmas.{kern_of-packed, kern_of-fused}
use Rattle.river_kernels.specs.Kern.{kern_of, fused, packed}
use Rattle.brooklet_model.specs.Shapes.{IsFormed}
use Rattle.brooklet_step.specs.Initial.{AreFirstStates}
use Rattle.brooklet_step.proofs.Starts.{if_ok, first_at, packed_first, fused_first}
use Rattle.brooklet_step.proofs.start.+states_of.Goals as goal

pub returns-in-Packed : goal.returns-in-Packed
returns-in-Packed t c =
    let k = kern_of c.deref.result.now in
    let ek : kern_of c.args.kernel.now ≡ packed k = ap kern_of c.in-Packed.is ∙ kern_of-packed c.in-Packed.inner
    ∙ ap (λ j. packed (kern_of j)) (sym c.deref.ensures) in
    if_ok _ _ c.states_of.result (λ st h. first_at (kern_of c.args.kernel.now) (packed k) st ek (packed_first k st h)) c.states_of.ensures

pub returns-in_ok-append-in-Fused : goal.returns-in_ok-append-in-Fused
returns-in_ok-append-in-Fused t c =
    let a = kern_of c.deref-in-Fused.result.now in
    let b = kern_of c.deref-in-Fused-2.result.now in
    let at = c.in-Fused.at in
    let ea = ap kern_of c.deref-in-Fused.ensures in
    let eb = ap kern_of c.deref-in-Fused-2.ensures in
    let ek : kern_of c.args.kernel.now ≡ fused a b at = ap kern_of c.in-Fused.is ∙ kern_of-fused c.in-Fused.first c.in-Fused.second at
    ∙ ap (λ i. fused i (kern_of c.in-Fused.second.value) at) (sym ea) ∙ ap (λ i. fused a i at) (sym eb) in
    let st = c.in_ok-states-in-Fused.states in
    let more = c.in_ok-states_of-in-Fused.field-0 in
    subst (λ i. AreFirstStates i c.append.new.self) (sym ek)
    (subst (AreFirstStates (fused a b at)) (sym c.in_ok-append-in-Fused.ensures.ok)
    (fused_first a b at st more (subst IsFormed ek c.requires) c.in_ok-states-in-Fused.ensures c.in_ok-states_of-in-Fused.ensures))
