use Rattle.std.proofs.Common.{◌≡◌, [], ◌∷◌, subst}
use Rattle.std.specs.Prelude.{IfOk}
use Rattle.brooklet_step.specs.declared.state.State.TheVariants as state
use Rattle.brooklet_step.proofs.start.unpack_states.Goals as goal

pub returns : goal.returns
returns c = subst (λ s. IfOk c.only.result (λ st. st ≡ state.Join s ∷ [])) c.in_ok-state.ensures c.only.ensures
