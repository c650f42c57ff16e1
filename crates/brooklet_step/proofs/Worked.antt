-- A firing at a state to which no firings lead.
use Rattle.std.proofs.Common.{◌≡◌, ℕ, List, [], ◌∷◌, refl, sym, subst, ◌∙◌, arith}
use Rattle.std.specs.Prelude.{slice_get}
use Rattle.river_base.specs.declared.kind.QueueType.{QueueType}
use Rattle.river_kernels.specs.Fits.{rows}
use Rattle.brooklet_model.specs.Firings.{Kept, Slots}
use Rattle.brooklet_model.specs.Fire.{fire}
use Rattle.brooklet_step.specs.declared.state.State.TheVariants as state
use Rattle.brooklet_step.specs.Given.{held_at, IsPlainBy}
use Rattle.brooklet_step.specs.Worked.{give_slot, single_row, SlotsAreGiven}
use Rattle.brooklet_step.proofs.Fires.{grown_list}
use Rattle.brooklet_step.proofs.GivenFires.{one_plain}
use Rattle.brooklet_step.proofs.GivenLemmas.{at-plain, of_plain}
use Rattle.brooklet_step.proofs.Moved.{step_law}

-- the worked row on slots
pub slots_law : SlotsAreGiven
slots_law z v reads writes vars out out' st' f hi b fires =
    let now : List Kept = Slots (z ∷ []) ∷ [] in
    let x = single_row v in
    let g = step_law give_slot reads writes vars 0 x x (state.Slots (z ∷ []) ∷ []) st' out out' now f
    (record { slots = z ∷ []; code = refl; count = refl }) hi fires (record { shape = refl; holds = tt })
    (record { slots = z ∷ []; code = refl; defined = refl; count = refl }) (of_plain reads 0 x (plain reads 0 f.0) hi)
    (at-plain reads 0 [] (x ∷ []) (plain reads 0 f.0)) in
    grown_list 1 out.outs out'.outs (λ p. held_at writes p [] ((fire give_slot 0 x now).outs p)) 0 b.outs g.outs (omega arith)
    ∙ at-plain writes 0 [] ((fire give_slot 0 x now).outs 0) (plain writes 0 f.1)
  where
    plain : (ts : List QueueType) (p : ℕ) → ts ≡ rows 1 ∷ [] → IsPlainBy (slice_get ts p)
    plain ts p e = subst (λ (l : List QueueType). IsPlainBy (slice_get l p)) (sym e) (one_plain (rows 1) tt p)
