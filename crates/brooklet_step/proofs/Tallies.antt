-- A row that is added to a table.
use Rattle.std.proofs.Common.{◌≡◌, ℕ, ◌<◌, List, [], ◌∷◌, length, sym, ap, ◌∙◌, subst, arith}
use Rattle.river_base.specs.declared.item.Item as item
use Rattle.river_base.specs.Places.{each_grew, only}
use Rattle.river_base.proofs.PlaceLemmas.{each_grew-none}
use Rattle.river_kernels.specs.Kern.{Kern, tally}
use Rattle.brooklet_model.specs.Fire.{fire, values_of, tabs}
use Rattle.brooklet_step.specs.declared.emit.Emit.{Emit}
use Rattle.brooklet_step.specs.declared.state.State.{State}
use Rattle.brooklet_step.specs.Took.{HasLists}
use Rattle.brooklet_step.specs.Stands.{IsRow, Fires, MayTake}
use Rattle.brooklet_step.proofs.Leaves.{row_is}

-- it takes rows alone
pub tally_row : (k : Kern) (port : ℕ) (x : item.Item) (st : List State) → k ≡ tally → MayTake k port x st → IsRow x
tally_row k port x st ek t = let u = subst (λ (j : Kern). MayTake j port x st) ek t in (row_is u.fitted.fits.0 port u.reads x u.fitted.fits.1 u.item).0

-- and there is a list for its table
pub tally_room : (k : Kern) (out : Emit) → k ≡ tally → HasLists k out → 0 < length out.adds
tally_room k out ek r = let e = r.adds ∙ ap tabs ek in omega (arith, e)

-- adding a row to a table is the firing of a tally
pub tally_fires : (k : Kern) (port : ℕ) (x : item.Item) (st : List State) (out out' : Emit) → k ≡ tally → out'.outs ≡ out.outs
    → out'.adds ≡ each_grew out.adds (only 0 (values_of x ∷ [])) → Fires k out out' st st (fire k port x)
tally_fires k port x st out out' ek eo ea =
    let whole : Fires tally out out' st st (fire tally port x) =
    record { given = λ ks h. (record { outs = eo ∙ sym (each_grew-none out.outs); adds = ea }, h) } in
    subst (λ (j : Kern). Fires j out out' st st (fire j port x)) (sym ek) whole
