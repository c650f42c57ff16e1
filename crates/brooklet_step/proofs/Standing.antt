-- States that stand for some: their shape.
use Rattle.std.proofs.Common.{ℤ, List, [], ◌∷◌, length, sym, ap, ◌∙◌, subst}
use Rattle.river_kernels.specs.Kern.{Kern, code, filter, deal, collect, packed, unpack, window, cross, streamer, fused}
use Rattle.brooklet_model.specs.Firings.{Kept}
use Rattle.brooklet_model.specs.Shapes.{AreSlots as AreKept, IsFiltering, IsNone, IsOne, HasSlots, HasShape}
use Rattle.brooklet_step.specs.declared.state.State.{State}
use Rattle.brooklet_step.specs.Stands.{StandsForSlots, StandsForKept}

slots_shape : (zs : List ℤ) (st : List State) (ks : List Kept) → StandsForSlots zs st ks → HasSlots zs ks
slots_shape [] st ks h = subst IsNone (sym h.defined) tt
slots_shape (z ∷ zs) st ks h = subst (IsOne (AreKept (length (z ∷ zs)))) (sym h.defined) h.count

-- what states stand for has the kernel's shape
pub stands_shape : (k : Kern) (st : List State) (ks : List Kept) → StandsForKept k st ks → HasShape k ks
stands_shape (code k) st ks h = slots_shape k.starts st ks h
stands_shape (filter f) st ks h = subst (IsOne (IsFiltering (length f.starts))) (sym h.defined) (ap length (sym h.stands.keeps.kept) ∙ h.count)
stands_shape (deal ws) st ks h = absurd h
stands_shape (collect ws) st ks h = absurd h
stands_shape (packed k) st ks h = absurd h
stands_shape (unpack n) st ks h = absurd h
stands_shape (window w) st ks h = absurd h
stands_shape cross st ks h = absurd h
stands_shape (streamer s) st ks h = absurd h
stands_shape (fused a b at) st ks h = absurd h
stands_shape kernel st ks h = subst (HasShape kernel) (sym h.defined) tt
