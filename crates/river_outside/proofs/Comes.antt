-- From some points to later ones.
use Rattle.std.proofs.Common.{ℕ, List, refl, sym, subst, inl, inr}
use Rattle.std.specs.Prelude.{Option, Some}
use Rattle.river_outside.specs.Held.{Held}
use Rattle.river_outside.specs.Order.{Order, Ends, Fetch, Verdict, EndsIn, ReachesFetch}
use Rattle.river_outside.specs.Order.{Comes}

-- a point comes to itself
pub Comes-same : (order : Order) (held : Option Held) → Comes order held order
Comes-same (Ends v) held = refl
Comes-same (Fetch name limit large next) held = inl refl

-- one part of the way, and then the other
pub Comes-on : (from mid later : Order) (held : Option Held) → Comes from held mid → Comes mid held later → Comes from held later
Comes-on (Ends v) mid later held first second = subst (λ (o : Order). Comes o held later) (sym first) second
Comes-on (Fetch n l g k) mid later held (inl here) second = subst (λ (o : Order). Comes o held later) (sym here) second
Comes-on (Fetch n l g k) mid later held (inr far) second = inr (far.0, far.1, far.2, Comes-on (k far.0) mid later held far.3 second)

-- an end of the later points is an end of the earlier ones
pub EndsIn-later : (from later : Order) (held : Option Held) (v : Verdict) → Comes from held later → EndsIn later held v → EndsIn from held v
EndsIn-later (Ends w) later held v far end = subst (λ (o : Order). EndsIn o held v) (sym far) end
EndsIn-later (Fetch n l g k) later held v (inl here) end = subst (λ (o : Order). EndsIn o held v) (sym here) end
EndsIn-later (Fetch n l g k) later held v (inr far) end =
    (Some far.0, far.1, rw far.2 (EndsIn-later (k far.0) later held v far.3 end))

-- what is reached later is reached
pub Reaches-later : (from later : Order) (held : Option Held) (file : List ℕ) → Comes from held later → ReachesFetch later held file
    → ReachesFetch from held file
Reaches-later (Ends w) later held file far turn = subst (λ (o : Order). ReachesFetch o held file) (sym far) turn
Reaches-later (Fetch n l g k) later held file (inl here) turn = subst (λ (o : Order). ReachesFetch o held file) (sym here) turn
Reaches-later (Fetch n l g k) later held file (inr far) turn =
    inr (far.0, far.1, far.2, Reaches-later (k far.0) later held file far.3 turn)
