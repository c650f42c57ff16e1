use Rattle.std.proofs.Common.{◌≡◌, ◌++◌, [], ◌∷◌, sym, subst}
use Rattle.std.specs.Prelude.{OnOk}
use Rattle.river_base.specs.Held.{flats}
use Rattle.brooklet_step.proofs.firing.add_flat.Goals as goal

pub returns-in-Flat : goal.returns-in-Flat
returns-in-Flat c = subst (λ x. OnOk c.push.result (c.push.new.self ≡ c.args.all.now ++ flats (x ∷ []))) (sym c.in-Flat.is) c.push.ensures.ok
