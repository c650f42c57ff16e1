use Rattle.std.proofs.Common.{◌≡◌, suc, length, Ok, subst}
use Rattle.params_model.specs.declared.fault.Fault.TheVariants.{Budget}
use Rattle.params_model.specs.Making.{demand}
use Rattle.params_front.proofs.Parts.{begun-stands}
use Rattle.params_front.proofs.making.Making.begin.Goals as goal

pub returns-clause-begun : goal.returns-clause-begun
returns-clause-begun c = λ m d h.
    let s = c.args.self.now in
    let k = suc (length c.args.above.now) in
    begun-stands s m k c.args.size c.args.depth d h (subst (λ b. demand b k Budget ≡ Ok tt) c.has_room-fits.ensures c.in_ok-demand.ensures)
