use Rattle.std.proofs.Common.{arith, subst, ap}
use Rattle.std.specs.List.{list_any}
use Rattle.std.proofs.lemmas.List.{take_all}
use Rattle.river_base.specs.Name.{name_eq}
use Rattle.params_text.specs.Parameters.{Finds}
use Rattle.params_text.proofs.Found.{found_more}
use Rattle.params_text.proofs.known.fill.Goals as goal

pub names-init : goal.names-init
names-init c = λ n. ap (list_any (name_eq n)) c.requires

pub names-preserved : goal.names-preserved
names-preserved c =
    found_more c.names.set.keys c.insert_full.new.self.keys c.args.names.now c.names.each-index c.each-item.result (omega arith) c.each-item.is
    c.names.invariant c.in_ok-insert_full.ensures.keys

pub returns : goal.returns
returns c = subst (Finds c.names.set.keys) (take_all c.names.each-index c.args.names.now (omega arith)) c.names.invariant
