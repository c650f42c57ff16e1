use Rattle.std.proofs.Common.{subst}
use Rattle.kern_changes.specs.Counted.{WentAll, CameAll}
use Rattle.kern_changes.proofs.Making.{made_both}
use Rattle.kern_changes.proofs.keyed.KeyedContent.make.Goals as goal

pub returns : goal.returns
returns c =
    made_both c.args.change.now c.args.self.now c.take_all.new.self c.put_all.new.self
    (subst (λ l. WentAll l c.args.self.now c.take_all.new.self) c.as_slice.ensures c.in_ok-take_all.ensures)
    (subst (λ l. CameAll l c.take_all.new.self c.put_all.new.self) c.as_slice-2.ensures c.in_ok-put_all.ensures)
