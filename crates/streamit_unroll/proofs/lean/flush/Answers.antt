use Rattle.std.proofs.Common.{◌∙◌, ◌++◌, ap, append-nil, map}
use Rattle.streamit_unroll.specs.declared.lean.Lean as made
use Rattle.streamit_unroll.specs.Lean.{flat, lean}
use Rattle.streamit_unroll.proofs.Leans.{told_last, lean-pops}
use Rattle.streamit_unroll.proofs.lean.flush.Goals as goal

pub returns-in_ok-push-clause-told : goal.returns-in_ok-push-clause-told
returns-in_ok-push-clause-told c =
    let n = c.args.out.now.pops in
    append-nil (flat (map lean c.push.new.self.items)) ∙ told_last c.args.out.now.items.items (made.Pops n) c.push.new.self.items c.in_ok-push.ensures.items
    ∙ ap (λ l. flat (map lean c.args.out.now.items.items) ++ l) (lean-pops n)
