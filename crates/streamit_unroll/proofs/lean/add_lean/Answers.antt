use Rattle.std.proofs.Common.{◌≡◌, ◌∙◌, ◌++◌, sym, ap, append-nil, map}
use Rattle.streamit_unroll.specs.Lean.{discards, flat, lean}
use Rattle.streamit_unroll.proofs.Leans.{told_last}
use Rattle.streamit_unroll.proofs.lean.add_lean.Goals as goal

pub returns : goal.returns
returns c =
    let mid = c.flush.new.out in
    let none : discards mid.pops ≡ discards 0 = ap discards c.in_ok-flush.ensures.none in
    ap (λ l. flat (map lean c.push.new.self.items) ++ l) none ∙ append-nil (flat (map lean c.push.new.self.items))
    ∙ told_last mid.items.items c.args.step c.push.new.self.items c.in_ok-push.ensures.items
    ∙ ap (λ l. l ++ lean c.args.step)
    (sym (append-nil (flat (map lean mid.items.items))) ∙ ap (λ l. flat (map lean mid.items.items) ++ l) (sym none) ∙ c.in_ok-flush.ensures.told)
