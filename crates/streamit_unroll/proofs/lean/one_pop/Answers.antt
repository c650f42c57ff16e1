use Rattle.std.proofs.Common.{◌∙◌, ◌++◌, ◌∷◌, [], sym, ap, append_assoc, map}
use Rattle.streamit_text.specs.Tree.{Discard}
use Rattle.streamit_unroll.specs.Lean.{discards, flat, lean}
use Rattle.streamit_unroll.proofs.Leans.{discards_more}
use Rattle.streamit_unroll.proofs.lean.one_pop.Goals as goal

pub returns : goal.returns
returns c =
    let items = flat (map lean c.args.out.now.items.items) in
    let n = c.args.out.now.pops in
    ap (λ k. items ++ discards k) c.in_ok-out.ensures ∙ ap (λ l. items ++ l) (discards_more n) ∙ sym (append_assoc items (discards n) (Discard ∷ []))
