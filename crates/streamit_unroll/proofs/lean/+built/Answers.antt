use Rattle.std.proofs.Common.{◌≡◌, ◌∙◌, ◌++◌, ◌∷◌, [], sym, ap, append_assoc, append-nil, map, take, arith}
use Rattle.std.proofs.lemmas.List.{map-append, take_more, take_all}
use Rattle.streamit_text.specs.Tree.{statement, in_turn, expression}
use Rattle.streamit_text.specs.Tree as source
use Rattle.streamit_text.proofs.Trees.{block-is}
use Rattle.streamit_unroll.specs.Lean.{discards, flat, lean, told}
use Rattle.streamit_unroll.proofs.Leans.{lean_block-is, lean-if}
use Rattle.streamit_unroll.proofs.lean.+built.Goals as goal

pub add_block-loop-s-init : goal.add_block-loop-s-init
add_block-loop-s-init t c = sym (append-nil (told c.args.out.now))

pub add_block-loop-s-preserved : goal.add_block-loop-s-preserved
add_block-loop-s-preserved t c =
    let items = c.as_slice-s-items.result.now in
    let i = c.loop-s.s-index in
    let s = c.s-item.result in
    c.in_ok-add.ensures {u = tt} ∙ ap (λ l. l ++ statement s ∷ []) c.loop-s.invariant
    ∙ append_assoc (told c.args.out.now) (map statement (take i items)) (statement s ∷ [])
    ∙ ap (λ l. told c.args.out.now ++ l)
    (sym (map-append statement (take i items) (s ∷ []))
    ∙ ap (map statement) (ap (λ x. take i items ++ x ∷ []) c.s-item.is ∙ sym (take_more items i s (omega arith))))

pub add_block-returns : goal.add_block-returns
add_block-returns t c =
    let items = c.as_slice-s-items.result.now in
    c.loop-s.invariant ∙ ap (λ l. told c.args.out.now ++ map statement l) (take_all c.loop-s.s-index items (omega arith) ∙ c.as_slice-s-items.ensures.value)

pub lean_block-returns : goal.lean_block-returns
lean_block-returns t c =
    let out = c.flush.new.out in
    let none : discards out.pops ≡ discards 0 = ap discards c.in_ok-flush.ensures.none in
    let all : flat (map lean out.items.items) ≡ map statement c.args.b.now.items.items =
    sym (append-nil (flat (map lean out.items.items))) ∙ ap (λ l. flat (map lean out.items.items) ++ l) (sym none) ∙ c.in_ok-flush.ensures.told
    ∙ c.in_ok-add_block.ensures {u = tt} ∙ ap (λ l. (flat (map lean l) ++ []) ++ map statement c.args.b.now.items.items) c.new.ensures.items in
    lean_block-is (record { items = out.items }) ∙ ap in_turn all ∙ sym (block-is c.args.b.now)

pub branch-returns : goal.branch-returns
branch-returns t c =
    lean-if c.args.cond c.in_ok-yes.yes c.in_ok-no.no
    ∙ (λ i. source.If (expression c.args.cond.now) (c.in_ok-yes.ensures {u = tt} i) (c.in_ok-no.ensures {u = tt} i) ∷ [])
